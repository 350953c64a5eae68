-- What the laws of patterns name of patterns.
pub use Rattle.syn_pat.specs.declared.pat.FieldPatOf.{FieldPatOf}
pub use Rattle.syn_pat.specs.declared.pat.PatOf.{map-PatOf, out-PatOf}
pub use Rattle.syn_pat.specs.declared.pat.PatOf.TheFolds.{fold-roll-PatOf, fold_out-PatOf}
pub use Rattle.syn_pat.specs.declared.place.PatPlace.{PatPlace}
pub use Rattle.syn_pat.specs.declared.place.PatPlace.TheVariants.{Element, LeadingVert, Multi, Single}
pub use Rattle.syn_pat.specs.pat.Admitted.{AreCases, AreElements, AreFields, IsBinding, IsBoxed, IsBoxedName, IsField, IsPat, IsSingle, IsSingleWhere, IsSubpat, a_binding, a_binding_pat, a_box, a_boxed_name, a_call, a_const, a_literal, a_mutable_reference, a_paren, a_path, a_range, a_reference, a_rest, a_single, a_slice, a_struct, a_subpat, a_tuple, a_tuple_struct, a_verbatim, a_wild, boxed, cases, fields_alone, fields_and_rest, is_tuple, one_after_vert, some_after_vert, some_cases, with_colon, without_colon}
unfoldable pub use Rattle.syn_pat.specs.pat.Knot.{pat}
pub use Rattle.syn_pat.specs.pat.Pats.{Attrs, FieldPat, Pat, PatIdent, PatOver, PatRange, PatRangeBound, PatReference, PatRest, PatSlice, PatType, binding_of, field_of, is_rest, or_of, pat_range_of, path_pat_of, reference_of, rest_of, slice_of, struct_of, tuple_struct_of, wild_of}
pub use Rattle.syn_pat.specs.pat.Printing.{types_shown}
pub use Rattle.syn_pat.specs.pat.Reading.{Fields, Readers, ReadersOver, fields_from, no_fields, one_field, open_range, pat_step, put_field, qpath, type_names, values}
unfoldable pub use Rattle.syn_pat.specs.pat.Reading.{after_bound, after_path, begins_bound, begins_path, binding, bound_or_range, box_pat, elements, ends_range, field, fields, paren_content, paren_or_tuple, path_pat, range_after, reference, sees_bound_path, sees_half_open, sees_named_path, sees_self_path, sees_vert, single, slice}
pub use Rattle.syn_pat.specs.pat.Spelling.{IsConstBlock, IsEnd, IsHead, IsPatCall, IsPatPath, IsRange, IsStart, a_const_block, a_const_end, a_const_start, a_literal_end, a_literal_start, a_pat_path, a_path_end, a_path_start, is_binding, is_binding_name, is_self, lone_word, outer_spelt, types_to, values_spelt, with_both, without_end, without_start}
pub use Rattle.syn_pat.specs.pat.Spelt.{SpellsGuarded, SpellsPat, SpellsPatType, a_pat_type, pats_to, with_guard, without_guard}
