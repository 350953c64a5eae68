-- What the laws of types name of types, paths, bounds and parameters.
pub use Rattle.syn_ty.specs.declared.generics.BoundConst.{BoundConst}
pub use Rattle.syn_ty.specs.declared.generics.BoundLifetimesOf.{BoundLifetimesOf}
pub use Rattle.syn_ty.specs.declared.generics.CapturedParam.{CapturedParam}
pub use Rattle.syn_ty.specs.declared.generics.LifetimeParamOf.{LifetimeParamOf}
pub use Rattle.syn_ty.specs.declared.generics.PreciseCapture.{PreciseCapture}
pub use Rattle.syn_ty.specs.declared.generics.TraitBoundModifiers.{TraitBoundModifiers}
pub use Rattle.syn_ty.specs.declared.generics.TraitBoundOf.{out-roll-TraitBoundOf}
pub use Rattle.syn_ty.specs.declared.generics.TypeParamBoundOf.{roll-TypeParamBoundOf}
pub use Rattle.syn_ty.specs.declared.generics.TypeParamOf.{out-TypeParamOf}
pub use Rattle.syn_ty.specs.declared.path.PathArgumentsOf.{out-PathArgumentsOf}
pub use Rattle.syn_ty.specs.declared.ty.Abi.{Abi}
pub use Rattle.syn_ty.specs.declared.ty.FnPtrVariadicOf.{FnPtrVariadicOf}
pub use Rattle.syn_ty.specs.declared.ty.TypeInferOf.{TypeInferOf}
pub use Rattle.syn_ty.specs.declared.ty.TypeMacroOf.{TypeMacroOf}
pub use Rattle.syn_ty.specs.declared.ty.TypeNeverOf.{TypeNeverOf}
pub use Rattle.syn_ty.specs.declared.ty.TypeOf.{TypeOf}
pub use Rattle.syn_ty.specs.declared.ty.TypePathOf.{out-TypePathOf, out-roll-TypePathOf}
pub use Rattle.syn_ty.specs.generics.Bounds.{AreBounds, AreModifiers, IsBound, IsCapture, IsCaptured, IsConstness, IsFor, IsTrait, IsTraitBound, a_bare_bound, a_bound_in_parens, a_capture, a_capture_bound, a_conditional_const, a_const, a_lifetime_bound, a_lifetime_captured, a_name_captured, a_trait, a_trait_asked, a_trait_bound, a_trait_for, bound_and_plus, last_bound, last_plus, no_bounds, no_constness, some_modifiers}
pub use Rattle.syn_ty.specs.generics.Members.{Member, adds, comma_of, each, firsts, lacks, members, others, some_left, sort, sorted}
pub use Rattle.syn_ty.specs.generics.Modifiers.{no_modifiers}
pub use Rattle.syn_ty.specs.generics.NormalShapes.{binder_by, capture, colon, many}
pub use Rattle.syn_ty.specs.generics.Parameters.{AreBoundsAfter, AreLifetimes, IsAnyType, IsConstParam, IsGiven, IsLifetimeParam, IsParam, IsTypeParam, a_bare_param, a_const_param, a_constant_param, a_lifetime_param, a_lifetime_with_bounds, a_lone_lifetime, a_named_param, a_type_param, after_colon, any_type, given, no_colon}
pub use Rattle.syn_ty.specs.generics.Params.{Colon, Eq, bound_lifetimes_of, const_param_of, held_bound, lifetime_param_of, named_bound, trait_bound_of, type_param_of}
pub use Rattle.syn_ty.specs.generics.Reading.{binder_after, param_after, trait_of}
unfoldable pub use Rattle.syn_ty.specs.generics.Reading.{binder, bound_step, captured_comma, in_binder, in_generics, listed_captured, optional_binder, param_step, trait_after, trait_in}
pub use Rattle.syn_ty.specs.generics.Shapes.{binder_start}
pub use Rattle.syn_ty.specs.generics.Spelling.{IsBinder, a_binder}
pub use Rattle.syn_ty.specs.path.Arguments.{ArgumentPlace, ConstraintEnds, IsArgument, IsItemName, a_const_argument, a_constraint, a_lifetime_argument, a_type_argument, alone, an_assoc_const, an_assoc_type, an_item, an_item_with_arguments, between_angles}
pub use Rattle.syn_ty.specs.path.Paths.{Sep, angle_of, assoc_const_of, assoc_type_of, constraint_of, is_empty, is_lifetime, is_none, lifetime_layer, no_arguments, nothing, parens_of, segment_of, without}
pub use Rattle.syn_ty.specs.path.Reading.{ItemName, after_type, generics_layer, is_mod_style, item_of_path, maybe_qualified, path, return_of, takes_signature, with_name}
unfoldable pub use Rattle.syn_ty.specs.path.Reading.{argument_step, arguments_step, ends_constraint, parenthesized, sees_const, sees_lone_lifetime, sees_signature, signed}
pub use Rattle.syn_ty.specs.path.Shapes.{as_written}
pub use Rattle.syn_ty.specs.path.Signed.{AreSigned, IsBoundPath, IsDropped, IsInput, IsParens, IsReturn, IsSigned, a_pair_dropped, a_parens, a_sep_dropped, a_signed, an_input, an_output, no_output, nothing_dropped, signed_after, signed_last, with_parens, without_parens}
pub use Rattle.syn_ty.specs.path.Spelling.{AreSegments, IsAngle, IsAnyPath, IsArguments, IsNoTry, IsPath, IsQualified, IsSegment, Styled, a_path, a_word, a_word_with_arguments, an_angle, by_type, by_type_as_path, is_segment_word, qualified, unqualified}
pub use Rattle.syn_ty.specs.ty.Admitted.{IsBorrow, IsBracketed, IsCounted, IsElement, IsEnclosed, IsPointer, IsTupled, IsType, IsTypeCall, IsVerbatimType, NoLifetime, a_borrow, a_bound_macro, a_builtin, a_dyn_star, a_fn_type, a_lifetime_borrow, a_macro, a_mutable_borrow, a_never_type, a_paren_type, a_path_type, a_pointer, a_ptr_type, a_reference_type, a_slice_type, a_tuple_type, a_verbatim_type, an_array_type, an_element, an_impl_type, an_infer_type, an_object_with_dyn, an_object_without_dyn, an_unsafe_binder, bracketed, counted, enclosed, no_element, some_elements}
pub use Rattle.syn_ty.specs.ty.Functions.{AreInputs, IsAbi, IsFnPtr, IsMutSelf, IsNamedArg, IsVariadic, a_fn_ptr, a_named_argument, a_verbatim_argument, an_abi, dots, is_argument_name, is_name, mut_self, mut_self_typed, named_dots, named_mut_self, plain_inputs, variadic_inputs}
pub use Rattle.syn_ty.specs.ty.Knot.{read_at, reads_below, step}
unfoldable pub use Rattle.syn_ty.specs.ty.Knot.{bound, read, ty}
pub use Rattle.syn_ty.specs.ty.Objects.{AreBareBounds, AreFurther, AreObjectBounds, IsAsked, IsBoundList, IsDyn, IsFirst, IsImpl, IsObject, a_dyn, a_first, a_first_for, an_asked, an_impl, an_object, asked_first, asked_in_two, ends_lone, held_and_plus, in_parens, lifetime_first, none_further, object_bounds, one_bound, path_alone, path_and_plus, several_bounds, some_further}
pub use Rattle.syn_ty.specs.ty.Parts.{AreMarked, End, Holds, Manner, Parts, clearly, closed, going_on, loosely, no_further, one_further, plainly}
pub use Rattle.syn_ty.specs.ty.Points.{Point, Readers, Tree, a_bound, a_param, a_type, an_argument, some_arguments}
pub use Rattle.syn_ty.specs.ty.Printing.{last_comma, lone_comma}
pub use Rattle.syn_ty.specs.ty.Reading.{as_path, first_bound, is_trait, last_place, object_of, trait_layer, unqualified_layer}
unfoldable pub use Rattle.syn_ty.specs.ty.Reading.{begins_named, sees_bindable, sees_builtin, sees_call, sees_fn_ptr, sees_unsafe_binder, type_step}
pub use Rattle.syn_ty.specs.ty.Spelling.{IsInfer, IsMacroType, IsNever, IsOptional, Relation, a_macro_type, a_never, absent, an_infer, present}
pub use Rattle.syn_ty.specs.ty.Spelt.{IsPathAlone, a_path_alone, spelt_to, turn}
pub use Rattle.syn_ty.specs.ty.Trees.{AngleBracketed, AssocType, BoundLifetimes, ConstParam, Constraint, GenericArgument, GenericParam, Layer, NamedArg, Parenthesized, Path, PathArguments, PathSegment, QSelf, ReturnType, TraitBound, TypeArray, TypeFnPtr, TypeGroup, TypeImplTrait, TypeParam, TypeParamBound, TypeParen, TypePath, TypePtr, TypeReference, TypeSlice, TypeTraitObject, TypeTree, TypeTuple}
pub use Rattle.syn_ty.specs.ty.Types.{And, Comma, Mut, Plus, Star, array_of, comma, fn_ptr_with, impl_trait_with, infer_of, macro_type_of, named_arg_of, never_of, paren_of, ptr_of, qualified_with, reference_of, slice_of, trait_object_with, tuple_of}
