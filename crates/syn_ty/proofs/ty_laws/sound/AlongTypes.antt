-- Where the read of a form of types answers, the stream stands further on, over the same of what it holds.
use Rattle.std.proofs.Common.{Bool, List, Option, Some, None}
use Rattle.syn_ty.proofs.ty_laws.words.Tokens.{Span, GroupToken, Paren, Many, Item, Reader}
use Rattle.syn_ty.proofs.ty_laws.words.Paths.{ReadValues, Along}
use Rattle.syn_ty.proofs.ty_laws.words.Forms.{ParenContent, Object, Opaque, TypePlace, NoPlus}
use Rattle.syn_ty.proofs.ty_laws.words.Types.{Point, Readers, a_bound, a_type, some_arguments, BoundLifetimes, Path, QSelf, TraitBound, TypeParamBound, TypePath, TypeTree}
use Rattle.syn_forms.specs.declared.groups.ParenContent.TheVariants as held
use Rattle.syn_ty.specs.ty.Reading as reading
use Rattle.token_core.specs.declared.error.ErrorKind.{ErrorKind}
use Rattle.token_core.specs.Tokens as token
use Rattle.syn_ty.proofs.ty_laws.sound.AlongBounds.{binder_along}
use Rattle.syn_forms.proofs.along_laws.Forms as forms
use Rattle.syn_ty.proofs.ty_laws.sound.AlongPaths.{maybe_qualified_along, path_along, rest_along}
use Rattle.syn_path.proofs.Along.{lifetime, opening}
use Rattle.syn_forms.proofs.along_laws.Kit.{further}

-- ---- tokens

pub optional_dyn_along : Along reading.optional_dyn
unfolding reading.optional_dyn
optional_dyn_along = search further

pub optional_star_along : Along reading.optional_star
unfolding reading.optional_star
optional_star_along = search further

pub builtin_along : Along reading.builtin
unfolding reading.builtin
builtin_along = search (further, opening)

-- ---- by what was read

module _ {A E : Type 0} where
  pub needs_along : (test : TypeParamBound A E → Bool) (kind : ErrorKind) (from : Span) (v : Many (TypeParamBound A E) token.Plus) → Along (reading.needs test kind from v)
  unfolding reading.needs
  needs_along = search further

  pub dyn_of_along : (from : List Item) (w : token.Dyn) (s : Option token.Star) (v : Many (TypeParamBound A E) token.Plus) → Along (reading.dyn_of from w s v)
  unfolding reading.dyn_of
  dyn_of_along from w None v = search further
  dyn_of_along from w (Some s) v = search further

  pub macro_after_along : (y : Path A E) → Along (reading.macro_after y)
  macro_after_along = search (further, forms.call_after_along)

  pub builtin_type_along : (from : List Item) → Along (reading.builtin_type {A = A} {E = E} from)
  builtin_type_along = search (further, builtin_along)

-- ---- forms

module _ {A E : Type 0} {r : Readers A E} (al : (q : Point) → Along (r q)) where
  pub ptr_along : Along (reading.ptr r)
  unfolding reading.ptr
  ptr_along = search (further, forms.ptr_along, al (a_type NoPlus))

  pub reference_along : Along (reading.reference r)
  unfolding reading.reference
  reference_along = search (further, forms.reference_along, al (a_type NoPlus))

  pub return_type_along : (place : TypePlace) → Along (reading.return_type r place)
  unfolding reading.return_type
  return_type_along place = search (further, forms.returned_along, al (a_type place))

  -- ---- trait objects and `impl`

  pub object_bounds_along : (from : Span) (plus : Bool) (x : TypeParamBound A E) → Along (reading.object_bounds r from plus x)
  unfolding reading.object_bounds
  object_bounds_along = search (further, forms.bounds_from_along, al (a_bound Object), needs_along)

  pub lifetime_object_along : Along (reading.lifetime_object r)
  unfolding reading.lifetime_object
  lifetime_object_along = search (further, object_bounds_along)

  pub dyn_type_along : (plus : Bool) → Along (reading.dyn_type r plus)
  unfolding reading.dyn_type
  dyn_type_along plus = search (further, optional_star_along, al (a_bound Object), object_bounds_along, dyn_of_along) depth 9

  pub opaque_bounds_along : (plus : Bool) → Along (reading.opaque_bounds r plus)
  unfolding reading.opaque_bounds
  opaque_bounds_along = search (further, forms.bounds_along, al (a_bound Opaque))

  pub impl_bounds_along : (from : Span) (plus : Bool) → Along (reading.impl_bounds r from plus)
  unfolding reading.impl_bounds
  impl_bounds_along = search (further, opaque_bounds_along, needs_along)

  pub impl_trait_along : (plus : Bool) → Along (reading.impl_trait r plus)
  unfolding reading.impl_trait
  impl_trait_along = search (further, impl_bounds_along)

  -- ---- parentheses

  pub each_object_from_along : (x : TypeParamBound A E) → Along (reading.each_object_from r x)
  each_object_from_along = search (further, forms.each_bound_from_along, al (a_bound Object))

  pub paren_or_object_along : (plus : Bool) (p : Paren) (x : TypeTree A E) (o : Option (TypeParamBound A E)) → Along (reading.paren_or_object r plus p x o)
  paren_or_object_along plus p x None = search further
  paren_or_object_along plus p x (Some y) = search (further, each_object_from_along)

  pub of_parens_along : (plus : Bool) (p : Paren) (c : ParenContent (TypeTree A E) (Many (TypeParamBound A E) token.Plus) (TraitBound A E)) → Along (reading.of_parens r plus p c)
  unfolding reading.of_parens
  of_parens_along plus p (held.Elements v) = search further
  of_parens_along plus p (held.Object v) = search further
  of_parens_along plus p (held.Asked x) = search (further, each_object_from_along)
  of_parens_along plus p (held.One x) = search (further, paren_or_object_along)

  pub parens_type_along : Along (reading.parens r)
  unfolding reading.parens
  parens_type_along = search further

  pub paren_type_along : (plus : Bool) → Along (reading.paren_type r plus)
  unfolding reading.paren_type
  paren_type_along plus = search (further, parens_type_along, of_parens_along)

  -- ---- paths

  pub path_object_along : (plus : Bool) (l : Option (BoundLifetimes A E)) (p : Path A E) → Along (reading.path_object r plus l p)
  path_object_along = search (further, forms.bounds_from_along, al (a_bound Object))

  pub after_path_along : (plus : Bool) (l : Option (BoundLifetimes A E)) (p : Path A E) → Along (reading.after_path r plus l p)
  unfolding reading.after_path
  after_path_along plus l p = search (further, macro_after_along, path_object_along)

  pub path_or_object_along : (plus : Bool) (l : Option (BoundLifetimes A E)) (x : Option (QSelf A E) × Path A E) → Along (reading.path_or_object r plus l x)
  unfolding reading.path_or_object
  path_or_object_along plus l (Some q, p) = search further
  path_or_object_along plus l (None, p) = search (further, after_path_along)

  -- ---- invisible groups

  pub group_with_segments_along : (g : GroupToken) (x : TypeTree A E) (o : Option (TypePath A E)) → Along (reading.group_with_segments r g x o)
  unfolding reading.group_with_segments
  group_with_segments_along g x (Some p) = search (further, rest_along al)
  group_with_segments_along g x None = search (further, path_along al)

  pub with_arguments_along : (p : TypePath A E) → Along (reading.with_arguments r p)
  with_arguments_along p = search (further, al some_arguments, rest_along al)

  pub group_with_arguments_along : (g : GroupToken) (x : TypeTree A E) (o : Option (TypePath A E)) → Along (reading.group_with_arguments r g x o)
  unfolding reading.group_with_arguments
  group_with_arguments_along g x None = search further
  group_with_arguments_along g x (Some p) = search (further, with_arguments_along)

  pub group_without_segments_along : (g : GroupToken) (x : TypeTree A E) → Along (reading.group_without_segments r g x)
  unfolding reading.group_without_segments
  group_without_segments_along g x = search (further, group_with_arguments_along)

  pub after_group_along : (g : GroupToken × TypeTree A E) → Along (reading.after_group r g)
  unfolding reading.after_group
  after_group_along g = search (further, group_with_segments_along, group_without_segments_along)

  pub group_type_along : Along (reading.group_type r)
  unfolding reading.group_type
  group_type_along = search (further, after_group_along)

  pub unsafe_binder_along : (from : List Item) (place : TypePlace) → Along (reading.unsafe_binder r from place)
  unfolding reading.unsafe_binder
  unsafe_binder_along from place = search (further, forms.angled_along lifetime, al (a_type (reading.last_place place)))

-- ---- arrays, and an argument by itself

module _ {A E : Type 0} (values : ReadValues E) (r : Readers A E) where
  pub slice_or_array_along : Along (reading.slice_or_array values r)
  unfolding reading.slice_or_array
  slice_or_array_along = search further

-- ---- a type

module _ {A E : Type 0} (attrs : Reader (List A)) (values : ReadValues E) {r : Readers A E} (al : (q : Point) → Along (r q)) where
  pub fn_inputs_along : Along (reading.fn_inputs attrs values r)
  unfolding reading.fn_inputs
  fn_inputs_along = search further

  pub fn_ptr_parts_along : Along (reading.fn_ptr_parts attrs values r)
  unfolding reading.fn_ptr_parts
  fn_ptr_parts_along = search (further, forms.fn_head_along, fn_inputs_along, return_type_along al NoPlus)

  pub fn_ptr_after_along : (l : Option (BoundLifetimes A E)) → Along (reading.fn_ptr_after attrs values r l)
  unfolding reading.fn_ptr_after
  fn_ptr_after_along = search (further, fn_ptr_parts_along)

  pub named_type_along : (place : TypePlace) (from : List Item) (l : Option (BoundLifetimes A E)) → Along (reading.named_type attrs values r place from l)
  unfolding reading.named_type
  named_type_along place from l = search (further, unsafe_binder_along al, fn_ptr_after_along, builtin_type_along, maybe_qualified_along al, path_or_object_along al) depth 9

  pub bound_type_along : (place : TypePlace) (from : List Item) → Along (reading.bound_type attrs values r place from)
  unfolding reading.bound_type
  bound_type_along place from = search (further, binder_along al, named_type_along)

  pub by_last_tokens_along : (plus : Bool) → Along (reading.by_last_tokens attrs values r plus)
  unfolding reading.by_last_tokens
  by_last_tokens_along plus = search (further, impl_trait_along al, lifetime_object_along al) depth 9

  pub by_token_along : (plus : Bool) → Along (reading.by_token attrs values r plus)
  unfolding reading.by_token
  by_token_along plus = search (further, dyn_type_along al, slice_or_array_along values r, ptr_along al, reference_along al, by_last_tokens_along) depth 9

  pub unbound_type_along : (place : TypePlace) (from : List Item) → Along (reading.unbound_type attrs values r place from)
  unfolding reading.unbound_type
  unbound_type_along place from = search (further, paren_type_along al, named_type_along, by_token_along)

  pub type_step_along : (place : TypePlace) → Along (reading.type_step attrs values r place)
  unfolding reading.type_step
  type_step_along place = search (further, group_type_along al, bound_type_along, unbound_type_along)
