-- Where the read of a binder, of a bound or of a parameter answers, the stream stands further on, over the same of what it holds.
use Rattle.std.proofs.Common.{Bool, List, Option, Some, None}
use Rattle.syn_ty.proofs.ty_laws.words.Tokens.{Reader}
use Rattle.syn_ty.proofs.ty_laws.words.Paths.{ReadValues, Along}
use Rattle.syn_ty.proofs.ty_laws.words.Forms.{BoundPlace, ParamPlace}
use Rattle.syn_ty.proofs.ty_laws.words.Types.{CapturedParam, TraitBoundModifiers, Point, Readers, BoundLifetimes, Path}
use Rattle.syn_forms.specs.declared.places.ParamPlace.TheVariants as p
use Rattle.syn_ty.specs.generics.Reading as reading
use Rattle.token_core.specs.Tokens as token
use Rattle.syn_forms.proofs.along_laws.Forms as forms
use Rattle.syn_ty.proofs.ty_laws.sound.AlongPaths.{path_along, signed_along}
use Rattle.syn_ty.proofs.ty_laws.sound.Modifiers.{modifiers_along}
use Rattle.syn_forms.proofs.along_laws.Kit.{further}

-- ---- captures

pub captured_or_along : {other : Reader CapturedParam} → Along other → Along (reading.captured_or other)
captured_or_along h = search (further, h)

pub listed_captured_along : Along reading.listed_captured
unfolding reading.listed_captured
listed_captured_along = search (further, captured_or_along)

pub captured_comma_along : Along reading.captured_comma
unfolding reading.captured_comma
captured_comma_along = search further

pub capture_along : Along reading.capture
unfolding reading.capture
capture_along = search (further, listed_captured_along, captured_comma_along)

-- ---- bounds

module _ {A E : Type 0} where
  pub trait_of_along : (m : TraitBoundModifiers) (x : Option (BoundLifetimes A E)) (q : Option token.Question) (y : Path A E) → Along (reading.trait_of m x q y)
  trait_of_along m (Some x) (Some q) y = search further
  trait_of_along m (Some x) None y = search further
  trait_of_along m None q y = search further

module _ {A E : Type 0} {r : Readers A E} (al : (q : Point) → Along (r q)) where
  pub binder_along : Along (reading.binder r)
  unfolding reading.binder
  binder_along = search (further, forms.binder_along, al)

  pub optional_binder_along : Along (reading.optional_binder r)
  unfolding reading.optional_binder
  optional_binder_along = search (further, binder_along)

  pub binder_after_along : (x : Option (BoundLifetimes A E)) (q : Option token.Question) → Along (reading.binder_after r x q)
  binder_after_along None (Some q) = search (further, optional_binder_along)
  binder_after_along None None = search further
  binder_after_along (Some x) q = search further

  pub trait_after_along : (x : Option (BoundLifetimes A E)) (m : TraitBoundModifiers) → Along (reading.trait_after r x m)
  unfolding reading.trait_after
  trait_after_along x m = search (further, forms.question_along, binder_after_along, path_along al, signed_along al, trait_of_along)

  pub trait_in_along : (consts : Bool) → Along (reading.trait_in r consts)
  unfolding reading.trait_in
  trait_in_along consts = search (further, optional_binder_along, modifiers_along, trait_after_along)

  pub trait_in_place_along : (place : BoundPlace) → Along (reading.trait_in_place r place)
  unfolding reading.trait_in_place
  trait_in_place_along place = search (further, trait_in_along)

  pub capture_in_place_along : (place : BoundPlace) → Along (reading.capture_in_place r place)
  unfolding reading.capture_in_place
  capture_in_place_along = search (further, capture_along)

  pub bound_step_along : (place : BoundPlace) → Along (reading.bound_step r place)
  unfolding reading.bound_step
  bound_step_along = search (further, capture_in_place_along, trait_in_place_along)

-- ---- parameters

module _ {A : Type 0} (attrs : Reader (List A)) where
  pub lifetime_after_along : (a : List A) → Along (reading.lifetime_after attrs a)
  lifetime_after_along = search (further, forms.lifetime_parts_along)

module _ {A E : Type 0} (attrs : Reader (List A)) (values : ReadValues E) {r : Readers A E} (g : Along attrs) (value : Along values.const_argument) (al : (q : Point) → Along (r q)) where
  pub type_after_along : (a : List A) → Along (reading.type_after attrs values r a)
  type_after_along = search (further, forms.type_parts_along, al)

  pub const_after_along : (a : List A) → Along (reading.const_after attrs values r a)
  const_after_along = search (further, forms.const_parts_along, al, value)

  pub in_binder_along : (a : List A) → Along (reading.in_binder attrs values r a)
  unfolding reading.in_binder
  in_binder_along a = search (further, type_after_along a, lifetime_after_along attrs a, const_after_along a) depth 9

  pub in_generics_along : (a : List A) → Along (reading.in_generics attrs values r a)
  unfolding reading.in_generics
  in_generics_along a = search (further, lifetime_after_along attrs a, type_after_along a, const_after_along a) depth 9

  pub param_after_along : (place : ParamPlace) (a : List A) → Along (reading.param_after attrs values r place a)
  param_after_along p.Binder a = search (further, in_binder_along)
  param_after_along p.Generics a = search (further, in_generics_along)

  pub param_step_along : (place : ParamPlace) → Along (reading.param_step attrs values r place)
  unfolding reading.param_step
  param_step_along place = search (further, g, param_after_along)
