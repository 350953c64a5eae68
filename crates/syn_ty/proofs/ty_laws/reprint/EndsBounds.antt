-- Bounds, parameters and generic arguments do not end in a mark that is glued to what follows, but perhaps in a `!`, where what stands within them does not: parameters and arguments where something follows.
use Rattle.std.proofs.Common.{Bool, true, List, Option}
use Rattle.syn_ty.proofs.ty_laws.words.Tokens.{Ident, is_mark, Toks}
use Rattle.syn_ty.proofs.ty_laws.words.Paths.{Ended, Shut}
use Rattle.syn_ty.proofs.ty_laws.words.Forms.{BoundPlace, ParamPlace}
use Rattle.syn_ty.proofs.ty_laws.words.Types.{BoundConst, CapturedParam, LifetimeParamOf, PreciseCapture, TraitBoundModifiers, IsCaptured, a_lifetime_captured, a_name_captured, IsCapture, a_capture, IsConstness, no_constness, a_const, a_conditional_const, AreModifiers, some_modifiers, IsFor, IsTrait, a_trait, a_trait_for, a_trait_asked, IsTraitBound, a_trait_bound, IsBound, a_lifetime_bound, a_bare_bound, a_bound_in_parens, a_capture_bound, AreBounds, no_bounds, last_plus, last_bound, bound_and_plus, IsLifetimeParam, a_lone_lifetime, a_lifetime_with_bounds, AreBoundsAfter, no_colon, after_colon, IsAnyType, any_type, IsTypeParam, a_type_param, IsConstParam, a_const_param, IsParam, a_lifetime_param, a_named_param, a_constant_param, a_bare_param, ArgumentPlace, IsItemName, an_item, an_item_with_arguments, IsArgument, a_lifetime_argument, a_type_argument, a_const_argument, an_assoc_type, an_assoc_const, a_constraint, Manner, clearly, End, Parts, Relation, AngleBracketed, BoundLifetimes, ConstParam, GenericArgument, GenericParam, Path, TraitBound, TypeParam, TypeParamBound, TypeTree}
use Rattle.token_core.specs.Tokens as token
use Rattle.syn_path.proofs.Ends.{chars_on, group_on, lifetime_over, listed_on, word_on, word_over}
use Rattle.syn_ty.proofs.ty_laws.reprint.EndsParts.{Ending, binder_on, comma_on, given_on, gt_over, optional_on, plus_on, plus_over}
use Rattle.syn_ty.proofs.ty_laws.reprint.EndsPaths.{bound_path_over}

-- ---- captures

captured_on : (x : CapturedParam) (l r : Toks) → IsCaptured x l r → Ended r → Ended l
captured_on x l r (a_lifetime_captured i) h = lifetime_over i h.apart
captured_on x l r (a_name_captured e) h = word_on _ _ h.apart

capture_over : {x : PreciseCapture} {l r : Toks} → IsCapture true x l r → Shut r → Ended l
capture_over (a_capture i (is_mark j) v g) h = let k = chars_on j (listed_on (λ b. captured_on) comma_on v (gt_over g h)) in word_over i k.apart

-- ---- modifiers

constness_on : {consts : Bool} {x : Option BoundConst} {l r : Toks} → IsConstness consts x l r → Ended r → Ended l
constness_on no_constness h = h
constness_on (a_const e i) h = word_over i h.apart
constness_on (a_conditional_const e i) h = group_on _ _ _ _ h.apart

modifiers_on : {consts : Bool} {x : TraitBoundModifiers} {l r : Toks} → AreModifiers consts x l r → Ended r → Ended l
modifiers_on (some_modifiers i j) h = constness_on i (optional_on j (λ x l r k u. word_over k u.apart) h)

module _ {A E : Type 0} (part : Manner → Parts A E) (up : Ending (part clearly)) where
  pub for_on : {x : BoundLifetimes A E} {l r : Toks} → IsFor part clearly x l r → Ended r → Ended l
  for_on i h = binder_on i (up.param _) h

  -- ---- trait bounds

  trait_over : {consts : Bool} {e : End} {o : Option (BoundLifetimes A E)} {m : TraitBoundModifiers} {u : Option token.Question} {x : Path A E} {l r : Toks} → IsTrait part clearly consts e o m u x l r → Shut r → Ended l
  trait_over (a_trait m i) h = modifiers_on m (bound_path_over part up i h)
  trait_over (a_trait_for f m i) h = for_on f (modifiers_on m (bound_path_over part up i h))
  trait_over (a_trait_asked m (is_mark j) i) h = modifiers_on m (chars_on j (bound_path_over part up i h))

  trait_bound_over : {consts : Bool} {e : End} {x : TraitBound A E} {l r : Toks} → IsTraitBound part clearly consts e x l r → Shut r → Ended l
  trait_bound_over (a_trait_bound i) h = trait_over i h

  -- ---- bounds in a place

  pub bound_over : {place : BoundPlace} {e : End} {x : TypeParamBound A E} {l r : Toks} → IsBound part clearly place e x l r → Shut r → Ended l
  bound_over (a_lifetime_bound i) h = lifetime_over i h
  bound_over (a_bare_bound i) h = trait_bound_over i h
  bound_over (a_bound_in_parens i) h = group_on _ _ _ _ h
  bound_over (a_capture_bound e i) h = capture_over i h

  module _ {place : BoundPlace} {Ends : Bool → Type 0} where
    pub bounds_shut : {first : Bool} {e : End} {xs : List (TypeParamBound A E)} {ps : List token.Plus} {l r : Toks} → AreBounds part clearly place Ends first e xs ps l r → Shut r → Shut l
    bounds_shut (no_bounds e) h = h
    bounds_shut (last_plus e) h = h
    bounds_shut (last_bound i) h = let k = up.bound _ _ _ _ _ i h in k.apart
    bounds_shut (bound_and_plus i o p j) h = let k = plus_over p (bounds_shut j h) in let m = up.bound _ _ _ _ _ i k.apart in m.apart

    pub bounds_on : {first : Bool} {e : End} {xs : List (TypeParamBound A E)} {ps : List token.Plus} {l r : Toks} → AreBounds part clearly place Ends first e xs ps l r → Ended r → Ended l
    bounds_on (no_bounds e) h = h
    bounds_on (last_plus e) h = h
    bounds_on (last_bound i) h = up.bound _ _ _ _ _ i h.apart
    bounds_on (bound_and_plus i o p j) h = let k = plus_on _ _ _ p (bounds_on j h) in up.bound _ _ _ _ _ i k.apart

  -- ---- parameters, where something follows

  lifetime_param_on : {x : LifetimeParamOf A} {l r : Toks} → IsLifetimeParam part clearly x l r → Ended r → Ended l
  lifetime_param_on (a_lone_lifetime i j) h = up.attrs _ _ _ i (lifetime_over j h.apart)
  lifetime_param_on (a_lifetime_with_bounds i j (is_mark c) v) h =
      let k = chars_on c (listed_on (λ b x l r i u. lifetime_over i u.apart) plus_on v h) in up.attrs _ _ _ i (lifetime_over j k.apart)

  bounds_after_on : {c : Option token.Colon} {xs : List (TypeParamBound A E)} {ps : List token.Plus} {l r : Toks} → AreBoundsAfter part clearly c xs ps l r → Ended r → Ended l
  bounds_after_on no_colon h = h
  bounds_after_on (after_colon (is_mark c) i) h = chars_on c (bounds_on i h)

  any_type_on : (x : TypeTree A E) (l r : Toks) → IsAnyType part clearly x l r → Ended r → Ended l
  any_type_on x l r (any_type i) h = up.ty _ _ _ _ _ i h.apart

  type_param_on : {x : TypeParam A E} {l r : Toks} → IsTypeParam part clearly x l r → Ended r → Ended l
  type_param_on (a_type_param i w j d) h =
      let k = bounds_after_on j (optional_on d (λ x l r i u. given_on i any_type_on u) h) in up.attrs _ _ _ i (word_on _ _ k.apart)

  const_param_on : {x : ConstParam A E} {l r : Toks} → IsConstParam part clearly x l r → Ended r → Ended l
  const_param_on (a_const_param {i = y} {n = u} i w n (is_mark c) t d) h =
      let k = chars_on c (any_type_on _ _ _ t (optional_on d (λ x l r i u. given_on i up.const_default u) h)) in
      let m = word_on y u k.apart in
      up.attrs _ _ _ i (word_over w m.apart)

  pub param_on : {place : ParamPlace} {x : GenericParam A E} {l r : Toks} → IsParam part clearly place x l r → Ended r → Ended l
  param_on (a_lifetime_param i) h = lifetime_param_on i h
  param_on (a_named_param i) h = type_param_on i h
  param_on (a_constant_param i) h = const_param_on i h
  param_on (a_bare_param i w) h = up.attrs _ _ _ i (word_on _ _ h.apart)

  -- ---- arguments, where something follows: also the types that begin them

  module _ (first : End → Relation (TypeTree A E)) (types : (e : End) (x : TypeTree A E) (l r : Toks) → first e x l r → Shut r → Ended l) where
    item_on : {i : Ident} {o : Option (AngleBracketed A E)} {l r : Toks} → IsItemName first part clearly i o l r → Ended r → Ended l
    item_on (an_item w) h = word_on _ _ h.apart
    item_on (an_item_with_arguments w i) h = let k = up.arguments _ _ _ i h.apart in word_on _ _ k.apart

    pub argument_on : {place : ArgumentPlace} {x : GenericArgument A E} {l r : Toks} → IsArgument first part clearly place x l r → Ended r → Ended l
    argument_on (a_lifetime_argument i) h = lifetime_over i h.apart
    argument_on (a_type_argument i) h = types _ _ _ _ i h.apart
    argument_on (a_const_argument i) h = up.const_argument _ _ _ i h
    argument_on (an_assoc_type n (is_mark m) i) h = item_on n (chars_on m (up.ty _ _ _ _ _ i h.apart))
    argument_on (an_assoc_const n (is_mark m) i) h = item_on n (chars_on m (up.const_argument _ _ _ i h))
    argument_on (a_constraint n (is_mark m) i) h = item_on n (chars_on m (bounds_on i h))
