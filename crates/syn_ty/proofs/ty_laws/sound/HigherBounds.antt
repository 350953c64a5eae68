-- Bounds, parameters and generic arguments grow with what stands within: where the one grammar spells it, the other does.
use Rattle.std.proofs.Common.{Bool, List, Option}
use Rattle.syn_ty.proofs.ty_laws.words.Tokens.{Ident, Toks}
use Rattle.syn_ty.proofs.ty_laws.words.Forms.{BoundPlace, ParamPlace}
use Rattle.syn_ty.proofs.ty_laws.words.Types.{LifetimeParamOf, TraitBoundModifiers, IsFor, IsTrait, a_trait, a_trait_for, a_trait_asked, IsTraitBound, a_trait_bound, IsBound, a_lifetime_bound, a_bare_bound, a_bound_in_parens, a_capture_bound, AreBounds, no_bounds, last_plus, last_bound, bound_and_plus, IsLifetimeParam, a_lone_lifetime, a_lifetime_with_bounds, AreBoundsAfter, no_colon, after_colon, IsAnyType, any_type, IsTypeParam, a_type_param, IsConstParam, a_const_param, IsParam, a_lifetime_param, a_named_param, a_constant_param, a_bare_param, ArgumentPlace, IsItemName, an_item, an_item_with_arguments, IsArgument, a_lifetime_argument, a_type_argument, a_const_argument, an_assoc_type, an_assoc_const, a_constraint, Manner, End, Parts, Relation, AngleBracketed, BoundLifetimes, ConstParam, GenericArgument, GenericParam, Path, TraitBound, TypeParam, TypeParamBound, TypeTree}
use Rattle.token_core.specs.Tokens as token
use Rattle.syn_ty.proofs.ty_laws.sound.HigherParts.{Up, optional_up, given_up, binder_up}
use Rattle.syn_ty.proofs.ty_laws.sound.HigherPaths.{bound_path_up}

module _ {A E : Type 0} {part over : Manner → Parts A E} (up : (how : Manner) → Up (part how) (over how)) where
  pub for_up : {how : Manner} {x : BoundLifetimes A E} {l r : Toks} → IsFor part how x l r → IsFor over how x l r
  for_up {how} i = binder_up i ((up how).param _)

  -- ---- trait bounds

  pub trait_up : {how : Manner} {consts : Bool} {e : End} {o : Option (BoundLifetimes A E)} {m : TraitBoundModifiers} {q : Option token.Question} {x : Path A E} {l r : Toks} →
      IsTrait part how consts e o m q x l r → IsTrait over how consts e o m q x l r
  trait_up (a_trait m i) = a_trait m (bound_path_up up i)
  trait_up (a_trait_for f m i) = a_trait_for (for_up f) m (bound_path_up up i)
  trait_up (a_trait_asked m q i) = a_trait_asked m q (bound_path_up up i)

  pub trait_bound_up : {how : Manner} {consts : Bool} {e : End} {x : TraitBound A E} {l r : Toks} → IsTraitBound part how consts e x l r → IsTraitBound over how consts e x l r
  trait_bound_up (a_trait_bound i) = a_trait_bound (trait_up i)

  -- ---- bounds in a place

  pub bound_up : {how : Manner} {place : BoundPlace} {e : End} {x : TypeParamBound A E} {l r : Toks} → IsBound part how place e x l r → IsBound over how place e x l r
  bound_up (a_lifetime_bound i) = a_lifetime_bound i
  bound_up (a_bare_bound i) = a_bare_bound (trait_bound_up i)
  bound_up (a_bound_in_parens i) = a_bound_in_parens (trait_up i)
  bound_up (a_capture_bound a i) = a_capture_bound a i

  pub bounds_up : {how : Manner} {place : BoundPlace} {Ends : Bool → Type 0} {first : Bool} {e : End} {xs : List (TypeParamBound A E)} {ps : List token.Plus} {l r : Toks} →
      AreBounds part how place Ends first e xs ps l r → AreBounds over how place Ends first e xs ps l r
  bounds_up (no_bounds h) = no_bounds h
  bounds_up (last_plus h) = last_plus h
  bounds_up {how} (last_bound i) = last_bound ((up how).bound _ _ _ _ _ i)
  bounds_up {how} (bound_and_plus i o p j) = bound_and_plus ((up how).bound _ _ _ _ _ i) o p (bounds_up j)

  -- ---- parameters

  pub lifetime_param_up : {how : Manner} {x : LifetimeParamOf A} {l r : Toks} → IsLifetimeParam part how x l r → IsLifetimeParam over how x l r
  lifetime_param_up {how} (a_lone_lifetime a i) = a_lone_lifetime ((up how).attrs _ _ _ a) i
  lifetime_param_up {how} (a_lifetime_with_bounds a i c j) = a_lifetime_with_bounds ((up how).attrs _ _ _ a) i c j

  pub bounds_after_up : {how : Manner} {c : Option token.Colon} {xs : List (TypeParamBound A E)} {ps : List token.Plus} {l r : Toks} → AreBoundsAfter part how c xs ps l r → AreBoundsAfter over how c xs ps l r
  bounds_after_up no_colon = no_colon
  bounds_after_up (after_colon c i) = after_colon c (bounds_up i)

  pub any_type_up : {how : Manner} {x : TypeTree A E} {l r : Toks} → IsAnyType part how x l r → IsAnyType over how x l r
  any_type_up {how} (any_type i) = any_type ((up how).ty _ _ _ _ _ i)

  pub type_param_up : {how : Manner} {x : TypeParam A E} {l r : Toks} → IsTypeParam part how x l r → IsTypeParam over how x l r
  type_param_up {how} (a_type_param a w i d) = a_type_param ((up how).attrs _ _ _ a) w (bounds_after_up i) (optional_up d (λ x l r j. given_up j (λ y m n k. any_type_up k)))

  pub const_param_up : {how : Manner} {x : ConstParam A E} {l r : Toks} → IsConstParam part how x l r → IsConstParam over how x l r
  const_param_up {how} (a_const_param a w n c i d) = a_const_param ((up how).attrs _ _ _ a) w n c (any_type_up i) (optional_up d (λ x l r j. given_up j (up how).const_default))

  pub param_up : {how : Manner} {place : ParamPlace} {x : GenericParam A E} {l r : Toks} → IsParam part how place x l r → IsParam over how place x l r
  param_up (a_lifetime_param i) = a_lifetime_param (lifetime_param_up i)
  param_up (a_named_param i) = a_named_param (type_param_up i)
  param_up (a_constant_param i) = a_constant_param (const_param_up i)
  param_up {how} (a_bare_param a w) = a_bare_param ((up how).attrs _ _ _ a) w

  -- ---- arguments between angle marks: the types that may begin them grow too

  module _ {first second : End → Relation (TypeTree A E)} (first_up : (e : End) (x : TypeTree A E) (l r : Toks) → first e x l r → second e x l r) where
    pub item_up : {how : Manner} {i : Ident} {o : Option (AngleBracketed A E)} {l r : Toks} → IsItemName first part how i o l r → IsItemName second over how i o l r
    item_up (an_item w) = an_item w
    item_up {how} (an_item_with_arguments w i) = an_item_with_arguments w ((up how).arguments _ _ _ i)

    pub argument_up : {how : Manner} {place : ArgumentPlace} {x : GenericArgument A E} {l r : Toks} → IsArgument first part how place x l r → IsArgument second over how place x l r
    argument_up (a_lifetime_argument i) = a_lifetime_argument i
    argument_up (a_type_argument i) = a_type_argument (first_up _ _ _ _ i)
    argument_up {how} (a_const_argument i) = a_const_argument ((up how).const_argument _ _ _ i)
    argument_up {how} (an_assoc_type n q i) = an_assoc_type (item_up n) q ((up how).ty _ _ _ _ _ i)
    argument_up {how} (an_assoc_const n q i) = an_assoc_const (item_up n) q ((up how).const_argument _ _ _ i)
    argument_up (a_constraint n c i) = a_constraint (item_up n) c (bounds_up i)
