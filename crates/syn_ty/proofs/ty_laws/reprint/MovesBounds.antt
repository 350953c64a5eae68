-- Bounds, parameters and generic arguments are spelt clearly before other tokens too, where what stands within them is.
use Rattle.std.proofs.Common.{Bool, true, List, Option, refl}
use Rattle.syn_ty.proofs.ty_laws.words.Tokens.{Ident, Toks}
use Rattle.syn_ty.proofs.ty_laws.words.Paths.{Calm, Moved}
use Rattle.syn_ty.proofs.ty_laws.words.Forms.{BoundPlace, ParamPlace}
use Rattle.syn_ty.proofs.ty_laws.words.Types.{BoundConst, CapturedParam, LifetimeParamOf, PreciseCapture, TraitBoundModifiers, IsCaptured, a_lifetime_captured, a_name_captured, IsCapture, a_capture, IsConstness, no_constness, a_const, a_conditional_const, AreModifiers, some_modifiers, IsFor, IsTrait, a_trait, a_trait_for, a_trait_asked, IsTraitBound, a_trait_bound, IsBound, a_lifetime_bound, a_bare_bound, a_bound_in_parens, a_capture_bound, AreBounds, no_bounds, last_plus, last_bound, bound_and_plus, IsLifetimeParam, a_lone_lifetime, a_lifetime_with_bounds, AreBoundsAfter, no_colon, after_colon, IsAnyType, any_type, IsTypeParam, a_type_param, IsConstParam, a_const_param, IsParam, a_lifetime_param, a_named_param, a_constant_param, a_bare_param, ArgumentPlace, IsItemName, an_item, an_item_with_arguments, IsArgument, a_lifetime_argument, a_type_argument, a_const_argument, an_assoc_type, an_assoc_const, a_constraint, Manner, clearly, End, Parts, Relation, AngleBracketed, BoundLifetimes, ConstParam, GenericArgument, GenericParam, Path, TraitBound, TypeParam, TypeParamBound, TypeTree}
use Rattle.token_core.specs.Tokens as token
use Rattle.syn_path.proofs.Moves.{colon_moves, equals_moves, free_moves, lifetime_moves, listed_moves, lt_moves, word_moves}
use Rattle.syn_ty.proofs.ty_laws.reprint.MovesParts.{Moving, binder_moves, given_moves, optional_moves}
use Rattle.syn_ty.proofs.ty_laws.reprint.MovesPaths.{bound_path_moves}

-- ---- captures

captured_moves : {x : CapturedParam} {l r : Toks} (k : Toks) → IsCaptured x l r → Calm l → Moved (IsCaptured x) k l r
captured_moves k (a_lifetime_captured i) q = let a = lifetime_moves k i q in record { calm = a.calm; is = a_lifetime_captured a.is }
captured_moves k (a_name_captured h) q = record { calm = q; is = a_name_captured h }

capture_moves : {x : PreciseCapture} {l r : Toks} (k : Toks) → IsCapture true x l r → Calm l → Moved (IsCapture true x) k l r
capture_moves k (a_capture i j v g) q =
    let a = word_moves k i q in
    let b = lt_moves k j a.calm in
    let w = listed_moves k v b.calm (λ b x l r j u. captured_moves k j u) (λ p l r i q. free_moves (λ l. refl) k i q) in
    let c = free_moves (λ l. refl) k g w.calm in
    record { calm = c.calm; is = a_capture a.is b.is w.is c.is }

-- ---- modifiers

constness_moves : {consts : Bool} {x : Option BoundConst} {l r : Toks} (k : Toks) → IsConstness consts x l r → Calm l → Moved (IsConstness consts x) k l r
constness_moves k no_constness q = record { calm = q; is = no_constness }
constness_moves k (a_const h i) q = let a = word_moves k i q in record { calm = a.calm; is = a_const h a.is }
constness_moves k (a_conditional_const h i) q = record { calm = q; is = a_conditional_const h i }

modifiers_move : {consts : Bool} {x : TraitBoundModifiers} {l r : Toks} (k : Toks) → AreModifiers consts x l r → Calm l → Moved (AreModifiers consts x) k l r
modifiers_move k (some_modifiers i j) q =
    let a = constness_moves k i q in
    let b = optional_moves k j a.calm (λ x l r i q. word_moves k i q) in
    record { calm = b.calm; is = some_modifiers a.is b.is }

module _ {A E : Type 0} (part : Manner → Parts A E) (k : Toks) (up : Moving k (part clearly)) where
  pub for_moves : {x : BoundLifetimes A E} {l r : Toks} → IsFor part clearly x l r → Calm l → Moved (IsFor part clearly x) k l r
  for_moves i q = binder_moves k i q (up.param _)

  -- ---- trait bounds

  trait_moves : {consts : Bool} {e : End} {o : Option (BoundLifetimes A E)} {m : TraitBoundModifiers} {u : Option token.Question} {x : Path A E} {l r : Toks} → IsTrait part clearly consts e o m u x l r → Calm l → Moved (IsTrait part clearly consts e o m u x) k l r
  trait_moves (a_trait m i) q = let a = modifiers_move k m q in let b = bound_path_moves part k up i a.calm in record { calm = b.calm; is = a_trait a.is b.is }
  trait_moves (a_trait_for f m i) q =
      let o = for_moves f q in
      let a = modifiers_move k m o.calm in
      let b = bound_path_moves part k up i a.calm in
      record { calm = b.calm; is = a_trait_for o.is a.is b.is }
  trait_moves (a_trait_asked m j i) q =
      let a = modifiers_move k m q in
      let o = free_moves (λ l. refl) k j a.calm in
      let b = bound_path_moves part k up i o.calm in
      record { calm = b.calm; is = a_trait_asked a.is o.is b.is }

  pub trait_bound_moves : {consts : Bool} {e : End} {x : TraitBound A E} {l r : Toks} → IsTraitBound part clearly consts e x l r → Calm l → Moved (IsTraitBound part clearly consts e x) k l r
  trait_bound_moves (a_trait_bound i) q = let a = trait_moves i q in record { calm = a.calm; is = a_trait_bound a.is }

  -- ---- bounds in a place

  pub bound_moves : {place : BoundPlace} {e : End} {x : TypeParamBound A E} {l r : Toks} → IsBound part clearly place e x l r → Calm l → Moved (IsBound part clearly place e x) k l r
  bound_moves (a_lifetime_bound i) q = let a = lifetime_moves k i q in record { calm = a.calm; is = a_lifetime_bound a.is }
  bound_moves (a_bare_bound i) q = let a = trait_bound_moves i q in record { calm = a.calm; is = a_bare_bound a.is }
  bound_moves (a_bound_in_parens i) q = record { calm = q; is = a_bound_in_parens i }
  bound_moves (a_capture_bound h i) q = let a = capture_moves k i q in record { calm = a.calm; is = a_capture_bound h a.is }

  pub bounds_move : {place : BoundPlace} {Ends : Bool → Type 0} {first : Bool} {e : End} {xs : List (TypeParamBound A E)} {ps : List token.Plus} {l r : Toks} →
      AreBounds part clearly place Ends first e xs ps l r → Calm l → Moved (AreBounds part clearly place Ends first e xs ps) k l r
  bounds_move (no_bounds h) q = record { calm = q; is = no_bounds h }
  bounds_move (last_plus h) q = record { calm = q; is = last_plus h }
  bounds_move (last_bound i) q = let a = up.bound _ _ _ _ _ i q in record { calm = a.calm; is = last_bound a.is }
  bounds_move (bound_and_plus i o p j) q =
      let a = up.bound _ _ _ _ _ i q in
      let b = free_moves (λ l. refl) k p a.calm in
      let c = bounds_move j b.calm in
      record { calm = c.calm; is = bound_and_plus a.is o b.is c.is }

  -- ---- parameters

  lifetime_param_moves : {x : LifetimeParamOf A} {l r : Toks} → IsLifetimeParam part clearly x l r → Calm l → Moved (IsLifetimeParam part clearly x) k l r
  lifetime_param_moves (a_lone_lifetime i j) q = let a = up.attrs _ _ _ i q in let b = lifetime_moves k j a.calm in record { calm = b.calm; is = a_lone_lifetime a.is b.is }
  lifetime_param_moves (a_lifetime_with_bounds i j c v) q =
      let a = up.attrs _ _ _ i q in
      let b = lifetime_moves k j a.calm in
      let d = colon_moves k c b.calm in
      let w = listed_moves k v d.calm (λ b x l r i q. lifetime_moves k i q) (λ p l r i q. free_moves (λ l. refl) k i q) in
      record { calm = w.calm; is = a_lifetime_with_bounds a.is b.is d.is w.is }

  bounds_after_move : {c : Option token.Colon} {xs : List (TypeParamBound A E)} {ps : List token.Plus} {l r : Toks} → AreBoundsAfter part clearly c xs ps l r → Calm l → Moved (AreBoundsAfter part clearly c xs ps) k l r
  bounds_after_move no_colon q = record { calm = q; is = no_colon }
  bounds_after_move (after_colon c i) q = let a = colon_moves k c q in let b = bounds_move i a.calm in record { calm = b.calm; is = after_colon a.is b.is }

  any_type_moves : {x : TypeTree A E} {l r : Toks} → IsAnyType part clearly x l r → Calm l → Moved (IsAnyType part clearly x) k l r
  any_type_moves (any_type i) q = let a = up.ty _ _ _ _ _ i q in record { calm = a.calm; is = any_type a.is }

  type_param_moves : {x : TypeParam A E} {l r : Toks} → IsTypeParam part clearly x l r → Calm l → Moved (IsTypeParam part clearly x) k l r
  type_param_moves (a_type_param i w j d) q =
      let a = up.attrs _ _ _ i q in
      let b = bounds_after_move j a.calm in
      let c = optional_moves k d b.calm (λ x l r i q. given_moves k i q (λ x l r j u. any_type_moves j u)) in
      record { calm = c.calm; is = a_type_param a.is w b.is c.is }

  const_param_moves : {x : ConstParam A E} {l r : Toks} → IsConstParam part clearly x l r → Calm l → Moved (IsConstParam part clearly x) k l r
  const_param_moves (a_const_param i w n c t d) q =
      let a = up.attrs _ _ _ i q in
      let b = word_moves k w a.calm in
      let e = colon_moves k c b.calm in
      let f = any_type_moves t e.calm in
      let g = optional_moves k d f.calm (λ x l r i q. given_moves k i q up.const_default) in
      record { calm = g.calm; is = a_const_param a.is b.is n e.is f.is g.is }

  pub param_moves : {place : ParamPlace} {x : GenericParam A E} {l r : Toks} → IsParam part clearly place x l r → Calm l → Moved (IsParam part clearly place x) k l r
  param_moves (a_lifetime_param i) q = let a = lifetime_param_moves i q in record { calm = a.calm; is = a_lifetime_param a.is }
  param_moves (a_named_param i) q = let a = type_param_moves i q in record { calm = a.calm; is = a_named_param a.is }
  param_moves (a_constant_param i) q = let a = const_param_moves i q in record { calm = a.calm; is = a_constant_param a.is }
  param_moves (a_bare_param i w) q = let a = up.attrs _ _ _ i q in record { calm = a.calm; is = a_bare_param a.is w }

  -- ---- arguments: also the types that begin them

  module _ (first : End → Relation (TypeTree A E)) (types : (e : End) (x : TypeTree A E) (l r : Toks) → first e x l r → Calm l → Moved (first e x) k l r) where
    item_moves : {i : Ident} {o : Option (AngleBracketed A E)} {l r : Toks} → IsItemName first part clearly i o l r → Calm l → Moved (IsItemName first part clearly i o) k l r
    item_moves (an_item w) q = record { calm = q; is = an_item w }
    item_moves (an_item_with_arguments w i) q = let a = up.arguments _ _ _ i q in record { calm = a.calm; is = an_item_with_arguments w a.is }

    pub argument_moves : {place : ArgumentPlace} {x : GenericArgument A E} {l r : Toks} → IsArgument first part clearly place x l r → Calm l → Moved (IsArgument first part clearly place x) k l r
    argument_moves (a_lifetime_argument i) q = let a = lifetime_moves k i q in record { calm = a.calm; is = a_lifetime_argument a.is }
    argument_moves (a_type_argument i) q = let a = types _ _ _ _ i q in record { calm = a.calm; is = a_type_argument a.is }
    argument_moves (a_const_argument i) q = let a = up.const_argument _ _ _ i q in record { calm = a.calm; is = a_const_argument a.is }
    argument_moves (an_assoc_type n m i) q =
        let a = item_moves n q in
        let b = equals_moves k m a.calm in
        let c = up.ty _ _ _ _ _ i b.calm in
        record { calm = c.calm; is = an_assoc_type a.is b.is c.is }
    argument_moves (an_assoc_const n m i) q =
        let a = item_moves n q in
        let b = equals_moves k m a.calm in
        let c = up.const_argument _ _ _ i b.calm in
        record { calm = c.calm; is = an_assoc_const a.is b.is c.is }
    argument_moves (a_constraint n m i) q =
        let a = item_moves n q in
        let b = colon_moves k m a.calm in
        let c = bounds_move i b.calm in
        record { calm = c.calm; is = a_constraint a.is b.is c.is }
