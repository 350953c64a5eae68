-- A grammar of trees up to a height grows with the height: what spells a tree by a lower one spells it by a higher one.
use Rattle.std.proofs.Common.{ℕ, zero, suc, ◌≤◌, Bool, false, List, arith}
use Rattle.syn_ty.proofs.ty_laws.words.Tokens.{Toks}
use Rattle.syn_ty.proofs.ty_laws.words.Paths.{SpelledValues}
use Rattle.syn_ty.proofs.ty_laws.words.Forms.{BoundPlace}
use Rattle.syn_ty.proofs.ty_laws.words.Types.{IsBound, IsTraitBound, Manner, End, Parts, Relation, spelt_to, turn}
use Rattle.syn_ty.proofs.ty_laws.sound.HigherBounds.{argument_up, bound_up, param_up, trait_bound_up}
use Rattle.syn_ty.proofs.ty_laws.sound.HigherParts.{Up}
use Rattle.syn_ty.proofs.ty_laws.sound.HigherPaths.{arguments_up}
use Rattle.syn_ty.proofs.ty_laws.sound.HigherTypes.{type_up}

module _ {A E : Type 0} (shown : Bool → List A → Toks → Toks → Type 0) (spelt : SpelledValues E) where
  -- ---- one turn

  module _ {part over : Manner → Parts A E} (up : (how : Manner) → Up (part how) (over how)) where
    pub turn_up : (how : Manner) → Up (turn shown spelt part how) (turn shown spelt over how)
    turn_up how = record {
      ty = λ place e x l r i. type_up up i;
      bound = λ place e x l r i. bound_up up i;
      param = λ place x l r i. param_up up i;
      argument = λ x l r i. argument_up up (λ e y m n j. type_up up j) i;
      arguments = λ x l r i. arguments_up up i;
      attrs = λ x l r i. i;
      len = λ x l i. i;
      const_argument = λ x l r i. i;
      const_default = λ x l r i. i;
    }

  -- ---- heights

  -- from one height to a higher one
  pub higher_to : (n m : ℕ) → n ≤ m → (how : Manner) → Up (spelt_to shown spelt n how) (spelt_to shown spelt m how)
  higher_to zero m h how = record {
    ty = λ place e x l r i. absurd i;
    bound = λ place e x l r i. absurd i;
    param = λ place x l r i. absurd i;
    argument = λ x l r i. absurd i;
    arguments = λ x l r i. absurd i;
    attrs = λ x l r i. absurd i;
    len = λ x l i. absurd i;
    const_argument = λ x l r i. absurd i;
    const_default = λ x l r i. absurd i;
  }
  higher_to (suc n) zero h how = absurd (omega (arith, h))
  higher_to (suc n) (suc m) h how = turn_up (higher_to n m (omega (arith, h))) how

  -- by one
  pub higher : (n : ℕ) (how : Manner) → Up (spelt_to shown spelt n how) (spelt_to shown spelt (suc n) how)
  higher n how = higher_to n (suc n) (omega arith) how

  -- ---- bounds, however high: they end the same

  abbrev pub GrowsEnding : {F : Type 0} → ((Manner → Parts A E) → Manner → End → Relation F) → Type 0
  GrowsEnding {F} Is = (n m : ℕ) → n ≤ m → (how : Manner) (e : End) (x : F) (l r : Toks) → Is (spelt_to shown spelt n) how e x l r → Is (spelt_to shown spelt m) how e x l r

  pub bound_higher : (place : BoundPlace) → GrowsEnding (λ part how. IsBound part how place)
  bound_higher place n m h how e x l r i = bound_up (higher_to n m h) i

  pub trait_bound_higher : GrowsEnding (λ part how. IsTraitBound part how false)
  trait_bound_higher n m h how e x l r i = trait_bound_up (higher_to n m h) i
