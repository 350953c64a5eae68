-- The values and the marks of a punctuated list, as it grows.
use Rattle.std.specs.Prelude.{slice_get}
use Rattle.std.proofs.Common.{◌≡◌, suc, ◌-◌, inl, inr, List, [], ◌∷◌, length, refl, ap, ◌∙◌, length-append, append-nil, arith}
use Rattle.std.proofs.lemmas.Bool.{cases_lt}
use Rattle.token_core.specs.Lists.{first, last, IsShaped, Alternate}

pub shaped : {T P : Type 0} (v : List T × List P) → Alternate (length v.0) (length v.1) → IsShaped v
shaped v a =
    elim (cases_lt (length v.1) (length v.0)) [
      | inl h ↦ inr (omega (arith, h, a.1))
      | inr h ↦ inl (omega (arith, h, a.0))
    ]

pub first_is : {T : Type 0} (xs : List T) → slice_get xs 0 ≡ first xs
first_is [] = refl
first_is (x ∷ xs) = refl

pub last_is : {T : Type 0} (xs : List T) → slice_get xs (length xs - 1) ≡ last xs
last_is [] = refl
last_is (x ∷ []) = refl
last_is (x ∷ y ∷ xs) = ap (slice_get (x ∷ y ∷ xs)) less ∙ last_is (y ∷ xs)
  where
    less : length (x ∷ y ∷ xs) - 1 ≡ suc (length (y ∷ xs) - 1)
    less = omega arith

pub ruleset lists = (length-append, append-nil)

pub ruleset shapes = (shaped)

pub ruleset ends = (first_is, last_is)
