-- Rows of tables, by their numbers.
use Rattle.std.specs.Prelude.{slice_get}
use Rattle.std.proofs.Common.{◌≡◌, ℕ, zero, suc, List, [], ◌∷◌, Some, None, map, get_or, refl}

module _ {X Y : Type 0} (f : X → Y) where
  -- what is told of a row of a table
  pub row_there : (xs : List X) (n : ℕ) (d : Y) (x : X) → slice_get xs n ≡ Some x → f x ≡ get_or (map f xs) n d
  row_there [] n d x e = cc
  row_there (y ∷ xs) zero d x e = cc
  row_there (y ∷ xs) (suc n) d x e = row_there xs n d x e

  pub no_row : (xs : List X) (n : ℕ) (d : Y) → slice_get xs n ≡ None → d ≡ get_or (map f xs) n d
  no_row [] n d e = refl
  no_row (y ∷ xs) zero d e = cc
  no_row (y ∷ xs) (suc n) d e = no_row xs n d e

pub ruleset rows = (row_there, no_row)
