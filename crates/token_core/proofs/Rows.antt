-- The tokens of trees after others.
use Rattle.std.proofs.Common.{◌≡◌, ℕ, zero, suc, ◌≤◌, List, [], ◌∷◌, ◌++◌, map, length, take, refl, ap, arith}
use Rattle.token_core.specs.declared.tree.TokenTree.{TokenTree}
use Rattle.token_core.specs.Toks.{Toks}
use Rattle.token_core.specs.Trees.{tree, row}

pub row-append : (a b : List TokenTree) (r : Toks) → row (a ++ b) r ≡ row a (row b r)
row-append [] b r = refl
row-append (x ∷ a) b r = ap (tree x) (row-append a b r)

-- no more than there are
pub take_all : {X : Type 0} (n : ℕ) (xs : List X) → length xs ≤ n → take n xs ≡ xs
take_all zero [] h = refl
take_all zero (x ∷ xs) h = absurd (omega (arith, h))
take_all (suc n) [] h = refl
take_all (suc n) (x ∷ xs) h = ap (λ l. x ∷ l) (take_all n xs (omega (arith, h)))

-- each value beside what is so of it
abbrev pub with_each : {X : Type 0} (P : X → Type 0) → ((x : X) → P x) → List X → List ((x : X) × P x)
with_each P h [] = []
with_each P h (x ∷ l) = (x, h x) ∷ with_each P h l

pub beside : {X : Type 0} (P : X → Type 0) (h : (x : X) → P x) (l : List X) → map (λ (a : (x : X) × P x). a.0) (with_each P h l) ≡ l
beside P h [] = refl
beside P h (x ∷ l) = ap (λ z. x ∷ z) (beside P h l)
