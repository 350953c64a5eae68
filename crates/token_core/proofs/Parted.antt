-- Values and marks gone through by their places: what is left before and after a turn, and at the end.
use Rattle.std.specs.Prelude.{slice_get}
use Rattle.std.proofs.Common.{◌≡◌, ℕ, zero, suc, ◌+◌, ◌<◌, List, [], ◌∷◌, ◌++◌, Option, Some, None, option_map, Bor, get_or, length, drop, refl, sym, ap, ◌∙◌, append_assoc, arith}
use Rattle.std.proofs.lemmas.List.{drop_all}
use Rattle.token_core.specs.Lists.{joined}
use Rattle.token_core.specs.Prints.{optional}

module _ {T : Type 0} where
  pub drop_next : (xs : List T) (i : ℕ) (x : T) → i < length xs → x ≡ get_or xs i x → drop i xs ≡ x ∷ drop (i + 1) xs
  drop_next xs i x h e = at xs i x h e ∙ ap (λ j. x ∷ drop j xs) step
    where
      step : suc i ≡ i + 1
      step = omega arith

      at : (xs : List T) (i : ℕ) (x : T) → i < length xs → x ≡ get_or xs i x → drop i xs ≡ x ∷ drop (suc i) xs
      at [] i x h e = absurd (omega (arith, h))
      at (y ∷ xs) zero x h e = ap (λ z. z ∷ xs) (sym e)
      at (y ∷ xs) (suc i) x h e = at xs i x (omega (arith, h)) e

  -- where there is one
  pub drop_some : (xs : List T) (i : ℕ) (x : T) → Some x ≡ slice_get xs i → drop i xs ≡ x ∷ drop (i + 1) xs
  drop_some xs i x e = at xs i x e ∙ ap (λ j. x ∷ drop j xs) step
    where
      step : suc i ≡ i + 1
      step = omega arith

      at : (xs : List T) (i : ℕ) (x : T) → Some x ≡ slice_get xs i → drop i xs ≡ x ∷ drop (suc i) xs
      at [] i x e = absurd (cc e)
      at (y ∷ xs) zero x e = cc e
      at (y ∷ xs) (suc i) x e = at xs i x e

  -- where there is none
  pub drop_none : (xs : List T) (i : ℕ) → None ≡ slice_get xs i → drop i xs ≡ []
  drop_none [] i e = drop_all i [] (omega arith)
  drop_none (y ∷ xs) zero e = absurd (cc e)
  drop_none (y ∷ xs) (suc i) e = drop_none xs i e

  pub none_after : (xs : List T) (i : ℕ) → None ≡ slice_get xs i → drop (i + 1) xs ≡ []
  none_after xs i e = ap (λ j. drop j xs) step ∙ at xs i e
    where
      step : i + 1 ≡ suc i
      step = omega arith

      at : (xs : List T) (i : ℕ) → None ≡ slice_get xs i → drop (suc i) xs ≡ []
      at [] i e = refl
      at (y ∷ xs) zero e = absurd (cc e)
      at (y ∷ xs) (suc i) e = at xs i e

-- a mark that is lent prints as it does
pub lent : {P A : Type 0} (g : P → List A) (o : Option (Bor P)) → optional (λ x. g x.now) o ≡ optional g (option_map (λ x. x.now) o)
lent g None = refl
lent g (Some x) = refl

module _ {T P A : Type 0} (f : T → List A) (g : P → List A) (vs : List T) (ms : List P) where
  pub joined_next : (i : ℕ) (x : T) (o : Option P) → i < length vs → x ≡ get_or vs i x → o ≡ slice_get ms i
      → joined f g (drop i vs) (drop i ms) ≡ f x ++ (optional g o ++ joined f g (drop (i + 1) vs) (drop (i + 1) ms))
  joined_next i x None h e k = (λ j. joined f g (drop_next vs i x h e j) (drop_none ms i k j)) ∙ ap (λ z. f x ++ joined f g (drop (i + 1) vs) z) (sym (none_after ms i k))
  joined_next i x (Some p) h e k = λ j. joined f g (drop_next vs i x h e j) (drop_some ms i p k j)

  -- a turn of a print: a value, and the mark after it, if there is one
  pub put_next : (i : ℕ) (x : T) (o : Option (Bor P)) (mid between new whole : List A) → i < length vs → x ≡ get_or vs i x → option_map (λ m. m.now) o ≡ slice_get ms i
      → mid ++ joined f g (drop i vs) (drop i ms) ≡ whole
      → between ≡ mid ++ f x → new ≡ between ++ optional (λ m. g m.now) o
      → new ++ joined f g (drop (i + 1) vs) (drop (i + 1) ms) ≡ whole
  put_next i x o mid between new whole h e k told b n =
      let rest = joined f g (drop (i + 1) vs) (drop (i + 1) ms) in
      let mark = optional g (option_map (λ m. m.now) o) in
      ap (λ z. z ++ rest) (n ∙ ap (λ z. between ++ z) (lent g o) ∙ ap (λ z. z ++ mark) b)
      ∙ append_assoc (mid ++ f x) mark rest ∙ append_assoc mid (f x) (mark ++ rest)
      ∙ ap (λ z. mid ++ z) (sym (joined_next i x (option_map (λ m. m.now) o) h e k)) ∙ told
