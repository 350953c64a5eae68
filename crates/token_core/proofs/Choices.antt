-- The names that a choice keeps, and their text.
use Rattle.std.specs.Prelude.{slice_set, codes, nat_eq}
use Rattle.std.specs.List.{list_any, AllByRecursion, IsDistinct}
use Rattle.std.proofs.Common.{◌≡◌, ℕ, zero, suc, ◌+◌, ◌-◌, ◌<◌, ◌≤◌, List, [], ◌∷◌, ◌++◌, true, false, ◌||◌, inl, inr, map, length, take, drop, get_or, refl, sym, ap, ap₂, ◌∙◌, append_assoc, append-nil, length-append, length-take-le, arith}
use Rattle.std.proofs.lemmas.List.{map_more, take_all}
use Rattle.std.proofs.lemmas.Bool.{cases_Bool, false≢true}
use Rattle.std.proofs.lemmas.Cmp.{nat_eq_equiv}
use Rattle.std.proofs.lemmas.Map.Keys.{IsDistinct-push}
use Rattle.std.proofs.lemmas.Map.Steps.{length-le_from_distinct_below}
use Rattle.token_core.specs.Toks.{Bytes}
use Rattle.token_core.specs.TokenNames.{name_of, token_count}
use Rattle.token_core.specs.Looks.{commas, Known, is_noted, choices}

commas_last : (ns : List Bytes) (n : Bytes) → commas (ns ++ n ∷ []) ≡ commas ns ++ (codes ", " ++ n)
commas_last [] n = ap (λ z. codes ", " ++ z) (append-nil n)
commas_last (m ∷ ns) n =
    ap (λ z. codes ", " ++ (m ++ z)) (commas_last ns n) ∙ ap (λ z. codes ", " ++ z) (sym (append_assoc m (commas ns) (codes ", " ++ n)))
    ∙ sym (append_assoc (codes ", ") (m ++ commas ns) (codes ", " ++ n))

-- a further name in the text
pub commas_more : (xs : List ℕ) (i d : ℕ) → i < length xs →
    commas (map name_of (take (i + 1) xs)) ≡ commas (map name_of (take i xs)) ++ (codes ", " ++ name_of (get_or xs i d))
commas_more xs i d h = ap commas (map_more name_of xs i d h) ∙ commas_last (map name_of (take i xs)) (name_of (get_or xs i d))

-- the text of three names or more
pub choices_listed : (xs : List ℕ) → 3 ≤ length xs →
    (codes "expected one of: " ++ name_of (get_or xs 0 0)) ++ commas (map name_of (take (length xs - 1) (drop 1 xs))) ≡ choices (map name_of xs)
unfolding choices
choices_listed [] h = absurd (omega (arith, h))
choices_listed (a ∷ []) h = absurd (omega (arith, h))
choices_listed (a ∷ b ∷ []) h = absurd (omega (arith, h))
choices_listed (a ∷ b ∷ c ∷ ns) h =
    let n : length (b ∷ c ∷ ns) ≤ length (a ∷ b ∷ c ∷ ns) - 1 = omega arith in
    ap (λ l. (codes "expected one of: " ++ name_of a) ++ commas (map name_of l)) (take_all (length (a ∷ b ∷ c ∷ ns) - 1) (b ∷ c ∷ ns) n)

take_suc_set : (ns : List ℕ) (i n : ℕ) → i < length ns → take (suc i) (slice_set ns i n) ≡ take i ns ++ n ∷ []
take_suc_set [] i n h = absurd (omega (arith, h))
take_suc_set (m ∷ ms) zero n h = refl
take_suc_set (m ∷ ms) (suc i) n h = ap (λ l. m ∷ l) (take_suc_set ms i n (omega (arith, h)))

-- a further number
pub take_set : (ns : List ℕ) (i n : ℕ) → i < length ns → take (i + 1) (slice_set ns i n) ≡ take i ns ++ n ∷ []
take_set ns i n h =
    let e : i + 1 ≡ suc i = omega arith in
    ap (λ k. take k (slice_set ns i n)) e ∙ take_suc_set ns i n h

pub known_none : Known []
unfolding IsDistinct
known_none = (tt, tt)

flipped : (ns : List ℕ) (n : ℕ) → list_any (nat_eq n) ns ≡ is_noted ns n
flipped [] n = refl
flipped (m ∷ ms) n = ap₂ (λ a b. a || b) (nat_eq_equiv.symm n m) (flipped ms n)

below_all : (ns : List ℕ) → AllByRecursion (λ m. m < token_count) ns → (q : ℕ) → list_any (nat_eq q) ns ≡ true → q < token_count
below_all [] a q h = absurd (false≢true h)
below_all (m ∷ ms) a q h = elim (cases_Bool (nat_eq q m)) [
  | inl e ↦ grind (arith, e, a.0)
  | inr e ↦ below_all ms a.1 q (sym (ap (λ b. b || list_any (nat_eq q) ms) e) ∙ h)
]

below_more : (ns : List ℕ) (n : ℕ) → AllByRecursion (λ m. m < token_count) ns → n < token_count → AllByRecursion (λ m. m < token_count) (ns ++ n ∷ [])
below_more [] n a h = (h, tt)
below_more (m ∷ ms) n a h = (a.0, below_more ms n a.1 h)

-- a number that is not yet noted
pub known_more : (ns : List ℕ) (n : ℕ) → Known ns → n < token_count → is_noted ns n ≡ false → Known (ns ++ n ∷ [])
known_more ns n k h e = (IsDistinct-push nat_eq_equiv ns n k.0 (flipped ns n ∙ e), below_more ns n k.1 h)

-- there is a place for it
pub has_place : (ns : List ℕ) (i n : ℕ) → i ≤ length ns → Known (take i ns) → n < token_count → is_noted (take i ns) n ≡ false → i < token_count
has_place ns i n f k h e =
    let m = known_more (take i ns) n k h e in
    let l : length (take i ns ++ n ∷ []) ≤ token_count = length-le_from_distinct_below _ token_count m.0 (below_all _ m.1) in
    omega (arith, l, length-append (take i ns) (n ∷ []), length-take-le i ns f)

pub ruleset commaed = (commas_more, append_assoc)
