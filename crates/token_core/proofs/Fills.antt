-- A buffer as it is filled.
use Rattle.std.proofs.Common.{◌≡◌, ℕ, ◌+◌, ◌-◌, ◌<◌, List, [], ◌∷◌, ◌++◌, map, length, take, get_or, refl, sym, ap, ◌∙◌, append_assoc, append-nil, arith}
use Rattle.std.proofs.Math.ListN.{set, length-map}
use Rattle.std.proofs.lemmas.List.{map-append, map-set, length-append, map_more}
use Rattle.token_core.specs.declared.class.Entry.{Entry}
use Rattle.token_core.specs.declared.tree.TokenTree.{TokenTree}
use Rattle.token_core.specs.Seen.{Seen}
use Rattle.token_core.specs.Entries.{Flat, saw, all_of, flat_tree}

all_of_last : (xs : List Flat) (y : Flat) → all_of (xs ++ y ∷ []) ≡ all_of xs ++ y
all_of_last [] y = simp append-nil
all_of_last (x ∷ xs) y = ap (λ l. x ++ l) (all_of_last xs y) ∙ sym (append_assoc x (all_of xs) y)

pub all_of_more : (xs : List TokenTree) (i : ℕ) (x : TokenTree) → i < length xs → x ≡ get_or xs i x →
    all_of (map flat_tree (take (i + 1) xs)) ≡ all_of (map flat_tree (take i xs)) ++ flat_tree x
all_of_more xs i x h e =
    ap all_of (map_more flat_tree xs i x h) ∙ all_of_last (map flat_tree (take i xs)) (flat_tree (get_or xs i x))
    ∙ ap (λ y. all_of (map flat_tree (take i xs)) ++ flat_tree y) (sym e)

set_at : (a : Flat) (x y : Seen) (l : Flat) → set ((a ++ x ∷ []) ++ l) (length a) y ≡ a ++ y ∷ l
set_at [] x y l = refl
set_at (b ∷ a) x y l = ap (λ k. b ∷ k) (set_at a x y l)

module _ (old filled : List Entry) (e0 e1 e2 : Entry) (l : Flat) (h : map saw filled ≡ map saw (old ++ e0 ∷ []) ++ l) where
  front_is : map saw filled ≡ (map saw old ++ saw e0 ∷ []) ++ l
  front_is = h ∙ ap (λ x. x ++ l) (map-append saw old (e0 ∷ []))

  pub group_filled : map saw (set filled (length old) e1 ++ e2 ∷ []) ≡ map saw old ++ (saw e1 ∷ (l ++ saw e2 ∷ []))
  group_filled =
      map-append saw (set filled (length old) e1) (e2 ∷ [])
      ∙ ap (λ x. x ++ saw e2 ∷ []) (map-set saw filled (length old) e1 ∙ ap (λ x. set x (length old) (saw e1)) front_is
      ∙ ap (λ i. set ((map saw old ++ saw e0 ∷ []) ++ l) i (saw e1)) (sym (length-map old saw)) ∙ set_at (map saw old) (saw e0) (saw e1) l)
      ∙ append_assoc (map saw old) (saw e1 ∷ l) (saw e2 ∷ [])

  pub group_count : length filled - length old - 1 ≡ length l
  group_count =
      let a = ap length front_is in
      let b = length-append (map saw old ++ saw e0 ∷ []) l in
      let d = length-append (map saw old) (saw e0 ∷ []) in
      let x = length-map filled saw in
      let y = length-map old saw in
      omega (arith, a, b, d, x, y)
