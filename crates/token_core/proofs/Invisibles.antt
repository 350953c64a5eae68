-- An invisible group at the front of a buffer: what its bounds hold, and what follows them.
use Rattle.std.proofs.Common.{◌≡◌, ℕ, zero, suc, ◌+◌, List, [], ◌∷◌, ◌++◌, map, take, drop, Some, None, refl, sym, ◌∙◌, ap, subst, arith, append_assoc}
use Rattle.std.proofs.lemmas.List.{take-map, drop-map, take-append-drop}
use Rattle.token_core.specs.declared.class.Entry.{Entry}
use Rattle.token_core.specs.declared.tree.Delimiter.{Delimiter}
use Rattle.token_core.specs.declared.tree.Delimiter.TheVariants as d
use Rattle.token_core.specs.declared.span.DelimSpan.{DelimSpan}
use Rattle.token_core.specs.declared.tree.TokenTree.{TokenTree, roll-TokenTree, map-TokenTree}
use Rattle.token_core.specs.declared.tree.TokenTree.TheOpen as o
use Rattle.token_core.specs.declared.tree.TokenTree.TheFolds.{ind-TokenTree}
use Rattle.token_core.specs.declared.tree.Group.{Group, roll-Group, map-Group}
use Rattle.token_core.specs.Toks.{Toks, done, word, mark, lit, group, enter, leave}
use Rattle.token_core.specs.Trees as s
use Rattle.token_core.specs.Trees.{TokenStream, Before, all, grouped}
use Rattle.token_core.specs.Seen.{Seen, view, saw_leave, saw_delimiter, view-enter, view-leave, view-group}
use Rattle.token_core.specs.Entries.{saw, entries_view, Nested, Inside, flat_stream}
use Rattle.token_core.specs.Groups.{within, beyond, as_invisible, next_invisible}
use Rattle.token_core.specs.Reads.{IsSuffix, all_of, past_word, past_punct, past_lit, past_group, past_enter, past_leave}
use Rattle.token_core.proofs.Flats.{tree-roll, group-roll, stream-roll, shows_stream, nested_flat, view-flat}
use Rattle.token_core.proofs.Fronts.{inside_taken, nested_drop}
use Rattle.token_core.proofs.Rows.{with_each, beside}

-- ---- the bounds of a group hold what they hold, whatever trees stand before their end

abbrev Keeps : Before → Type 0
Keeps f = (n : ℕ) (r : Toks) → (within n (f r) ≡ f (within n r)) × (beyond n (f r) ≡ beyond n r)

moved : (g f : Before) → ((r : Toks) → g r ≡ f r) → Keeps f → Keeps g
moved g f e h = λ n r. (ap (within n) (e r) ∙ (h n r).0 ∙ sym (e (within n r)), ap (beyond n) (e r) ∙ (h n r).1)

keeps_group : (b : Delimiter) (p : DelimSpan) (f : Before) → Keeps f → Keeps (grouped b p f)
keeps_group d.Parenthesis p f h = λ n r. (refl, refl)
keeps_group d.Brace p f h = λ n r. (refl, refl)
keeps_group d.Bracket p f h = λ n r. (refl, refl)
keeps_group d.None p f h = λ n r. let k = h (suc n) (leave r) in (ap (enter p) k.0, k.1)

module _ where
  abbrev KP : TokenTree → Type 0
  KP t = Keeps (s.tree t)

  abbrev KQ : Group → Type 0
  KQ g = Keeps (s.inside g)

  abbrev KR : TokenStream → Type 0
  KR c = Keeps (s.stream c)

  abbrev KA : Type 0
  KA = (t : TokenTree) × KP t

  abbrev KB : Type 0
  KB = (g : Group) × KQ g

  abbrev trees_of : List KA → TokenStream
  trees_of l = map (λ (a : KA). a.0) l

  keeps_all : (l : List KA) → Keeps (all (map s.tree (trees_of l)))
  keeps_all [] = λ n r. (refl, refl)
  keeps_all (a ∷ l) = λ n r.
      let h = keeps_all l n r in
      let k = a.1 n (all (map s.tree (trees_of l)) r) in
      (k.0 ∙ ap (s.tree a.0) h.0, k.1 ∙ h.1)

  keeps_content : (l : List KA) → KR (trees_of l)
  keeps_content l = moved (s.stream (trees_of l)) (all (map s.tree (trees_of l))) (λ r. ap (λ (f : Before). f r) (stream-roll (trees_of l))) (keeps_all l)

  keeps_tree_layer : (y : o.TokenTree-F KA KB) → KP (roll-TokenTree (map-TokenTree KA KB TokenTree Group (λ a. a.0) (λ b. b.0) y))
  keeps_tree_layer (o.Ident i) = moved (s.tree (roll-TokenTree (o.Ident i))) (word i) (λ r. ap (λ (f : Before). f r) (tree-roll (o.Ident i))) (λ n r. (refl, refl))
  keeps_tree_layer (o.Punct p) = moved (s.tree (roll-TokenTree (o.Punct p))) (mark p) (λ r. ap (λ (f : Before). f r) (tree-roll (o.Punct p))) (λ n r. (refl, refl))
  keeps_tree_layer (o.Literal l) = moved (s.tree (roll-TokenTree (o.Literal l))) (lit l) (λ r. ap (λ (f : Before). f r) (tree-roll (o.Literal l))) (λ n r. (refl, refl))
  keeps_tree_layer (o.Group g) = moved (s.tree (roll-TokenTree (o.Group g.0))) (s.inside g.0) (λ r. ap (λ (f : Before). f r) (tree-roll (o.Group g.0))) g.1

  keeps_group_layer : (y : o.Group-F KA KB) → KQ (roll-Group (map-Group KA KB TokenTree Group (λ a. a.0) (λ b. b.0) y))
  keeps_group_layer y =
      let c = trees_of y.content.0 in
      moved (s.inside (roll-Group (record { content = (c, y.content.1); span = y.span }))) (grouped y.content.1 y.span (s.stream c))
      (λ r. ap (λ (f : Before). f r) (group-roll (record { content = (c, y.content.1); span = y.span }))) (keeps_group y.content.1 y.span (s.stream c) (keeps_content y.content.0))

  keeps_tree : (t : TokenTree) → KP t
  keeps_tree = ind-TokenTree KP KQ (λ x y is. subst (λ z. KP (roll-TokenTree z)) is (keeps_tree_layer y)) (λ x y is. subst (λ z. KQ (roll-Group z)) is (keeps_group_layer y))

  pub keeps_stream : (c : TokenStream) → KR c
  keeps_stream c = subst KR (beside KP keeps_tree c) (keeps_content (with_each KP keeps_tree c))

-- ---- the entries of the group

module _ (p : DelimSpan) (c : TokenStream) (n : ℕ) where
  parts : (l : List Seen) → Inside c n l → view l ≡ s.stream c (leave (view (drop (n + 1) l)))
  parts l h =
      let k : suc n ≡ n + 1 = omega arith in
      ap view (sym (take-append-drop (suc n) l) ∙ ap (λ x. x ++ drop (suc n) l) h.1 ∙ append_assoc (flat_stream c) (saw_leave ∷ []) (drop (suc n) l))
      ∙ shows_stream c (saw_leave ∷ drop (suc n) l) ∙ ap (s.stream c) (view-leave (drop (suc n) l)) ∙ ap (λ m. s.stream c (leave (view (drop m l)))) k

  held : (l : List Seen) → Inside c n l → within 0 (view l) ≡ view (take n l)
  held l h = ap (within 0) (parts l h) ∙ (keeps_stream c 0 (leave (view (drop (n + 1) l)))).0 ∙ sym (view-flat c) ∙ ap view (sym (inside_taken c n l h))

  follows : (l : List Seen) → Inside c n l → beyond 0 (view l) ≡ view (drop (n + 1) l)
  follows l h = ap (beyond 0) (parts l h) ∙ (keeps_stream c 0 (leave (view (drop (n + 1) l)))).1

  pub invisible_shown : (b : Delimiter) (more inside rest : List Entry) → b ≡ d.None → inside ≡ take n more → rest ≡ drop (n + 1) more → Nested (saw_delimiter b p c n ∷ map saw more) →
      Some (p, entries_view inside, entries_view rest) ≡ as_invisible (view (saw_delimiter b p c n ∷ map saw more))
  invisible_shown d.None more inside rest e i r h =
      ap (λ x. Some (p, view x, entries_view rest)) (ap (map saw) i ∙ sym (take-map saw n more)) ∙ ap (λ x. Some (p, view (take n (map saw more)), view x)) (ap (map saw) r ∙ sym (drop-map saw (n + 1) more))
      ∙ ap (λ x. Some (p, x, view (drop (n + 1) (map saw more)))) (sym (held (map saw more) h.0)) ∙ ap (λ x. Some (p, within 0 (view (map saw more)), x)) (sym (follows (map saw more) h.0))
      ∙ ap as_invisible (sym (view-enter p c n (map saw more)))
  invisible_shown d.Parenthesis more inside rest e i r h = cc
  invisible_shown d.Brace more inside rest e i r h = cc
  invisible_shown d.Bracket more inside rest e i r h = cc

  pub invisible_nested : (b : Delimiter) (more inside rest : List Entry) → b ≡ d.None → inside ≡ take n more → rest ≡ drop (n + 1) more → Nested (saw_delimiter b p c n ∷ map saw more) → Nested (map saw inside) × Nested (map saw rest)
  invisible_nested d.None more inside rest e i r h =
      let same : map saw inside ≡ flat_stream c = ap (map saw) i ∙ sym (take-map saw n more) ∙ inside_taken c n (map saw more) h.0 in
      (subst Nested (sym same) (nested_flat c), subst (λ x. Nested (map saw x)) (sym r) (nested_drop more (n + 1) h.1))
  invisible_nested d.Parenthesis more inside rest e i r h = cc
  invisible_nested d.Brace more inside rest e i r h = cc
  invisible_nested d.Bracket more inside rest e i r h = cc

  pub invisible_hidden : (b : Delimiter) (l : List Seen) → (b ≡ d.None → ⊥) → None ≡ as_invisible (view (saw_delimiter b p c n ∷ l))
  invisible_hidden d.None l h = absurd (h refl)
  invisible_hidden d.Parenthesis l h = ap as_invisible (sym (view-group d.Parenthesis p c n l))
  invisible_hidden d.Brace l h = ap as_invisible (sym (view-group d.Brace p c n l))
  invisible_hidden d.Bracket l h = ap as_invisible (sym (view-group d.Bracket p c n l))

-- ---- where a read of one leaves a stream

suffix_beyond : (n : ℕ) (l : Toks) → IsSuffix (beyond n l) l
suffix_beyond n done = all_of
suffix_beyond n (word i k) = past_word i (suffix_beyond n k)
suffix_beyond n (mark p k) = past_punct p (suffix_beyond n k)
suffix_beyond n (lit x k) = past_lit x (suffix_beyond n k)
suffix_beyond n (group b p c k) = past_group b p c (suffix_beyond n k)
suffix_beyond n (enter p k) = past_enter p (suffix_beyond (suc n) k)
suffix_beyond zero (leave k) = past_leave all_of
suffix_beyond (suc n) (leave k) = past_leave (suffix_beyond n k)

pub suffix_invisible : (l : Toks) (q : DelimSpan × Toks × Toks) → next_invisible l ≡ Some q → IsSuffix q.2 l
suffix_invisible done q e = cc
suffix_invisible (word i k) q e = cc
suffix_invisible (mark p k) q e = cc
suffix_invisible (lit x k) q e = cc
suffix_invisible (group b p c k) q e = cc
suffix_invisible (enter p k) q e =
    let f : ◌≡◌ {A = DelimSpan × Toks × Toks} (p, within 0 k, beyond 0 k) q = cc in
    subst (λ (z : DelimSpan × Toks × Toks). IsSuffix z.2 (enter p k)) f (past_enter p (suffix_beyond 0 k))
suffix_invisible (leave k) q e = past_leave (suffix_invisible k q e)
