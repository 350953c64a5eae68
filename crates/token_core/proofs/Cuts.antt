-- The trees between two positions, tree by tree.
use Rattle.std.specs.Prelude.{◌⊎◌}
use Rattle.std.proofs.Common.{◌≡◌, ℕ, zero, suc, ◌-◌, ◌<◌, ◌≤◌, true, false, List, [], ◌∷◌, ◌++◌, map, length, take, inl, inr, refl, sym, ◌∙◌, ap, subst, arith, append_assoc, append-nil}
use Rattle.std.proofs.lemmas.Bool.{ltb-true, ltb-false}
use Rattle.std.proofs.lemmas.List.{length-append, take-append-le}
use Rattle.token_core.specs.declared.tree.Delimiter.{Delimiter}
use Rattle.token_core.specs.declared.span.DelimSpan.{DelimSpan}
use Rattle.token_core.specs.declared.tree.TokenTree.{TokenTree, roll-TokenTree, map-TokenTree, out-TokenTree, roll-out-TokenTree}
use Rattle.token_core.specs.declared.tree.TokenTree.TheVariants as t
use Rattle.token_core.specs.declared.tree.TokenTree.TheOpen as o
use Rattle.token_core.specs.declared.tree.TokenTree.TheFolds.{ind-TokenTree}
use Rattle.token_core.specs.declared.tree.Group.{Group, roll-Group, map-Group}
use Rattle.token_core.specs.Toks.{Toks, done, group}
use Rattle.token_core.specs.Trees as s
use Rattle.token_core.specs.Trees.{TokenStream, trees, group_of, stream_of_trees, toks, row, delimiter_of, span_of, content_of}
use Rattle.token_core.specs.Rebuilt.{Levels, onto, stream_of, Visible}
use Rattle.token_core.specs.Reads.{IsSuffix, all_of, past_word, past_punct, past_lit, past_group, past_enter, past_leave}
use Rattle.token_core.specs.Positions.{Item, an_ident, a_punct, a_literal, a_beginning, an_end, items, tree_items, row_items, has_tree, is_before, IsReached, there, past}
use Rattle.token_core.specs.Cut.{up_to, closed, parts, all_parts, trees_between, past_bound}
use Rattle.token_core.proofs.Flats.{stream-roll}
use Rattle.token_core.proofs.Rows.{with_each, beside}
use Rattle.token_core.proofs.Rebuilds.{tree-ident, tree-punct, tree-literal, visible-tree, toks-stream_of}
use Rattle.token_core.proofs.Positions.{ident_items, punct_items, literal_items, delimited_items, a_group_items, adds_tree}
use Rattle.token_core.proofs.Places.{reached_after, reached_of}

-- ---- the parts of what begins with trees

-- the items of a list of trees are theirs in order
row_is : (l : List TokenTree) → items (row l done) ≡ row_items l
row_is [] = refl
row_is (x ∷ l) = adds_tree x (row l done) ∙ ap (λ z. tree_items x ++ z) (row_is l)

pub stream_items : (l : List TokenTree) → items (toks (stream_of_trees l)) ≡ row_items l
stream_items l = ap items (ap (λ f. f done) (stream-roll l)) ∙ row_is l

whole : (c : TokenStream) → stream_of_trees (trees c ++ []) ≡ c
whole c = append-nil c

abbrev before : List TokenTree → Levels → Levels
before ts v = (ts ++ v.0, v.1)

-- what begins with the items of a tree has the tree first; a part of these items has no end of a group that is not entered
pub record Whole (x : TokenTree) : Type 0 where
  pub first : (l : List Item) → parts (tree_items x ++ l) ≡ onto x (parts l)
  pub no_end : (n : ℕ) → (parts (take n (tree_items x))).1 ≡ []

record WholeStream (c : TokenStream) : Type 0 where
  first : (l : List Item) → parts (items (toks c) ++ l) ≡ before (trees c) (parts l)
  no_end : (n : ℕ) → (parts (take n (items (toks c)))).1 ≡ []

below : (m n : ℕ) → (m ≤ n) ⊎ (n < m)
below zero n = inl (omega arith)
below (suc m) zero = inr (omega arith)
below (suc m) (suc n) = elim (below m n) [
  | inl h ↦ inl (omega (arith, h))
  | inr h ↦ inr (omega (arith, h))
]

take_past : (n : ℕ) (xs ys : List Item) → length xs ≤ n → take n (xs ++ ys) ≡ xs ++ take (n - length xs) ys
take_past n [] ys h = let k : n - 0 ≡ n = omega arith in ap (λ m. take m ys) (sym k)
take_past zero (x ∷ xs) ys h = absurd (omega (arith, h))
take_past (suc n) (x ∷ xs) ys h =
    let k : n - length xs ≡ suc n - suc (length xs) = omega (arith, h) in
    ap (λ z. x ∷ z) (take_past n xs ys (omega (arith, h)) ∙ ap (λ m. xs ++ take m ys) k)

take_none : (n : ℕ) → (parts (take n [])).1 ≡ []
take_none zero = refl
take_none (suc n) = refl

first_all : (l : List ((x : TokenTree) × Whole x)) (m : List Item) → parts (row_items (map (λ (a : (x : TokenTree) × Whole x). a.0) l) ++ m) ≡ before (map (λ (a : (x : TokenTree) × Whole x). a.0) l) (parts m)
first_all [] m = refl
first_all (a ∷ l) m =
    let more = row_items (map (λ (b : (x : TokenTree) × Whole x). b.0) l) in
    ap parts (append_assoc (tree_items a.0) more m) ∙ a.1.first (more ++ m) ∙ ap (onto a.0) (first_all l m)

open_all : (l : List ((x : TokenTree) × Whole x)) (n : ℕ) → (parts (take n (row_items (map (λ (a : (x : TokenTree) × Whole x). a.0) l)))).1 ≡ []
open_all [] n = take_none n
open_all (a ∷ l) n =
    let more = row_items (map (λ (b : (x : TokenTree) × Whole x). b.0) l) in
    elim (below n (length (tree_items a.0))) [
      | inl h ↦ ap (λ z. (parts z).1) (take-append-le n (tree_items a.0) more h) ∙ a.1.no_end n
      | inr h ↦ ap (λ z. (parts z).1) (take_past n (tree_items a.0) more (omega (arith, h))) ∙ ap (λ (v : Levels). v.1) (a.1.first (take (n - length (tree_items a.0)) more)) ∙ open_all l (n - length (tree_items a.0))
    ]

module _ (b : Delimiter) (p : DelimSpan) (c : TokenStream) (w : WholeStream c) where
  abbrev this : TokenTree
  this = t.Group (group_of b c p)

  group_first : (l : List Item) → parts (a_beginning b p ∷ ((items (toks c) ++ an_end ∷ []) ++ l)) ≡ onto this (parts l)
  group_first l =
      ap (λ z. closed b p (parts z)) (append_assoc (items (toks c)) (an_end ∷ []) l) ∙ ap (closed b p) (w.first (an_end ∷ l))
      ∙ ap (λ z. (t.Group (group_of b z p) ∷ (parts l).0, (parts l).1)) (whole c)

  still_open : (v : Levels) → v.1 ≡ [] → (closed b p v).1 ≡ []
  still_open (x, []) h = refl
  still_open (x, y ∷ more) h = cc

  group_open : (n : ℕ) → (parts (take n (a_beginning b p ∷ (items (toks c) ++ an_end ∷ [])))).1 ≡ []
  group_open zero = refl
  group_open (suc n) = elim (below n (length (items (toks c)))) [
    | inl h ↦ still_open (parts (take n (items (toks c) ++ an_end ∷ []))) (ap (λ z. (parts z).1) (take-append-le n (items (toks c)) (an_end ∷ []) h) ∙ w.no_end n)
    | inr h ↦ ap (λ z. (closed b p (parts z)).1) (take_past n (items (toks c)) (an_end ∷ []) (omega (arith, h))) ∙ ended (n - length (items (toks c))) (omega (arith, h))
  ]
    where
      ended : (m : ℕ) → 0 < m → (closed b p (parts (items (toks c) ++ take m (an_end ∷ [])))).1 ≡ []
      ended zero h = absurd (omega (arith, h))
      ended (suc m) h = ap (λ z. (closed b p (parts (items (toks c) ++ an_end ∷ z))).1) (none m) ∙ ap (λ z. (closed b p z).1) (w.first (an_end ∷ []))
        where
          none : (m : ℕ) → ◌≡◌ {A = List Item} (take m []) []
          none zero = refl
          none (suc m) = refl

  whole_group : Whole this
  whole_group = record {
    first = λ l. ap (λ z. parts (z ++ l)) (delimited_items b p c) ∙ group_first l;
    no_end = λ n. ap (λ z. (parts (take n z)).1) (delimited_items b p c) ∙ group_open n;
  }

one_open : (x : Item) → ((l : List Item) → (parts l).1 ≡ [] → (parts (x ∷ l)).1 ≡ []) → (n : ℕ) → (parts (take n (x ∷ []))).1 ≡ []
one_open x h zero = refl
one_open x h (suc n) = h (take n []) (take_none n)

leaf : (x y : TokenTree) (z : Item) → y ≡ x → tree_items x ≡ z ∷ [] → ((l : List Item) → parts (z ∷ l) ≡ onto x (parts l)) → Whole y
leaf x y z e i h = subst Whole (sym e) (record {
  first = λ l. ap (λ k. parts (k ++ l)) i ∙ h l;
  no_end = λ n. ap (λ k. (parts (take n k)).1) i ∙ one_open z (λ l k. ap (λ (v : Levels). v.1) (h l) ∙ k) n;
})

module _ where
  abbrev WQ : Group → Type 0
  WQ g = Whole (t.Group g)

  abbrev WA : Type 0
  WA = (x : TokenTree) × Whole x

  abbrev WB : Type 0
  WB = (g : Group) × WQ g

  whole_content : (l : List WA) → WholeStream (map (λ (a : WA). a.0) l)
  whole_content l =
      let c = map (λ (a : WA). a.0) l in
      record {
        first = λ m. ap (λ z. parts (z ++ m)) (stream_items c) ∙ first_all l m;
        no_end = λ n. ap (λ z. (parts (take n z)).1) (stream_items c) ∙ open_all l n;
      }

  tree_layer : (y : o.TokenTree-F WA WB) → Whole (roll-TokenTree (map-TokenTree WA WB TokenTree Group (λ a. a.0) (λ b. b.0) y))
  tree_layer (o.Ident i) = leaf (t.Ident i) _ (an_ident i) (t.rolls-Ident i) (ident_items i) (λ l. refl)
  tree_layer (o.Punct p) = leaf (t.Punct p) _ (a_punct p) (t.rolls-Punct p) (punct_items p) (λ l. refl)
  tree_layer (o.Literal k) = leaf (t.Literal k) _ (a_literal k) (t.rolls-Literal k) (literal_items k) (λ l. refl)
  tree_layer (o.Group g) = subst Whole (sym (t.rolls-Group g.0)) g.1

  group_layer : (y : o.Group-F WA WB) → WQ (roll-Group (map-Group WA WB TokenTree Group (λ a. a.0) (λ b. b.0) y))
  group_layer y = whole_group y.content.1 y.span (map (λ (a : WA). a.0) y.content.0) (whole_content y.content.0)

  whole_tree : (x : TokenTree) → Whole x
  whole_tree = ind-TokenTree Whole WQ (λ x y is. subst (λ z. Whole (roll-TokenTree z)) is (tree_layer y)) (λ x y is. subst (λ z. WQ (roll-Group z)) is (group_layer y))

  whole_stream : (c : TokenStream) → WholeStream c
  whole_stream c = subst WholeStream (beside Whole whole_tree c) (whole_content (with_each Whole whole_tree c))

-- ---- one step

pub record Stepped (e v w : List Item) : Type 0 where
  pub trees : trees_between v e ≡ trees_between w e
  pub within : IsReached e w
  pub less : length w < length v

first_item : (x : Item) (l e : List Item) → length e ≤ length l → up_to (x ∷ l) e ≡ x ∷ up_to l e
first_item x l e h = let k : suc (length l) - length e ≡ suc (length l - length e) = omega (arith, h) in ap (λ n. take n (x ∷ l)) k

at_next : (x : Item) (e l : List Item) → IsReached e (x ∷ l) → length e < suc (length l) → IsReached e l
at_next x e l there h = absurd (omega (arith, h))
at_next x e l (past y p) h = p

module _ (x : TokenTree) (v r e : List Item) (q : v ≡ tree_items x ++ r) (w : IsReached e v) where
  after_tree : IsReached r v
  after_tree = subst (λ z. IsReached r z) (sym q) (reached_after (tree_items x) r)

  pub kept_step : is_before e r ≡ false → trees_between v e ≡ (x ∷ []) ++ trees_between r e
  unfolding trees_between
  kept_step h =
      let n = ltb-false (length r) (length e) h in
      let k : length (tree_items x) ≤ length (tree_items x ++ r) - length e = omega (arith, n, length-append (tree_items x) r) in
      let m : length (tree_items x ++ r) - length e - length (tree_items x) ≡ length r - length e = omega (arith, n, length-append (tree_items x) r) in
      ap (λ z. all_parts (parts (up_to z e))) q ∙ ap (λ z. all_parts (parts z)) (take_past (length (tree_items x ++ r) - length e) (tree_items x) r k ∙ ap (λ i. tree_items x ++ take i r) m)
      ∙ ap all_parts ((whole_tree x).first (up_to r e))

  pub kept_within : is_before e r ≡ false → IsReached e r
  kept_within h = reached_of e r v w after_tree (ltb-false (length r) (length e) h)

-- a tree begins with an item, and where it is more than this item it is a group
record Begins (x : TokenTree) : Type 0 where
  item : Item
  more : List Item
  is : tree_items x ≡ item ∷ more
  group : (r e : List Item) → length r < length e → length e < suc (length (more ++ r)) → trees_between (item ∷ (more ++ r)) e ≡ trees_between (more ++ r) e
  bound : (r e : List Item) → length r < length e → length e < suc (length (more ++ r)) → past_bound (item ∷ (more ++ r)) ≡ more ++ r

begins_leaf : (x y : TokenTree) (z : Item) → y ≡ x → tree_items x ≡ z ∷ [] → Begins y
begins_leaf x y z e i = subst Begins (sym e) (record { item = z; more = []; is = i; group = λ r e h k. absurd (omega (arith, h, k)); bound = λ r e h k. absurd (omega (arith, h, k)) })

open_here : (b : Delimiter) (p : DelimSpan) (v : Levels) → v.1 ≡ [] → all_parts (closed b p v) ≡ all_parts v
open_here b p (x, []) h = refl
open_here b p (x, y ∷ more) h = cc

begins_group : (g : Group) → Begins (t.Group g)
unfolding trees_between
begins_group g =
    let c = items (toks (content_of g)) in
    record {
      item = a_beginning (delimiter_of g) (span_of g);
      more = c ++ an_end ∷ [];
      is = a_group_items g;
      group = λ r e h k.
          let l = (c ++ an_end ∷ []) ++ r in
          let a = append_assoc c (an_end ∷ []) r in
          let n : length l - length e ≤ length c = omega (arith, h, ap length a, length-append c (an_end ∷ r)) in
          let u : up_to l e ≡ take (length l - length e) c = ap (take (length l - length e)) a ∙ take-append-le (length l - length e) c (an_end ∷ r) n in
          ap (λ z. all_parts (parts z)) (first_item (a_beginning (delimiter_of g) (span_of g)) l e (omega (arith, k)))
          ∙ open_here (delimiter_of g) (span_of g) (parts (up_to l e)) (ap (λ z. (parts z).1) u ∙ (whole_stream (content_of g)).no_end (length l - length e));
      bound = λ r e h k. refl;
    }

begins : (x : TokenTree) → Begins x
begins x = subst Begins (roll-out-TokenTree x) (layer (out-TokenTree x))
  where
    layer : (y : o.TokenTree-F TokenTree Group) → Begins (roll-TokenTree y)
    layer (o.Ident i) = begins_leaf (t.Ident i) _ (an_ident i) (t.rolls-Ident i) (ident_items i)
    layer (o.Punct p) = begins_leaf (t.Punct p) _ (a_punct p) (t.rolls-Punct p) (punct_items p)
    layer (o.Literal l) = begins_leaf (t.Literal l) _ (a_literal l) (t.rolls-Literal l) (literal_items l)
    layer (o.Group g) = subst Begins (sym (t.rolls-Group g)) (begins_group g)

module _ (x : TokenTree) (v r e : List Item) (q : v ≡ tree_items x ++ r) where
  begun : v ≡ (begins x).item ∷ ((begins x).more ++ r)
  begun = q ∙ ap (λ z. z ++ r) (begins x).is

  pub kept_less : length r < length v
  kept_less = omega (arith, ap length begun, length-append (begins x).more r)

  -- a tree that ends after the later position is a group, and is entered
  pub entered_step : IsReached e v → is_before v e ≡ true → is_before e r ≡ true → Stepped e v (past_bound v)
  entered_step w l m =
      let b = begins x in
      let n = ltb-true (length e) (length v) l in
      let k = ltb-true (length r) (length e) m in
      let s : length e < suc (length (b.more ++ r)) = omega (arith, n, ap length begun) in
      subst (λ z. Stepped e z (past_bound z)) (sym begun) (subst (λ z. Stepped e (b.item ∷ (b.more ++ r)) z) (sym (b.bound r e k s))
      (record { trees = b.group r e k s; within = at_next b.item e (b.more ++ r) (subst (λ z. IsReached e z) begun w) s; less = omega arith }))

pub left_step : (v e : List Item) → IsReached e v → is_before v e ≡ true → has_tree v ≡ false → Stepped e v (past_bound v)
unfolding trees_between
left_step [] e w l h = let n = ltb-true (length e) 0 l in absurd (omega (arith, n))
left_step (an_ident i ∷ k) e w l h = cc
left_step (a_punct p ∷ k) e w l h = cc
left_step (a_literal x ∷ k) e w l h = cc
left_step (a_beginning b p ∷ k) e w l h = cc
left_step (an_end ∷ k) e w l h =
    let n : length e < suc (length k) = ltb-true (length e) (suc (length k)) l in
    record { trees = ap (λ z. all_parts (parts z)) (first_item an_end k e (omega (arith, n))); within = at_next an_end e k w n; less = omega arith }

-- nothing stands between a position and itself
pub between_same : (v e : List Item) → is_before v e ≡ false → trees_between v e ≡ []
unfolding trees_between
between_same v e h =
    let n = ltb-false (length e) (length v) h in
    let k : length v - length e ≡ 0 = omega (arith, n) in
    ap (λ i. all_parts (parts (take i v))) k

-- ---- whole trees between two positions

take_all : (xs ys : List Item) → take (length xs) (xs ++ ys) ≡ xs
take_all [] ys = refl
take_all (x ∷ xs) ys = ap (λ l. x ∷ l) (take_all xs ys)

row_parts : (l : List TokenTree) → parts (row_items l) ≡ (l, [])
row_parts [] = refl
row_parts (x ∷ l) = (whole_tree x).first (row_items l) ∙ ap (onto x) (row_parts l)

-- where trees and the items from the second position on are those from the first one on, these are the trees
pub between_trees : (l : List TokenTree) (v e : List Item) → v ≡ row_items l ++ e → trees_between v e ≡ l
unfolding trees_between
between_trees l v e q =
    let k : length (row_items l ++ e) - length e ≡ length (row_items l) = omega (arith, length-append (row_items l) e) in
    ap (λ z. all_parts (parts (up_to z e))) q ∙ ap (λ n. all_parts (parts (take n (row_items l ++ e)))) k ∙ ap (λ z. all_parts (parts z)) (take_all (row_items l) e) ∙ ap all_parts (row_parts l) ∙ append-nil l

-- without invisible groups, trees lead from a position of a scope to a later one
pub record Leads (b e : Toks) : Type 0 where
  pub trees : List TokenTree
  pub tokens : row trees e ≡ b
  pub whole : items b ≡ row_items trees ++ items e

one_more : (x : TokenTree) (b k e : Toks) → s.tree x k ≡ b → Leads k e → Leads b e
one_more x b k e q h = record {
  trees = x ∷ h.trees;
  tokens = ap (s.tree x) h.tokens ∙ q;
  whole = ap items (sym q) ∙ adds_tree x k ∙ ap (λ z. tree_items x ++ z) h.whole ∙ sym (append_assoc (tree_items x) (row_items h.trees) (items e));
}

pub leads : (b e : Toks) → IsSuffix e b → Visible b → Leads b e
leads b e all_of v = record { trees = []; tokens = refl; whole = refl }
leads b e (past_word {k = k} i p) v = one_more (t.Ident i) b k e (tree-ident i k) (leads k e p v)
leads b e (past_punct {k = k} m p) v = one_more (t.Punct m) b k e (tree-punct m k) (leads k e p v)
leads b e (past_lit {k = k} x p) v = one_more (t.Literal x) b k e (tree-literal x k) (leads k e p v)
leads b e (past_group {k = k} d x c p) v = one_more (t.Group (group_of d (stream_of c) x)) b k e (visible-tree d (stream_of c) x k v.0 ∙ ap (λ z. group d x z k) (toks-stream_of c v.1)) (leads k e p v.2)
leads b e (past_enter x p) v = absurd v
leads b e (past_leave p) v = absurd v
