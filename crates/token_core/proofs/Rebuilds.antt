-- A token list is rebuilt of its tokens, and tokens with no invisible group are those of the list that is rebuilt of them.
use Rattle.std.proofs.Common.{◌≡◌, List, [], ◌∷◌, ◌++◌, map, refl, sym, ap, subst, ◌∙◌, append-nil}
use Rattle.token_core.specs.declared.tree.Delimiter.{Delimiter}
use Rattle.token_core.specs.declared.tree.Delimiter.TheVariants.{Parenthesis, Brace, Bracket, None}
use Rattle.token_core.specs.declared.span.DelimSpan.{DelimSpan}
use Rattle.token_core.specs.declared.tree.Ident.{Ident}
use Rattle.token_core.specs.declared.tree.Punct.{Punct}
use Rattle.token_core.specs.declared.tree.Literal.{Literal}
use Rattle.token_core.specs.declared.tree.TokenTree.{TokenTree, roll-TokenTree, map-TokenTree}
use Rattle.token_core.specs.declared.tree.TokenTree.TheVariants as t
use Rattle.token_core.specs.declared.tree.TokenTree.TheOpen as o
use Rattle.token_core.specs.declared.tree.TokenTree.TheFolds.{ind-TokenTree}
use Rattle.token_core.specs.declared.tree.Group.{Group, roll-Group, map-Group}
use Rattle.token_core.specs.Toks.{Toks, done, word, mark, lit, group, enter, leave}
use Rattle.token_core.specs.Trees as s
use Rattle.token_core.specs.Trees.{TokenStream, trees, group_of, stream_of_trees, all, grouped, toks, row}
use Rattle.token_core.specs.Rebuilt.{Levels, onto, enclose, levels, stream_of, Visible, IsVisible}
use Rattle.token_core.proofs.Flats.{tree-roll, group-roll, stream-roll}
use Rattle.token_core.proofs.Rows.{with_each, beside}

abbrev pub before : List TokenTree → Levels → Levels
before l v = (l ++ v.0, v.1)

pub whole : (c : TokenStream) → stream_of_trees (trees c ++ []) ≡ c
whole c = append-nil c

abbrev pub group_tree : Delimiter → DelimSpan → TokenStream → TokenTree
group_tree d p c = t.Group (group_of d c p)

-- ---- a list's tokens have its trees as their levels

-- what cuts tokens into levels, tree by tree
pub record Cuts (levels : Toks → Levels) : Type 0 where
  pub of_word : (i : Ident) (r : Toks) → levels (word i r) ≡ onto (t.Ident i) (levels r)
  pub of_mark : (p : Punct) (r : Toks) → levels (mark p r) ≡ onto (t.Punct p) (levels r)
  pub of_lit : (l : Literal) (r : Toks) → levels (lit l r) ≡ onto (t.Literal l) (levels r)
  pub of_group : (d : Delimiter) (p : DelimSpan) (c : TokenStream) (r : Toks) → IsVisible d → levels (toks c) ≡ before (trees c) (levels done) → levels (group d p (toks c) r) ≡ onto (group_tree d p c) (levels r)
  pub of_enter : (p : DelimSpan) (r : Toks) → levels (enter p r) ≡ enclose p (levels r)
  pub of_leave : (r : Toks) → levels (leave r) ≡ ([], (levels r).0 ∷ (levels r).1)

module _ (levels : Toks → Levels) (cuts : Cuts levels) where
  abbrev Rebuilds : TokenStream → Type 0
  Rebuilds c = (r : Toks) → levels (s.stream c r) ≡ before (trees c) (levels r)

  rebuilds_group : (d : Delimiter) (p : DelimSpan) (c : TokenStream) (r : Toks) → Rebuilds c → levels (grouped d p (s.stream c) r) ≡ onto (group_tree d p c) (levels r)
  rebuilds_group Parenthesis p c r h = cuts.of_group Parenthesis p c r tt (h done)
  rebuilds_group Brace p c r h = cuts.of_group Brace p c r tt (h done)
  rebuilds_group Bracket p c r h = cuts.of_group Bracket p c r tt (h done)
  rebuilds_group None p c r h =
      cuts.of_enter p (s.stream c (leave r)) ∙ ap (enclose p) (h (leave r)) ∙ ap (λ v. enclose p (before (trees c) v)) (cuts.of_leave r)
      ∙ ap (λ z. onto (group_tree None p z) (levels r)) (whole c)

  abbrev P : TokenTree → Type 0
  P x = (r : Toks) → levels (s.tree x r) ≡ onto x (levels r)

  abbrev Q : Group → Type 0
  Q g = (r : Toks) → levels (s.inside g r) ≡ onto (t.Group g) (levels r)

  abbrev A : Type 0
  A = (x : TokenTree) × P x

  abbrev B : Type 0
  B = (g : Group) × Q g

  abbrev trees_of : List A → TokenStream
  trees_of l = map (λ (a : A). a.0) l

  rebuilds_all : (l : List A) (r : Toks) → levels (all (map s.tree (trees_of l)) r) ≡ before (trees_of l) (levels r)
  rebuilds_all [] r = refl
  rebuilds_all (a ∷ l) r = a.1 (all (map s.tree (trees_of l)) r) ∙ ap (onto a.0) (rebuilds_all l r)

  rebuilds_content : (l : List A) → Rebuilds (trees_of l)
  rebuilds_content l = λ r. ap (λ f. levels (f r)) (stream-roll (trees_of l)) ∙ rebuilds_all l r

  tree_layer : (y : o.TokenTree-F A B) → P (roll-TokenTree (map-TokenTree A B TokenTree Group (λ a. a.0) (λ b. b.0) y))
  tree_layer (o.Ident i) = λ r. ap (λ f. levels (f r)) (tree-roll (o.Ident i)) ∙ cuts.of_word i r ∙ ap (λ z. onto z (levels r)) (sym (t.rolls-Ident i))
  tree_layer (o.Punct p) = λ r. ap (λ f. levels (f r)) (tree-roll (o.Punct p)) ∙ cuts.of_mark p r ∙ ap (λ z. onto z (levels r)) (sym (t.rolls-Punct p))
  tree_layer (o.Literal l) = λ r. ap (λ f. levels (f r)) (tree-roll (o.Literal l)) ∙ cuts.of_lit l r ∙ ap (λ z. onto z (levels r)) (sym (t.rolls-Literal l))
  tree_layer (o.Group g) = λ r. ap (λ f. levels (f r)) (tree-roll (o.Group g.0)) ∙ g.1 r ∙ ap (λ z. onto z (levels r)) (sym (t.rolls-Group g.0))

  group_layer : (y : o.Group-F A B) → Q (roll-Group (map-Group A B TokenTree Group (λ a. a.0) (λ b. b.0) y))
  group_layer y = λ r.
      let c = trees_of y.content.0 in
      ap (λ f. levels (f r)) (group-roll (record { content = (c, y.content.1); span = y.span })) ∙ rebuilds_group y.content.1 y.span c r (rebuilds_content y.content.0)

  rebuilds_tree : (x : TokenTree) → P x
  rebuilds_tree = ind-TokenTree P Q (λ x y is. subst (λ z. P (roll-TokenTree z)) is (tree_layer y)) (λ x y is. subst (λ z. Q (roll-Group z)) is (group_layer y))

  pub rebuilds : (c : TokenStream) (r : Toks) → levels (s.stream c r) ≡ before (trees c) (levels r)
  rebuilds c = subst Rebuilds (beside P rebuilds_tree c) (rebuilds_content (with_each P rebuilds_tree c))

cuts : Cuts levels
cuts = record {
  of_word = λ i r. refl;
  of_mark = λ p r. refl;
  of_lit = λ l r. refl;
  of_group = λ d p c r v h. ap (λ (v : Levels). onto (group_tree d p (stream_of_trees v.0)) (levels r)) h ∙ ap (λ z. onto (group_tree d p z) (levels r)) (whole c);
  of_enter = λ p r. refl;
  of_leave = λ r. refl;
}

pub stream_of-toks : (c : TokenStream) → stream_of (toks c) ≡ c
unfolding stream_of
stream_of-toks c = ap (λ (v : Levels). stream_of_trees v.0) (rebuilds levels cuts c done) ∙ whole c

-- ---- the tokens of each kind of tree

pub tree-ident : (i : Ident) (r : Toks) → s.tree (t.Ident i) r ≡ word i r
tree-ident i r = ap (λ x. s.tree x r) (sym (t.rolls-Ident i)) ∙ ap (λ f. f r) (tree-roll (o.Ident i))

pub tree-punct : (p : Punct) (r : Toks) → s.tree (t.Punct p) r ≡ mark p r
tree-punct p r = ap (λ x. s.tree x r) (sym (t.rolls-Punct p)) ∙ ap (λ f. f r) (tree-roll (o.Punct p))

pub tree-literal : (l : Literal) (r : Toks) → s.tree (t.Literal l) r ≡ lit l r
tree-literal l r = ap (λ x. s.tree x r) (sym (t.rolls-Literal l)) ∙ ap (λ f. f r) (tree-roll (o.Literal l))

pub tree-group : (d : Delimiter) (c : TokenStream) (p : DelimSpan) (r : Toks) → s.tree (t.Group (group_of d c p)) r ≡ grouped d p (s.stream c) r
tree-group d c p r =
    ap (λ x. s.tree x r) (sym (t.rolls-Group (group_of d c p))) ∙ ap (λ f. f r) (tree-roll (o.Group (group_of d c p)))
    ∙ ap (λ f. f r) (group-roll (record { content = (c, d); span = p }))

pub stream-trees : (l : List TokenTree) (r : Toks) → s.stream (stream_of_trees l) r ≡ row l r
stream-trees l r = ap (λ f. f r) (stream-roll l)

-- ---- tokens with no invisible group

pub visible-tree : (d : Delimiter) (c : TokenStream) (p : DelimSpan) (r : Toks) → IsVisible d → s.tree (t.Group (group_of d c p)) r ≡ group d p (toks c) r
visible-tree Parenthesis c p r v = tree-group Parenthesis c p r
visible-tree Brace c p r v = tree-group Brace c p r
visible-tree Bracket c p r v = tree-group Bracket c p r
visible-tree None c p r v = absurd v

row-levels : (l : Toks) → Visible l → row (levels l).0 done ≡ l
row-levels done v = refl
row-levels (word i k) v = tree-ident i (row (levels k).0 done) ∙ ap (word i) (row-levels k v)
row-levels (mark p k) v = tree-punct p (row (levels k).0 done) ∙ ap (mark p) (row-levels k v)
row-levels (lit x k) v = tree-literal x (row (levels k).0 done) ∙ ap (lit x) (row-levels k v)
row-levels (group d p c k) v =
    visible-tree d (stream_of_trees (levels c).0) p (row (levels k).0 done) v.0
    ∙ ap (λ z. group d p z (row (levels k).0 done)) (stream-trees (levels c).0 done ∙ row-levels c v.1)
    ∙ ap (group d p c) (row-levels k v.2)
row-levels (enter p k) v = absurd v
row-levels (leave k) v = absurd v

pub toks-stream_of : (l : Toks) → Visible l → toks (stream_of l) ≡ l
unfolding stream_of
toks-stream_of l v = stream-trees (levels l).0 done ∙ row-levels l v
