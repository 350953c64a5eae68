-- Token lists that are the same aside from spans are so as tokens.
use Rattle.std.proofs.Common.{◌≡◌, List, [], ◌∷◌, map, refl, sym, ap, subst, ◌∙◌}
use Rattle.token_core.specs.declared.span.DelimSpan.{DelimSpan}
use Rattle.token_core.specs.declared.tree.Delimiter.{Delimiter}
use Rattle.token_core.specs.declared.tree.Delimiter.TheVariants.{Parenthesis, Brace, Bracket, None}
use Rattle.token_core.specs.declared.tree.Group.{Group, roll-Group, map-Group, out-roll-Group}
use Rattle.token_core.specs.declared.tree.TokenTree.{TokenTree, roll-TokenTree, map-TokenTree}
use Rattle.token_core.specs.declared.tree.TokenTree.TheFolds.{ind-TokenTree}
use Rattle.token_core.specs.declared.tree.TokenTree.TheOpen as o
use Rattle.token_core.specs.declared.tree.TokenTree.TheVariants as t
use Rattle.token_core.specs.Same.{bare_tree, bare_group, bare_stream, Same}
use Rattle.token_core.specs.Spans.{none, delim_span}
use Rattle.token_core.specs.Toks.{Toks, done, enter, leave, group}
use Rattle.token_core.specs.Trees as s
use Rattle.token_core.specs.Trees.{TokenStream, all, group_of, grouped, ident, literal, punct, toks}
use Rattle.token_core.proofs.Bares.{bare-ident, bare-punct, bare-literal, bare-of-group, bare_group_is, bare_stream_is}
use Rattle.token_core.proofs.Flats.{tree-roll, group-roll, stream-roll}
use Rattle.token_core.proofs.Rebuilds.{tree-ident, tree-punct, tree-literal}
use Rattle.token_core.proofs.Rows.{with_each, beside}
use Rattle.syn_path.specs.aside.Lists.{bare, AreSame}

abbrev Spares : TokenStream → Type 0
Spares c = (r : Toks) → bare (s.stream c r) ≡ s.stream (bare_stream c) (bare r)

spares_group : (d : Delimiter) (p : DelimSpan) (c : TokenStream) (r : Toks) → Spares c → bare (grouped d p (s.stream c) r) ≡ grouped d (delim_span none none) (s.stream (bare_stream c)) (bare r)
spares_group Parenthesis p c r h = ap (λ z. group Parenthesis (delim_span none none) z (bare r)) (h done)
spares_group Brace p c r h = ap (λ z. group Brace (delim_span none none) z (bare r)) (h done)
spares_group Bracket p c r h = ap (λ z. group Bracket (delim_span none none) z (bare r)) (h done)
spares_group None p c r h = ap (enter (delim_span none none)) (h (leave r))

group_bare : (d : Delimiter) (a : DelimSpan) (c : TokenStream) → bare_group (group_of d c a) ≡ group_of d (bare_stream c) (delim_span none none)
group_bare d a c = bare_group_is (group_of d c a) ∙ ap (λ (y : o.Group-F TokenTree Group). group_of y.content.1 (bare_stream y.content.0) (delim_span none none)) (out-roll-Group (record { content = (c, d); span = a }))

tree_of : (g : Group) (r : Toks) → s.tree (t.Group g) r ≡ s.inside g r
tree_of g r = ap (λ x. s.tree x r) (sym (t.rolls-Group g)) ∙ ap (λ f. f r) (tree-roll (o.Group g))

module _ where
  abbrev P : TokenTree → Type 0
  P x = (r : Toks) → bare (s.tree x r) ≡ s.tree (bare_tree x) (bare r)

  abbrev Q : Group → Type 0
  Q g = (r : Toks) → bare (s.inside g r) ≡ s.inside (bare_group g) (bare r)

  abbrev A : Type 0
  A = (x : TokenTree) × P x

  abbrev B : Type 0
  B = (g : Group) × Q g

  abbrev trees_of : List A → TokenStream
  trees_of l = map (λ (a : A). a.0) l

  spares_all : (l : List A) (r : Toks) → bare (all (map s.tree (trees_of l)) r) ≡ all (map s.tree (map bare_tree (trees_of l))) (bare r)
  spares_all [] r = refl
  spares_all (a ∷ l) r = a.1 (all (map s.tree (trees_of l)) r) ∙ ap (s.tree (bare_tree a.0)) (spares_all l r)

  spares_content : (l : List A) → Spares (trees_of l)
  spares_content l = λ r.
      ap (λ f. bare (f r)) (stream-roll (trees_of l)) ∙ spares_all l r ∙ sym (ap (λ f. f (bare r)) (stream-roll (map bare_tree (trees_of l)))) ∙ ap (λ z. s.stream z (bare r)) (sym (bare_stream_is (trees_of l)))

  tree_layer : (y : o.TokenTree-F A B) → P (roll-TokenTree (map-TokenTree A B TokenTree Group (λ a. a.0) (λ b. b.0) y))
  tree_layer (o.Ident i) = subst P (sym (t.rolls-Ident i)) (λ r. ap bare (tree-ident i r) ∙ sym (ap (λ z. s.tree z (bare r)) (bare-ident i) ∙ tree-ident (ident i.text none) (bare r)))
  tree_layer (o.Punct p) = subst P (sym (t.rolls-Punct p)) (λ r. ap bare (tree-punct p r) ∙ sym (ap (λ z. s.tree z (bare r)) (bare-punct p) ∙ tree-punct (punct p.ch p.spacing none) (bare r)))
  tree_layer (o.Literal l) = subst P (sym (t.rolls-Literal l)) (λ r. ap bare (tree-literal l r) ∙ sym (ap (λ z. s.tree z (bare r)) (bare-literal l) ∙ tree-literal (literal l.kind l.text none) (bare r)))
  tree_layer (o.Group g) = subst P (sym (t.rolls-Group g.0)) (λ r. ap bare (tree_of g.0 r) ∙ g.1 r ∙ sym (ap (λ z. s.tree z (bare r)) (bare-of-group g.0) ∙ tree_of (bare_group g.0) (bare r)))

  group_layer : (y : o.Group-F A B) → Q (roll-Group (map-Group A B TokenTree Group (λ a. a.0) (λ b. b.0) y))
  group_layer y = λ r.
      let c = trees_of y.content.0 in
      ap (λ f. bare (f r)) (group-roll (record { content = (c, y.content.1); span = y.span })) ∙ spares_group y.content.1 y.span c r (spares_content y.content.0)
      ∙ sym (ap (λ z. s.inside z (bare r)) (group_bare y.content.1 y.span c) ∙ ap (λ f. f (bare r)) (group-roll (record { content = (bare_stream c, y.content.1); span = delim_span none none })))

  spares_tree : (x : TokenTree) → P x
  spares_tree = ind-TokenTree P Q (λ x y is. subst (λ z. P (roll-TokenTree z)) is (tree_layer y)) (λ x y is. subst (λ z. Q (roll-Group z)) is (group_layer y))

  spares : (c : TokenStream) → Spares c
  spares c = subst Spares (beside P spares_tree c) (spares_content (with_each P spares_tree c))

pub lists_same : (a b : TokenStream) → Same a b → AreSame (toks a) (toks b)
lists_same a b e = spares a done ∙ ap (λ z. s.stream z done) e ∙ sym (spares b done)
