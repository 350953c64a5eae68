-- The entries of trees: their equations, that they nest, and the tokens that they show.
use Rattle.std.proofs.Common.{◌≡◌, ℕ, suc, ◌+◌, ◌≤◌, List, [], ◌∷◌, ◌++◌, map, length, take, drop, refl, sym, ap, subst, ◌∙◌, append_assoc, append-nil, arith, add-one}
use Rattle.std.proofs.lemmas.List.{take-append-le, length-take, length-append}
use Rattle.token_core.specs.declared.tree.Delimiter.{Delimiter}
use Rattle.token_core.specs.declared.tree.Delimiter.TheVariants.{Parenthesis, Brace, Bracket, None}
use Rattle.token_core.specs.declared.span.DelimSpan.{DelimSpan}
use Rattle.token_core.specs.declared.tree.TokenTree.{TokenTree, out-TokenTree, roll-TokenTree, map-TokenTree, roll-out-TokenTree}
use Rattle.token_core.specs.declared.tree.TokenTree.TheVariants as t
use Rattle.token_core.specs.declared.tree.TokenTree.TheOpen as o
use Rattle.token_core.specs.declared.tree.TokenTree.TheFolds.{fold-roll-TokenTree, fold-roll-Group, ind-TokenTree}
use Rattle.token_core.specs.declared.tree.Group.{Group, out-Group, roll-Group, map-Group, roll-out-Group}
use Rattle.token_core.specs.Toks.{group, enter}
use Rattle.token_core.specs.Trees as s
use Rattle.token_core.specs.Trees.{TokenStream, Before, group_of, delimiter_of, content_of, span_of, all, grouped, toks}
use Rattle.token_core.specs.Seen.{Seen, view, saw_word, saw_mark, saw_lit, saw_group, saw_enter, saw_leave, saw_delimiter, view-nil, view-word, view-mark, view-lit, view-group, view-enter, view-leave}
use Rattle.token_core.specs.Entries as e
use Rattle.token_core.specs.Entries.{Flat, all_of, firsts, seconds, closed, KnownTree, KnownGroup, known_tree, known_group, flat_tree, flat_group, flat_stream, Inside, Nested}
use Rattle.token_core.proofs.Rows.{with_each, beside}

-- ---- one layer at a time

abbrev pub TreeLayer : Type 0
TreeLayer = o.TokenTree-F TokenTree Group

abbrev pub GroupLayer : Type 0
GroupLayer = o.Group-F TokenTree Group

known-tree : (x : TreeLayer) → known_tree (roll-TokenTree x) ≡ e.tree_step (map-TokenTree TokenTree Group KnownTree KnownGroup known_tree known_group x)
unfolding known_tree known_group
known-tree x = fold-roll-TokenTree KnownTree KnownGroup e.tree_step e.group_step x

known-group : (x : GroupLayer) → known_group (roll-Group x) ≡ e.group_step (map-Group TokenTree Group KnownTree KnownGroup known_tree known_group x)
unfolding known_tree known_group
known-group x = fold-roll-Group KnownTree KnownGroup e.tree_step e.group_step x

pub tree-roll : (x : TreeLayer) → s.tree (roll-TokenTree x) ≡ s.tree_step (map-TokenTree TokenTree Group Before Before s.tree s.inside x)
unfolding s.tree s.inside
tree-roll x = fold-roll-TokenTree Before Before s.tree_step s.group_step x

pub group-roll : (x : GroupLayer) → s.inside (roll-Group x) ≡ grouped x.content.1 x.span (s.stream x.content.0)
unfolding s.tree s.inside s.stream
group-roll x = fold-roll-Group Before Before s.tree_step s.group_step x

pub stream-roll : (c : TokenStream) → s.stream c ≡ all (map s.tree c)
unfolding s.stream
stream-roll c = refl

-- ---- a tree that is kept beside its entries is that tree

module _ where
  abbrev P : TokenTree → Type 0
  P t = (known_tree t).0 ≡ t

  abbrev Q : Group → Type 0
  Q g = (known_group g).0 ≡ g

  abbrev A : Type 0
  A = (t : TokenTree) × P t

  abbrev B : Type 0
  B = (g : Group) × Q g

  firsts_known : (l : List A) → firsts (map known_tree (map (λ (a : A). a.0) l)) ≡ map (λ (a : A). a.0) l
  firsts_known [] = refl
  firsts_known (a ∷ l) = ap (λ x. x ∷ firsts (map known_tree (map (λ (a : A). a.0) l))) a.1 ∙ ap (λ x. a.0 ∷ x) (firsts_known l)

  tree_layer : (y : o.TokenTree-F A B) → P (roll-TokenTree (map-TokenTree A B TokenTree Group (λ a. a.0) (λ b. b.0) y))
  tree_layer (o.Ident i) = ap (λ (k : KnownTree). k.0) (known-tree (o.Ident i)) ∙ sym (t.rolls-Ident i)
  tree_layer (o.Punct p) = ap (λ (k : KnownTree). k.0) (known-tree (o.Punct p)) ∙ sym (t.rolls-Punct p)
  tree_layer (o.Literal l) = ap (λ (k : KnownTree). k.0) (known-tree (o.Literal l)) ∙ sym (t.rolls-Literal l)
  tree_layer (o.Group g) = ap (λ (k : KnownTree). k.0) (known-tree (o.Group g.0)) ∙ ap t.Group g.1 ∙ sym (t.rolls-Group g.0)

  group_layer : (y : o.Group-F A B) → Q (roll-Group (map-Group A B TokenTree Group (λ a. a.0) (λ b. b.0) y))
  group_layer y = ap (λ (k : KnownGroup). k.0) (known-group (record { content = (map (λ (a : A). a.0) y.content.0, y.content.1); span = y.span })) ∙ ap (λ z. group_of y.content.1 z y.span) (firsts_known y.content.0)

  known_tree_is : (t : TokenTree) → P t
  known_tree_is = ind-TokenTree P Q (λ x y is. subst (λ z. P (roll-TokenTree z)) is (tree_layer y)) (λ x y is. subst (λ z. Q (roll-Group z)) is (group_layer y))

known_is : (c : TokenStream) → firsts (map known_tree c) ≡ c
known_is [] = refl
known_is (t ∷ c) = ap (λ x. x ∷ firsts (map known_tree c)) (known_tree_is t) ∙ ap (λ x. t ∷ x) (known_is c)

-- ---- the entries of a tree, of a group and of a list

flats_known : (l : List TokenTree) → seconds (map known_tree l) ≡ map flat_tree l
flats_known [] = refl
flats_known (t ∷ l) = ap (λ x. flat_tree t ∷ x) (flats_known l)

abbrev pub group_flat : Delimiter → DelimSpan → TokenStream → Flat
group_flat d s c = saw_delimiter d s c (length (flat_stream c)) ∷ (flat_stream c ++ saw_leave ∷ [])

pub flat_stream_is : (c : TokenStream) → flat_stream c ≡ all_of (map flat_tree c)
unfolding flat_stream
flat_stream_is c = refl

flat-group-roll : (x : GroupLayer) → flat_group (roll-Group x) ≡ group_flat x.content.1 x.span x.content.0
flat-group-roll x =
    ap (λ (k : KnownGroup). k.1) (known-group x)
    ∙ ap (λ z. (closed x.content.1 x.span z (all_of (seconds (map known_tree x.content.0)))).1) (known_is x.content.0)
    ∙ ap (λ z. (closed x.content.1 x.span x.content.0 z).1) (ap all_of (flats_known x.content.0) ∙ sym (flat_stream_is x.content.0))

abbrev pub tree_flat : e.Layer → Flat
tree_flat (o.Ident i) = saw_word i ∷ []
tree_flat (o.Punct p) = saw_mark p ∷ []
tree_flat (o.Literal l) = saw_lit l ∷ []
tree_flat (o.Group g) = flat_group g

flat-tree-roll : (x : TreeLayer) → flat_tree (roll-TokenTree x) ≡ tree_flat x
flat-tree-roll (o.Ident i) = ap (λ (k : KnownTree). k.1) (known-tree (o.Ident i))
flat-tree-roll (o.Punct p) = ap (λ (k : KnownTree). k.1) (known-tree (o.Punct p))
flat-tree-roll (o.Literal l) = ap (λ (k : KnownTree). k.1) (known-tree (o.Literal l))
flat-tree-roll (o.Group g) = ap (λ (k : KnownTree). k.1) (known-tree (o.Group g))

-- ---- they nest

pub take_whole : (xs ys : Flat) → take (length xs) (xs ++ ys) ≡ xs
take_whole [] ys = refl
take_whole (x ∷ xs) ys = ap (λ l. x ∷ l) (take_whole xs ys)

take_end : (xs : Flat) (y : Seen) → take (suc (length xs)) (xs ++ y ∷ []) ≡ xs ++ y ∷ []
take_end [] y = refl
take_end (x ∷ xs) y = ap (λ l. x ∷ l) (take_end xs y)

inside_append : (c : TokenStream) (n : ℕ) (l ys : Flat) → Inside c n l → Inside c n (l ++ ys)
inside_append c n l ys i =
    let h : suc n ≤ length l = omega (arith, i.0, ap length i.1, length-take (suc n) l, length-append (flat_stream c) (saw_leave ∷ [])) in
    (i.0, take-append-le (suc n) l ys h ∙ i.1)

nested_append : (xs ys : Flat) → Nested xs → Nested ys → Nested (xs ++ ys)
nested_append [] ys p q = q
nested_append (saw_word i ∷ xs) ys p q = nested_append xs ys p q
nested_append (saw_mark m ∷ xs) ys p q = nested_append xs ys p q
nested_append (saw_lit k ∷ xs) ys p q = nested_append xs ys p q
nested_append (saw_group d s c n ∷ xs) ys p q = (inside_append c n xs ys p.0, nested_append xs ys p.1 q)
nested_append (saw_enter s c n ∷ xs) ys p q = (inside_append c n xs ys p.0, nested_append xs ys p.1 q)
nested_append (saw_leave ∷ xs) ys p q = nested_append xs ys p q

nested_group : (d : Delimiter) (s : DelimSpan) (c : TokenStream) → Nested (flat_stream c) → Nested (group_flat d s c)
nested_group Parenthesis s c h = ((refl, take_end (flat_stream c) saw_leave), nested_append (flat_stream c) (saw_leave ∷ []) h tt)
nested_group Brace s c h = ((refl, take_end (flat_stream c) saw_leave), nested_append (flat_stream c) (saw_leave ∷ []) h tt)
nested_group Bracket s c h = ((refl, take_end (flat_stream c) saw_leave), nested_append (flat_stream c) (saw_leave ∷ []) h tt)
nested_group None s c h = ((refl, take_end (flat_stream c) saw_leave), nested_append (flat_stream c) (saw_leave ∷ []) h tt)

module _ where
  abbrev NP : TokenTree → Type 0
  NP t = Nested (flat_tree t)

  abbrev NQ : Group → Type 0
  NQ g = Nested (flat_group g)

  abbrev NA : Type 0
  NA = (t : TokenTree) × NP t

  abbrev NB : Type 0
  NB = (g : Group) × NQ g

  abbrev nested_trees : List NA → TokenStream
  nested_trees l = map (λ (a : NA). a.0) l

  nested_all : (l : List NA) → Nested (all_of (map flat_tree (nested_trees l)))
  nested_all [] = tt
  nested_all (a ∷ l) = nested_append (flat_tree a.0) (all_of (map flat_tree (nested_trees l))) a.1 (nested_all l)

  nested_content : (l : List NA) → Nested (flat_stream (nested_trees l))
  nested_content l = subst Nested (sym (flat_stream_is (nested_trees l))) (nested_all l)

  nested_tree_layer : (y : o.TokenTree-F NA NB) → NP (roll-TokenTree (map-TokenTree NA NB TokenTree Group (λ a. a.0) (λ b. b.0) y))
  nested_tree_layer (o.Ident i) = subst Nested (sym (flat-tree-roll (o.Ident i))) tt
  nested_tree_layer (o.Punct p) = subst Nested (sym (flat-tree-roll (o.Punct p))) tt
  nested_tree_layer (o.Literal l) = subst Nested (sym (flat-tree-roll (o.Literal l))) tt
  nested_tree_layer (o.Group g) = subst Nested (sym (flat-tree-roll (o.Group g.0))) g.1

  nested_group_layer : (y : o.Group-F NA NB) → NQ (roll-Group (map-Group NA NB TokenTree Group (λ a. a.0) (λ b. b.0) y))
  nested_group_layer y =
      let c = nested_trees y.content.0 in
      subst Nested (sym (flat-group-roll (record { content = (c, y.content.1); span = y.span }))) (nested_group y.content.1 y.span c (nested_content y.content.0))

  nested_tree : (t : TokenTree) → NP t
  nested_tree = ind-TokenTree NP NQ (λ x y is. subst (λ z. NP (roll-TokenTree z)) is (nested_tree_layer y)) (λ x y is. subst (λ z. NQ (roll-Group z)) is (nested_group_layer y))

  pub nested_flat : (c : TokenStream) → Nested (flat_stream c)
  nested_flat c = subst (λ z. Nested (flat_stream z)) (beside NP nested_tree c) (nested_content (with_each NP nested_tree c))

-- ---- they show the tokens

take_between : (xs ys : Flat) (y : Seen) → take (length xs) ((xs ++ y ∷ []) ++ ys) ≡ xs
take_between [] ys y = refl
take_between (x ∷ xs) ys y = ap (λ l. x ∷ l) (take_between xs ys y)

drop_past : (xs ys : Flat) (y : Seen) → drop (suc (length xs)) ((xs ++ y ∷ []) ++ ys) ≡ ys
drop_past [] ys y = refl
drop_past (x ∷ xs) ys y = drop_past xs ys y

drop_between : (xs ys : Flat) (y : Seen) → drop (length xs + 1) ((xs ++ y ∷ []) ++ ys) ≡ ys
drop_between xs ys y = rw add-one (drop_past xs ys y)

abbrev Shows : TokenStream → Type 0
Shows c = (l : Flat) → view (flat_stream c ++ l) ≡ s.stream c (view l)

shows_alone : (c : TokenStream) → Shows c → view (flat_stream c) ≡ toks c
shows_alone c h = ap view (sym (append-nil (flat_stream c))) ∙ h [] ∙ ap (s.stream c) view-nil

shows_visible : (d : Delimiter) (p : DelimSpan) (c : TokenStream) (l : Flat) → Shows c → view (saw_group d p c (length (flat_stream c)) ∷ ((flat_stream c ++ saw_leave ∷ []) ++ l)) ≡ group d p (toks c) (view l)
shows_visible d p c l h =
    view-group d p c (length (flat_stream c)) ((flat_stream c ++ saw_leave ∷ []) ++ l)
    ∙ ap (λ z. group d p (view z) (view (drop (length (flat_stream c) + 1) ((flat_stream c ++ saw_leave ∷ []) ++ l)))) (take_between (flat_stream c) l saw_leave)
    ∙ ap (λ z. group d p (view (flat_stream c)) (view z)) (drop_between (flat_stream c) l saw_leave)
    ∙ ap (λ z. group d p z (view l)) (shows_alone c h)

shows_group : (d : Delimiter) (p : DelimSpan) (c : TokenStream) (l : Flat) → Shows c → view (group_flat d p c ++ l) ≡ grouped d p (s.stream c) (view l)
shows_group Parenthesis p c l h = shows_visible Parenthesis p c l h
shows_group Brace p c l h = shows_visible Brace p c l h
shows_group Bracket p c l h = shows_visible Bracket p c l h
shows_group None p c l h =
    view-enter p c (length (flat_stream c)) ((flat_stream c ++ saw_leave ∷ []) ++ l)
    ∙ ap (λ z. enter p (view z)) (append_assoc (flat_stream c) (saw_leave ∷ []) l)
    ∙ ap (enter p) (h (saw_leave ∷ l))
    ∙ ap (λ z. enter p (s.stream c z)) (view-leave l)

module _ where
  abbrev SP : TokenTree → Type 0
  SP t = (l : Flat) → view (flat_tree t ++ l) ≡ s.tree t (view l)

  abbrev SQ : Group → Type 0
  SQ g = (l : Flat) → view (flat_group g ++ l) ≡ s.inside g (view l)

  abbrev SA : Type 0
  SA = (t : TokenTree) × SP t

  abbrev SB : Type 0
  SB = (g : Group) × SQ g

  abbrev shown_trees : List SA → TokenStream
  shown_trees l = map (λ (a : SA). a.0) l

  shows_all : (l : List SA) (m : Flat) → view (all_of (map flat_tree (shown_trees l)) ++ m) ≡ all (map s.tree (shown_trees l)) (view m)
  shows_all [] m = refl
  shows_all (a ∷ l) m =
      ap view (append_assoc (flat_tree a.0) (all_of (map flat_tree (shown_trees l))) m)
      ∙ a.1 (all_of (map flat_tree (shown_trees l)) ++ m)
      ∙ ap (s.tree a.0) (shows_all l m)

  shows_content : (l : List SA) → Shows (shown_trees l)
  shows_content l = λ m. ap (λ k. view (k ++ m)) (flat_stream_is (shown_trees l)) ∙ shows_all l m ∙ sym (ap (λ f. f (view m)) (stream-roll (shown_trees l)))

  shows_leaf : (x : TreeLayer) (z : Seen) (l : Flat) → tree_flat x ≡ z ∷ [] → view (z ∷ l) ≡ s.tree (roll-TokenTree x) (view l) → view (flat_tree (roll-TokenTree x) ++ l) ≡ s.tree (roll-TokenTree x) (view l)
  shows_leaf x z l i h = ap (λ k. view (k ++ l)) (flat-tree-roll x ∙ i) ∙ h

  shows_tree_layer : (y : o.TokenTree-F SA SB) → SP (roll-TokenTree (map-TokenTree SA SB TokenTree Group (λ a. a.0) (λ b. b.0) y))
  shows_tree_layer (o.Ident i) = λ l. shows_leaf (o.Ident i) (saw_word i) l refl (view-word i l ∙ sym (ap (λ f. f (view l)) (tree-roll (o.Ident i))))
  shows_tree_layer (o.Punct p) = λ l. shows_leaf (o.Punct p) (saw_mark p) l refl (view-mark p l ∙ sym (ap (λ f. f (view l)) (tree-roll (o.Punct p))))
  shows_tree_layer (o.Literal k) = λ l. shows_leaf (o.Literal k) (saw_lit k) l refl (view-lit k l ∙ sym (ap (λ f. f (view l)) (tree-roll (o.Literal k))))
  shows_tree_layer (o.Group g) = λ l. ap (λ k. view (k ++ l)) (flat-tree-roll (o.Group g.0)) ∙ g.1 l ∙ sym (ap (λ f. f (view l)) (tree-roll (o.Group g.0)))

  shows_group_layer : (y : o.Group-F SA SB) → SQ (roll-Group (map-Group SA SB TokenTree Group (λ a. a.0) (λ b. b.0) y))
  shows_group_layer y = λ l.
      let c = shown_trees y.content.0 in
      ap (λ k. view (k ++ l)) (flat-group-roll (record { content = (c, y.content.1); span = y.span }))
      ∙ shows_group y.content.1 y.span c l (shows_content y.content.0)
      ∙ sym (ap (λ f. f (view l)) (group-roll (record { content = (c, y.content.1); span = y.span })))

  shows_tree : (t : TokenTree) → SP t
  shows_tree = ind-TokenTree SP SQ (λ x y is. subst (λ z. SP (roll-TokenTree z)) is (shows_tree_layer y)) (λ x y is. subst (λ z. SQ (roll-Group z)) is (shows_group_layer y))

  pub shows_stream : (c : TokenStream) → Shows c
  shows_stream c = subst Shows (beside SP shows_tree c) (shows_content (with_each SP shows_tree c))

-- the entries of a list show its tokens
pub view-flat : (c : TokenStream) → view (flat_stream c) ≡ toks c
view-flat c = shows_alone c (shows_stream c)

-- ---- the same, of a tree that is opened

pub flat_tree_is : (t : TokenTree) → flat_tree t ≡ tree_flat (out-TokenTree t)
flat_tree_is t = ap flat_tree (sym (roll-out-TokenTree t)) ∙ flat-tree-roll (out-TokenTree t)

pub flat_group_is : (g : Group) → flat_group g ≡ group_flat (delimiter_of g) (span_of g) (content_of g)
flat_group_is g = ap flat_group (sym (roll-out-Group g)) ∙ flat-group-roll (out-Group g)
