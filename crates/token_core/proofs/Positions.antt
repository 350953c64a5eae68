-- The items of tokens: those of trees, and those that entries show.
use Rattle.std.proofs.Common.{◌≡◌, ℕ, zero, suc, ◌+◌, ◌≤◌, List, [], ◌∷◌, ◌++◌, map, length, take, drop, refl, sym, ap, subst, ◌∙◌, append_assoc, arith}
use Rattle.std.proofs.lemmas.List.{length-map, length-take, length-drop, take-append-drop, map-append}
use Rattle.token_core.specs.declared.class.Entry.{Entry}
use Rattle.token_core.specs.declared.tree.Delimiter.{Delimiter}
use Rattle.token_core.specs.declared.tree.Delimiter.TheVariants.{Parenthesis, Brace, Bracket, None}
use Rattle.token_core.specs.declared.span.DelimSpan.{DelimSpan}
use Rattle.token_core.specs.declared.tree.Ident.{Ident}
use Rattle.token_core.specs.declared.tree.Punct.{Punct}
use Rattle.token_core.specs.declared.tree.Literal.{Literal}
use Rattle.token_core.specs.declared.tree.TokenTree.{TokenTree, roll-TokenTree, map-TokenTree}
use Rattle.token_core.specs.declared.tree.TokenTree.TheVariants as t
use Rattle.token_core.specs.declared.tree.TokenTree.TheOpen as o
use Rattle.token_core.specs.declared.tree.TokenTree.TheFolds.{ind-TokenTree}
use Rattle.token_core.specs.declared.tree.Group.{Group, roll-Group, map-Group, roll-out-Group}
use Rattle.token_core.specs.Toks.{Toks, done, word, mark, lit, group, leave}
use Rattle.token_core.specs.Trees as s
use Rattle.token_core.specs.Trees.{TokenStream, Before, all, grouped, toks, group_of, delimiter_of, span_of, content_of}
use Rattle.token_core.specs.Seen.{view, saw_word, saw_mark, saw_lit, saw_group, saw_enter, saw_leave, saw_delimiter, view-nil, view-word, view-mark, view-lit, view-group, view-enter, view-leave}
use Rattle.token_core.specs.Entries.{Flat, saw, entries_view, Nested, Inside, flat_stream}
use Rattle.token_core.specs.Positions.{an_ident, a_punct, a_literal, a_beginning, an_end, items, item, tree_items, entries_items}
use Rattle.token_core.proofs.Flats.{tree-roll, group-roll, stream-roll, nested_flat, view-flat}
use Rattle.token_core.proofs.Fronts.{inside_taken, nested_from}
use Rattle.token_core.proofs.Rows.{with_each, beside}
use Rattle.token_core.proofs.Rebuilds.{tree-ident, tree-punct, tree-literal, tree-group}

-- ---- tokens that are put before others add their items

abbrev pub Adds : Before → Type 0
Adds f = (k : Toks) → items (f k) ≡ items (f done) ++ items k

moved : (f g : Before) → ((r : Toks) → f r ≡ g r) → Adds g → Adds f
moved f g e h = λ k. ap items (e k) ∙ h k ∙ ap (λ z. items z ++ items k) (sym (e done))

adds_visible : (b : Delimiter) (p : DelimSpan) (c k : Toks) → items (group b p c k) ≡ items (group b p c done) ++ items k
adds_visible b p c k = ap (λ z. a_beginning b p ∷ z) (sym (append_assoc (items c) (an_end ∷ []) (items k)))

adds_group : (b : Delimiter) (p : DelimSpan) (f : Before) → Adds f → Adds (grouped b p f)
adds_group Parenthesis p f h = λ k. adds_visible Parenthesis p (f done) k
adds_group Brace p f h = λ k. adds_visible Brace p (f done) k
adds_group Bracket p f h = λ k. adds_visible Bracket p (f done) k
adds_group None p f h = λ k. ap (λ z. a_beginning None p ∷ z)
    (h (leave k) ∙ sym (append_assoc (items (f done)) (an_end ∷ []) (items k)) ∙ ap (λ z. z ++ items k) (sym (h (leave done))))

-- the items of a group's tokens
group_items : (b : Delimiter) (p : DelimSpan) (f : Before) → Adds f → items (grouped b p f done) ≡ a_beginning b p ∷ (items (f done) ++ an_end ∷ [])
group_items Parenthesis p f h = refl
group_items Brace p f h = refl
group_items Bracket p f h = refl
group_items None p f h = ap (λ z. a_beginning None p ∷ z) (h (leave done))

module _ where
  abbrev AP : TokenTree → Type 0
  AP t = Adds (s.tree t)

  abbrev AQ : Group → Type 0
  AQ g = Adds (s.inside g)

  abbrev AR : TokenStream → Type 0
  AR c = Adds (s.stream c)

  abbrev AA : Type 0
  AA = (t : TokenTree) × AP t

  abbrev AB : Type 0
  AB = (g : Group) × AQ g

  abbrev trees_of : List AA → TokenStream
  trees_of l = map (λ (a : AA). a.0) l

  adds_all : (l : List AA) → Adds (all (map s.tree (trees_of l)))
  adds_all [] = λ k. refl
  adds_all (a ∷ l) = λ k.
      let f = all (map s.tree (trees_of l)) in
      a.1 (f k) ∙ ap (λ z. items (s.tree a.0 done) ++ z) (adds_all l k) ∙ sym (append_assoc (items (s.tree a.0 done)) (items (f done)) (items k)) ∙ ap (λ z. z ++ items k) (sym (a.1 (f done)))

  adds_content : (l : List AA) → AR (trees_of l)
  adds_content l = moved (s.stream (trees_of l)) (all (map s.tree (trees_of l))) (λ r. ap (λ (f : Before). f r) (stream-roll (trees_of l))) (adds_all l)

  adds_tree_layer : (y : o.TokenTree-F AA AB) → AP (roll-TokenTree (map-TokenTree AA AB TokenTree Group (λ a. a.0) (λ b. b.0) y))
  adds_tree_layer (o.Ident i) = moved (s.tree (roll-TokenTree (o.Ident i))) (word i) (λ r. ap (λ (f : Before). f r) (tree-roll (o.Ident i))) (λ k. refl)
  adds_tree_layer (o.Punct p) = moved (s.tree (roll-TokenTree (o.Punct p))) (mark p) (λ r. ap (λ (f : Before). f r) (tree-roll (o.Punct p))) (λ k. refl)
  adds_tree_layer (o.Literal l) = moved (s.tree (roll-TokenTree (o.Literal l))) (lit l) (λ r. ap (λ (f : Before). f r) (tree-roll (o.Literal l))) (λ k. refl)
  adds_tree_layer (o.Group g) = moved (s.tree (roll-TokenTree (o.Group g.0))) (s.inside g.0) (λ r. ap (λ (f : Before). f r) (tree-roll (o.Group g.0))) g.1

  adds_group_layer : (y : o.Group-F AA AB) → AQ (roll-Group (map-Group AA AB TokenTree Group (λ a. a.0) (λ b. b.0) y))
  adds_group_layer y =
      let c = trees_of y.content.0 in
      moved (s.inside (roll-Group (record { content = (c, y.content.1); span = y.span }))) (grouped y.content.1 y.span (s.stream c))
      (λ r. ap (λ (f : Before). f r) (group-roll (record { content = (c, y.content.1); span = y.span }))) (adds_group y.content.1 y.span (s.stream c) (adds_content y.content.0))

  -- the items of a tree's tokens and of what follows them
  pub adds_tree : (t : TokenTree) → AP t
  adds_tree = ind-TokenTree AP AQ (λ x y is. subst (λ z. AP (roll-TokenTree z)) is (adds_tree_layer y)) (λ x y is. subst (λ z. AQ (roll-Group z)) is (adds_group_layer y))

  pub adds_stream : (c : TokenStream) → AR c
  adds_stream c = subst AR (beside AP adds_tree c) (adds_content (with_each AP adds_tree c))

-- ---- the items of each kind of tree

pub ident_items : (i : Ident) → tree_items (t.Ident i) ≡ an_ident i ∷ []
ident_items i = ap items (tree-ident i done)

pub punct_items : (p : Punct) → tree_items (t.Punct p) ≡ a_punct p ∷ []
punct_items p = ap items (tree-punct p done)

pub literal_items : (l : Literal) → tree_items (t.Literal l) ≡ a_literal l ∷ []
literal_items l = ap items (tree-literal l done)

pub delimited_items : (b : Delimiter) (p : DelimSpan) (c : TokenStream) → tree_items (t.Group (group_of b c p)) ≡ a_beginning b p ∷ (items (toks c) ++ an_end ∷ [])
delimited_items b p c = ap items (tree-group b c p done) ∙ group_items b p (s.stream c) (adds_stream c)

pub a_group_items : (g : Group) → tree_items (t.Group g) ≡ a_beginning (delimiter_of g) (span_of g) ∷ (items (toks (content_of g)) ++ an_end ∷ [])
a_group_items g = ap (λ z. tree_items (t.Group z)) (sym (roll-out-Group g)) ∙ delimited_items (delimiter_of g) (span_of g) (content_of g)

-- ---- what entries show

-- the entries of a group's content, its end, and those after it
parted : (c : TokenStream) (n : ℕ) (l : Flat) → Inside c n l → map item l ≡ map item (take n l) ++ an_end ∷ map item (drop (n + 1) l)
parted c n l h =
    let k : suc n ≡ n + 1 = omega arith in
    ap (map item) (sym (take-append-drop (suc n) l) ∙ ap (λ z. z ++ drop (suc n) l) h.1 ∙ append_assoc (flat_stream c) (saw_leave ∷ []) (drop (suc n) l))
    ∙ map-append item (flat_stream c) (saw_leave ∷ drop (suc n) l) ∙ ap (λ z. map item z ++ an_end ∷ map item (drop (suc n) l)) (sym (inside_taken c n l h))
    ∙ ap (λ m. map item (take n l) ++ an_end ∷ map item (drop m l)) k

-- entries that nest show the items of their tokens
shown : (f : ℕ) (l : Flat) → length l ≤ f → Nested l → map item l ≡ items (view l)
shown f [] h i = ap items (sym view-nil)
shown zero (x ∷ l) h i = absurd (omega (arith, h))
shown (suc f) (saw_word w ∷ l) h i = ap (λ z. an_ident w ∷ z) (shown f l (omega (arith, h)) i) ∙ ap items (sym (view-word w l))
shown (suc f) (saw_mark m ∷ l) h i = ap (λ z. a_punct m ∷ z) (shown f l (omega (arith, h)) i) ∙ ap items (sym (view-mark m l))
shown (suc f) (saw_lit k ∷ l) h i = ap (λ z. a_literal k ∷ z) (shown f l (omega (arith, h)) i) ∙ ap items (sym (view-lit k l))
shown (suc f) (saw_enter p c n ∷ l) h i = ap (λ z. a_beginning None p ∷ z) (shown f l (omega (arith, h)) i.1) ∙ ap items (sym (view-enter p c n l))
shown (suc f) (saw_leave ∷ l) h i = ap (λ z. an_end ∷ z) (shown f l (omega (arith, h)) i) ∙ ap items (sym (view-leave l))
shown (suc f) (saw_group b p c n ∷ l) h i =
    let t = inside_taken c n l i.0 in
    let a = shown f (take n l) (omega (arith, h, length-take n l)) (subst Nested (sym t) (nested_flat c)) in
    let r = shown f (drop (n + 1) l) (omega (arith, h, length-drop (n + 1) l)) (nested_from l (n + 1) i.1) in
    ap (λ z. a_beginning b p ∷ z) (parted c n l i.0 ∙ ap (λ z. z ++ an_end ∷ map item (drop (n + 1) l)) a ∙ ap (λ z. items (view (take n l)) ++ an_end ∷ z) r)
    ∙ ap items (sym (view-group b p c n l))

pub items_shown : (l : Flat) → Nested l → map item l ≡ items (view l)
items_shown l h = shown (length l) l (omega arith) h

pub items_seen : (l : List Entry) (x : Toks) → Nested (map saw l) → entries_view l ≡ x → entries_items l ≡ items x
items_seen l x h e = items_shown (map saw l) h ∙ ap items e

-- the same, apart: the content of a group, its end, and what follows
module _ (c : TokenStream) (n : ℕ) (l : Flat) (i : Inside c n l) (h : Nested l) where
  pub content_items : map item (take n l) ≡ items (toks c)
  content_items = ap (map item) (inside_taken c n l i) ∙ items_shown (flat_stream c) (nested_flat c) ∙ ap items (view-flat c)

  pub parts_seen : items (view l) ≡ items (view (take n l)) ++ an_end ∷ items (view (drop (n + 1) l))
  parts_seen =
      sym (items_shown l h) ∙ parted c n l i
      ∙ ap (λ z. z ++ an_end ∷ map item (drop (n + 1) l)) (items_shown (take n l) (subst Nested (sym (inside_taken c n l i)) (nested_flat c)))
      ∙ ap (λ z. items (view (take n l)) ++ an_end ∷ z) (items_shown (drop (n + 1) l) (nested_from l (n + 1) h))

  pub group_seen : (b : Delimiter) (p : DelimSpan) → a_beginning b p ∷ map item l ≡ (a_beginning b p ∷ (items (toks c) ++ an_end ∷ [])) ++ map item (drop (n + 1) l)
  group_seen b p = ap (λ z. a_beginning b p ∷ z)
      (parted c n l i ∙ ap (λ z. z ++ an_end ∷ map item (drop (n + 1) l)) content_items ∙ sym (append_assoc (items (toks c)) (an_end ∷ []) (map item (drop (n + 1) l))))

pub item_group : (b : Delimiter) (p : DelimSpan) (c : TokenStream) (n : ℕ) → item (saw_delimiter b p c n) ≡ a_beginning b p
item_group Parenthesis p c n = refl
item_group Brace p c n = refl
item_group Bracket p c n = refl
item_group None p c n = refl

pub count : (l : List Entry) (x : Toks) → Nested (map saw l) → entries_view l ≡ x → length l ≡ length (items x)
count l x h e = sym (length-map l saw) ∙ sym (length-map (map saw l) item) ∙ ap length (items_seen l x h e)
