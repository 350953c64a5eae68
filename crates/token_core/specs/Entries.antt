-- What the entries of a buffer show, and the entries of trees.
use Rattle.std.specs.Prelude.{◌≡◌, ℕ, suc, List, [], ◌∷◌, ◌++◌, map, length, take, if◌then◌else◌}
use Rattle.token_core.specs.declared.tree.TokenTree.{TokenTree, out-TokenTree}
use Rattle.token_core.specs.declared.tree.Delimiter.{Delimiter}
use Rattle.token_core.specs.declared.span.DelimSpan.{DelimSpan}
use Rattle.token_core.specs.declared.tree.Group.{Group}
use Rattle.token_core.specs.declared.tree.TokenTree.TheVariants as t
use Rattle.token_core.specs.declared.tree.TokenTree.TheOpen as o
use Rattle.token_core.specs.declared.tree.TokenTree.TheFolds.{fold-TokenTree, fold-Group}
use Rattle.token_core.specs.declared.class.Entry.{Entry}
use Rattle.token_core.specs.Toks.{Toks}
use Rattle.token_core.specs.Classes.{is_end}
use Rattle.token_core.specs.Trees.{TokenStream, delimiter_of, span_of, content_of, group_of}
use Rattle.token_core.specs.Seen.{Seen, view, saw_word, saw_mark, saw_lit, saw_group, saw_enter, saw_leave, saw_delimiter}

abbrev pub Layer : Type 0
Layer = o.TokenTree-F TokenTree Group

abbrev pub saw_layer : ℕ → Layer → Seen
saw_layer n (o.Ident i) = saw_word i
saw_layer n (o.Punct p) = saw_mark p
saw_layer n (o.Literal l) = saw_lit l
saw_layer n (o.Group g) = saw_delimiter (delimiter_of g) (span_of g) (content_of g) n

abbrev pub saw : Entry → Seen
saw e = if is_end e.class then saw_leave else saw_layer e.content (out-TokenTree e.tree.now)

abbrev pub entries_view : List Entry → Toks
entries_view l = view (map saw l)

-- ---- the entries of trees, in order; each tree is kept beside its entries, since a group's entry tells its content

abbrev pub Flat : Type 0
Flat = List Seen

abbrev pub all_of : List Flat → Flat
all_of [] = []
all_of (x ∷ xs) = x ++ all_of xs

abbrev pub KnownTree : Type 0
KnownTree = TokenTree × Flat

abbrev pub KnownGroup : Type 0
KnownGroup = Group × Flat

abbrev pub firsts : List KnownTree → List TokenTree
firsts [] = []
firsts (x ∷ xs) = x.0 ∷ firsts xs

abbrev pub seconds : List KnownTree → List Flat
seconds [] = []
seconds (x ∷ xs) = x.1 ∷ seconds xs

abbrev pub tree_step : o.TokenTree-F KnownTree KnownGroup → KnownTree
tree_step (o.Ident i) = (t.Ident i, saw_word i ∷ [])
tree_step (o.Punct p) = (t.Punct p, saw_mark p ∷ [])
tree_step (o.Literal l) = (t.Literal l, saw_lit l ∷ [])
tree_step (o.Group g) = (t.Group g.0, g.1)

abbrev pub closed : Delimiter → DelimSpan → TokenStream → Flat → KnownGroup
closed d s c l = (group_of d c s, saw_delimiter d s c (length l) ∷ (l ++ saw_leave ∷ []))

abbrev pub group_step : o.Group-F KnownTree KnownGroup → KnownGroup
group_step g = closed g.content.1 g.span (firsts g.content.0) (all_of (seconds g.content.0))

unfoldable pub known_tree : TokenTree → KnownTree
known_tree = fold-TokenTree KnownTree KnownGroup tree_step group_step

unfoldable pub known_group : Group → KnownGroup
known_group = fold-Group KnownTree KnownGroup tree_step group_step

abbrev pub flat_tree : TokenTree → Flat
flat_tree t = (known_tree t).1

abbrev pub flat_group : Group → Flat
flat_group g = (known_group g).1

unfoldable pub flat_stream : TokenStream → Flat
flat_stream c = all_of (map flat_tree c)

-- ---- each group's entry is followed by the entries of its content, and by its end

abbrev pub Inside : TokenStream → ℕ → Flat → Type 0
Inside c n l = (n ≡ length (flat_stream c)) × (take (suc n) l ≡ flat_stream c ++ saw_leave ∷ [])

abbrev pub Nested : Flat → Type 0
Nested [] = Unit {0}
Nested (saw_word i ∷ l) = Nested l
Nested (saw_mark p ∷ l) = Nested l
Nested (saw_lit k ∷ l) = Nested l
Nested (saw_group d s c n ∷ l) = Inside c n l × Nested l
Nested (saw_enter s c n ∷ l) = Inside c n l × Nested l
Nested (saw_leave ∷ l) = Nested l
