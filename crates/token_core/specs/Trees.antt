-- Token trees by their parts, and the tokens of trees.
use Rattle.std.specs.Prelude.{ℕ, List, [], ◌∷◌, map}
use Rattle.token_core.specs.declared.tree.Delimiter.{Delimiter}
use Rattle.token_core.specs.declared.tree.Delimiter.TheVariants.{Parenthesis, Brace, Bracket, None}
use Rattle.token_core.specs.declared.tree.Spacing.{Spacing}
use Rattle.token_core.specs.declared.tree.LitKind.{LitKind}
use Rattle.token_core.specs.declared.span.Span.{Span}
use Rattle.token_core.specs.declared.span.DelimSpan.{DelimSpan}
use Rattle.token_core.specs.declared.tree.Ident.{Ident}
use Rattle.token_core.specs.declared.tree.Punct.{Punct}
use Rattle.token_core.specs.declared.tree.Literal.{Literal}
use Rattle.token_core.specs.declared.tree.TokenTree.{TokenTree}
use Rattle.token_core.specs.declared.tree.TokenTree.TheOpen as o
use Rattle.token_core.specs.declared.tree.TokenTree.TheFolds.{fold-TokenTree, fold-Group}
use Rattle.token_core.specs.declared.tree.Group.{Group, out-Group, roll-Group}
use Rattle.token_core.specs.Toks.{Bytes, Toks, done, word, mark, lit, group, enter, leave}

-- a list of token trees, as contracts see it
abbrev pub TokenStream : Type 0
TokenStream = List TokenTree

abbrev pub ident : Bytes → Span → Ident
ident t s = record { text = t; span = s }

abbrev pub punct : ℕ → Spacing → Span → Punct
punct c j s = record { ch = c; spacing = j; span = s }

abbrev pub literal : LitKind → Bytes → Span → Literal
literal k t s = record { kind = k; text = t; span = s }

abbrev pub group_of : Delimiter → TokenStream → DelimSpan → Group
group_of d c s = roll-Group (record { content = (c, d); span = s })

abbrev pub delimiter_of : Group → Delimiter
delimiter_of g = (out-Group g).content.1

abbrev pub content_of : Group → TokenStream
content_of g = (out-Group g).content.0

abbrev pub span_of : Group → DelimSpan
span_of g = (out-Group g).span

abbrev pub trees : TokenStream → List TokenTree
trees s = s

abbrev pub stream_of_trees : List TokenTree → TokenStream
stream_of_trees l = l

-- ---- the tokens of trees, put before others

abbrev pub Before : Type 0
Before = Toks → Toks

abbrev pub all : List Before → Before
all [] r = r
all (f ∷ fs) r = f (all fs r)

abbrev pub grouped : Delimiter → DelimSpan → Before → Before
grouped None s content r = enter s (content (leave r))
grouped Parenthesis s content r = group Parenthesis s (content done) r
grouped Brace s content r = group Brace s (content done) r
grouped Bracket s content r = group Bracket s (content done) r

abbrev pub tree_step : o.TokenTree-F Before Before → Before
tree_step (o.Ident i) r = word i r
tree_step (o.Punct p) r = mark p r
tree_step (o.Literal l) r = lit l r
tree_step (o.Group g) r = g r

abbrev pub group_step : o.Group-F Before Before → Before
group_step g = grouped g.content.1 g.span (all g.content.0)

unfoldable pub tree : TokenTree → Before
tree = fold-TokenTree Before Before tree_step group_step

unfoldable pub inside : Group → Before
inside = fold-Group Before Before tree_step group_step

unfoldable pub stream : TokenStream → Before
stream c = all (map tree c)

-- the tokens of a list of trees
abbrev pub row : List TokenTree → Before
row ts = all (map tree ts)

-- the tokens of a token list
abbrev pub toks : TokenStream → Toks
toks s = stream s done
