-- The token list that tokens are the tokens of. An invisible group that is not left ends where the tokens end.
use Rattle.std.specs.Prelude.{List, [], ◌∷◌}
use Rattle.token_core.specs.declared.tree.Delimiter.{Delimiter}
use Rattle.token_core.specs.declared.tree.Delimiter.TheVariants.{Parenthesis, Brace, Bracket, None}
use Rattle.token_core.specs.declared.span.DelimSpan.{DelimSpan}
use Rattle.token_core.specs.declared.tree.TokenTree.{TokenTree}
use Rattle.token_core.specs.declared.tree.TokenTree.TheVariants as t
use Rattle.token_core.specs.Toks.{Toks, done, word, mark, lit, group, enter, leave}
use Rattle.token_core.specs.Trees.{TokenStream, group_of, stream_of_trees}

-- the trees up to the next end of an invisible group that was not entered, and those between the later ends
abbrev pub Levels : Type 0
Levels = List TokenTree × List (List TokenTree)

abbrev pub onto : TokenTree → Levels → Levels
onto x v = (x ∷ v.0, v.1)

abbrev pub invisible : DelimSpan → List TokenTree → TokenTree
invisible s l = t.Group (group_of None (stream_of_trees l) s)

abbrev pub enclose : DelimSpan → Levels → Levels
enclose s (x, []) = (invisible s x ∷ [], [])
enclose s (x, y ∷ more) = (invisible s x ∷ y, more)

abbrev pub levels : Toks → Levels
levels done = ([], [])
levels (word i k) = onto (t.Ident i) (levels k)
levels (mark p k) = onto (t.Punct p) (levels k)
levels (lit l k) = onto (t.Literal l) (levels k)
levels (group d s c k) = onto (t.Group (group_of d (stream_of_trees (levels c).0) s)) (levels k)
levels (enter s k) = enclose s (levels k)
levels (leave k) = ([], (levels k).0 ∷ (levels k).1)

unfoldable pub stream_of : Toks → TokenStream
stream_of l = stream_of_trees (levels l).0

abbrev pub IsVisible : Delimiter → Type 0
IsVisible Parenthesis = Unit {0}
IsVisible Brace = Unit {0}
IsVisible Bracket = Unit {0}
IsVisible None = ⊥

-- no invisible group, at any depth
abbrev pub Visible : Toks → Type 0
Visible done = Unit {0}
Visible (word i k) = Visible k
Visible (mark p k) = Visible k
Visible (lit l k) = Visible k
Visible (group d s c k) = IsVisible d × Visible c × Visible k
Visible (enter s k) = ⊥
Visible (leave k) = ⊥
