-- The trees between two positions: a group that ends after the second one is entered, and not kept.
use Rattle.std.specs.Prelude.{◌-◌, length, take, List, [], ◌∷◌, ◌++◌, Option, Some, None}
use Rattle.token_core.specs.declared.tree.Delimiter.{Delimiter}
use Rattle.token_core.specs.declared.span.DelimSpan.{DelimSpan}
use Rattle.token_core.specs.declared.tree.TokenTree.{TokenTree}
use Rattle.token_core.specs.declared.tree.TokenTree.TheVariants as t
use Rattle.token_core.specs.Trees.{TokenStream, group_of, stream_of_trees}
use Rattle.token_core.specs.Rebuilt.{Levels, onto}
use Rattle.token_core.specs.Positions.{Item, an_ident, a_punct, a_literal, a_beginning, an_end}

-- the items up to a later position
abbrev pub up_to : List Item → List Item → List Item
up_to begin end = take (length begin - length end) begin

-- a group, if its end is there, and else what it holds
abbrev pub closed : Delimiter → DelimSpan → Levels → Levels
closed d s (x, []) = (x, [])
closed d s (x, y ∷ more) = (t.Group (group_of d (stream_of_trees x) s) ∷ y, more)

-- the trees up to the next end of a group that was not entered, and those between the later ends
abbrev pub parts : List Item → Levels
parts [] = ([], [])
parts (an_ident i ∷ l) = onto (t.Ident i) (parts l)
parts (a_punct p ∷ l) = onto (t.Punct p) (parts l)
parts (a_literal k ∷ l) = onto (t.Literal k) (parts l)
parts (a_beginning d s ∷ l) = closed d s (parts l)
parts (an_end ∷ l) = ([], (parts l).0 ∷ (parts l).1)

abbrev pub joined : List (List TokenTree) → List TokenTree
joined [] = []
joined (x ∷ xs) = x ++ joined xs

-- all of them, in order: such an end is passed over
abbrev pub all_parts : Levels → List TokenTree
all_parts v = v.0 ++ joined v.1

unfoldable pub trees_between : List Item → List Item → List TokenTree
trees_between begin end = all_parts (parts (up_to begin end))

abbrev pub between : List Item → List Item → TokenStream
between begin end = stream_of_trees (trees_between begin end)

-- the trees that are kept at one step
abbrev pub kept : Option TokenTree → List TokenTree
kept None = []
kept (Some x) = x ∷ []

-- inside a group that begins there, or after the end that stands there
abbrev pub past_bound : List Item → List Item
past_bound [] = []
past_bound (an_ident i ∷ l) = an_ident i ∷ l
past_bound (a_punct p ∷ l) = a_punct p ∷ l
past_bound (a_literal k ∷ l) = a_literal k ∷ l
past_bound (a_beginning d s ∷ l) = l
past_bound (an_end ∷ l) = l
