-- All that is left of a list, as trees: an invisible group is one where all of it is left. And where a read of it all stops.
use Rattle.std.specs.Prelude.{ℕ, zero, suc, List, [], ◌∷◌, ◌++◌, if◌then◌else◌}
use Rattle.token_core.specs.declared.span.Span.{Span}
use Rattle.token_core.specs.declared.tree.Delimiter.{Delimiter}
use Rattle.token_core.specs.declared.tree.Delimiter.TheVariants as d
use Rattle.token_core.specs.declared.tree.TokenTree.{TokenTree}
use Rattle.token_core.specs.declared.tree.TokenTree.TheVariants as t
use Rattle.token_core.specs.Cut.{joined}
use Rattle.token_core.specs.Front.{past_ends}
use Rattle.token_core.specs.Reads.{is_end}
use Rattle.token_core.specs.Rebuilt.{Levels, onto, enclose, stream_of}
use Rattle.token_core.specs.Stream.{Stream}
use Rattle.token_core.specs.Toks.{Toks, done, word, mark, lit, group, enter, leave}
use Rattle.token_core.specs.Trees.{group_of}

-- no token is an invisible group: such a group is flat between its bounds
abbrev pub seen : Delimiter → Delimiter
seen d.Parenthesis = d.Parenthesis
seen d.Brace = d.Brace
seen d.Bracket = d.Bracket
seen d.None = d.Brace

-- the trees up to the next end of an invisible group that was not entered here, and those between the later ends
abbrev pub levels : Toks → Levels
levels done = ([], [])
levels (word i k) = onto (t.Ident i) (levels k)
levels (mark p k) = onto (t.Punct p) (levels k)
levels (lit l k) = onto (t.Literal l) (levels k)
levels (group b s c k) = onto (t.Group (group_of (seen b) (stream_of c) s)) (levels k)
levels (enter s k) = enclose s (levels k)
levels (leave k) = ([], (levels k).0 ∷ (levels k).1)

-- all of them: such an end is passed over
unfoldable pub held : Toks → List TokenTree
held l = (levels l).0 ++ joined (levels l).1

-- what follows all trees, so many groups further in: ends of invisible groups that were not entered here
abbrev pub after : ℕ → Toks → Toks
after n done = done
after n (word i k) = after n k
after n (mark p k) = after n k
after n (lit l k) = after n k
after n (group b s c k) = after n k
after n (enter s k) = after (suc n) k
after zero (leave k) = if is_end (past_ends k) then leave k else after zero k
after (suc n) (leave k) = after n k

-- outside of all invisible groups, after the tree of this span; or inside one that ends at this span, and so many further in
pub data Where : Type 0 where
  outside : Span → Where
  inside : ℕ → Span → Where

-- the span of the last tree
abbrev pub last : Where → Toks → Span
last (outside e) done = e
last (outside e) (word i k) = last (outside i.span) k
last (outside e) (mark p k) = last (outside p.span) k
last (outside e) (lit l k) = last (outside l.span) k
last (outside e) (group b s c k) = last (outside s.closing) k
last (outside e) (enter s k) = last (inside zero s.closing) k
last (outside e) (leave k) = last (outside e) k
last (inside n e) done = e
last (inside n e) (word i k) = last (inside n e) k
last (inside n e) (mark p k) = last (inside n e) k
last (inside n e) (lit l k) = last (inside n e) k
last (inside n e) (group b s c k) = last (inside n e) k
last (inside n e) (enter s k) = last (inside (suc n) e) k
last (inside zero e) (leave k) = last (outside e) k
last (inside (suc n) e) (leave k) = last (inside n e) k

-- where a read of all that is left stops
unfoldable pub ended : Stream → Stream
ended s = record s { rest = after zero s.rest; last = last (outside s.last) s.rest }
