-- Where tokens stand.
use Rattle.std.specs.Prelude.{ℕ, List, [], ◌∷◌, map, Option, Some, None, nat_eq, if◌then◌else◌}
use Rattle.token_core.specs.declared.span.Span.{Span}
use Rattle.token_core.specs.declared.tree.TokenTree.{TokenTree, out-TokenTree}
use Rattle.token_core.specs.declared.tree.TokenTree.TheOpen as o
use Rattle.token_core.specs.Entries.{Layer}
use Rattle.token_core.specs.Spans.{span, none}
use Rattle.token_core.specs.Trees.{span_of as delimiters}

abbrev pub layer_stands : Layer → Span
layer_stands (o.Ident i) = i.span
layer_stands (o.Punct p) = p.span
layer_stands (o.Literal l) = l.span
layer_stands (o.Group g) = span (delimiters g).opening.lo (delimiters g).closing.hi

-- where a token stands, a group from its opening to the end of its closing delimiter
abbrev pub stands : TokenTree → Span
stands t = layer_stands (out-TokenTree t)

-- those that a text gave
abbrev pub given : List Span → List Span
given [] = []
given (s ∷ l) = if nat_eq s.hi 0 then given l else s ∷ given l

abbrev pub last_of : Span → List Span → Span
last_of s [] = s
last_of s (x ∷ l) = last_of x l

-- from the first to the last
abbrev pub ends : List Span → Span
ends [] = none
ends (s ∷ l) = span s.lo (last_of s l).hi

-- where tokens stand: from the first that a text gave to the last
abbrev pub span_of : List TokenTree → Span
span_of l = ends (given (map stands l))

abbrev pub joined : Option Span → Span → Option Span
joined None next = Some next
joined (Some s) next = Some (span s.lo next.hi)

-- what was found so far, with the next
abbrev pub further : Option Span → Span → Option Span
further found next = if nat_eq next.hi 0 then found else joined found next
