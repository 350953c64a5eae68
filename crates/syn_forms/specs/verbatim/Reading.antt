-- Tokens that a tree holds as they were written, and refusals that point at what was read.
use Rattle.std.specs.Prelude.{List, ◌++◌, Ok, Err}
use Rattle.token_core.specs.declared.error.ErrorKind.{ErrorKind}
use Rattle.token_core.specs.declared.span.DelimSpan.{DelimSpan}
use Rattle.token_core.specs.declared.span.Span.{Span}
use Rattle.token_core.specs.Trees.{TokenStream}
use Rattle.token_core.specs.Cut.{between}
use Rattle.token_core.specs.Front.{past_ends}
use Rattle.token_core.specs.Positions.{Item, items}
use Rattle.token_core.specs.Reads.{Reader, here}
use Rattle.token_core.specs.Refusal.{refusal, fixed}
use Rattle.token_core.specs.Spans.{span}
use Rattle.token_core.specs.Stream.{Stream}

-- what is left of the whole buffer
abbrev pub position : Stream → List Item
position s = items s.rest ++ s.scope.after

-- where the stream stands
abbrev pub begin : Reader (List Item)
begin = λ s. Ok (position s, s)

-- after the ends of invisible groups that were read to their end: such a group was read as a whole
abbrev pub outside : Stream → List Item
outside s = items (past_ends s.rest) ++ s.scope.after

-- the token at the front
abbrev pub start : Reader Span
start = λ s. Ok (here s, s)

-- the trees from a position up to where the stream stands
unfoldable pub since : List Item → Reader TokenStream
since from s = Ok (between from (outside s), s)

-- from its opening to its closing delimiter
abbrev pub join : DelimSpan → Span
join d = span d.opening.lo d.closing.hi

-- refused at a token that was read
abbrev pub refuse_at : {A : Type 0} → ErrorKind → Span → Reader A
refuse_at kind at = λ s. Err (refusal kind (fixed kind) at at)

-- refused from a token on up to where the stream stands
abbrev pub refuse_since : {A : Type 0} → ErrorKind → Span → Reader A
refuse_since kind from = λ s. Err (refusal kind (fixed kind) from s.last)
