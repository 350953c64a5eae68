use Rattle.std.proofs.Common.{length}
use denote.Text.{Utf8}
use denote.Shadow.{shadow}
use Rattle.token_text.proofs.NoteLaws.{Begun}
use Rattle.token_text.proofs.notes.last_line.Given as goal

abbrev pub invariant-loop-ch : goal.invariant-loop-ch
invariant-loop-ch l = shadow (Utf8 l.line) × shadow (Utf8 l.rest) × Begun l.fn.text l.line l.rest

abbrev pub decreases-loop-ch : goal.decreases-loop-ch
decreases-loop-ch l = length l.rest
