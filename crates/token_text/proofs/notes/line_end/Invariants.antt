use Rattle.std.proofs.Common.{◌≡◌, length, chars}
use denote.Text.{Utf8}
use denote.Shadow.{shadow}
use Rattle.token_text.specs.Front.{Past}
use Rattle.token_text.specs.Note as spec
use Rattle.token_text.proofs.notes.line_end.Given as goal

abbrev pub invariant-loop-ch : goal.invariant-loop-ch
invariant-loop-ch l = shadow (Utf8 l.rest) × Past l.fn.text l.rest × (spec.line_end (chars l.fn.text) ≡ spec.line_end (chars l.rest))

abbrev pub decreases-loop-ch : goal.decreases-loop-ch
decreases-loop-ch l = length l.rest
