use Rattle.std.proofs.Common.{◌≡◌, length, chars}
use denote.Text.{Utf8}
use denote.Shadow.{shadow}
use Rattle.token_text.specs.Front.{Past}
use Rattle.token_text.specs.Note as spec
use Rattle.token_text.proofs.notes.beyond.Given as goal

abbrev pub invariant-loop-ch : goal.invariant-loop-ch
invariant-loop-ch l = shadow (Utf8 l.rest) × Past l.fn.text l.rest × (spec.beyond l.fn.count (chars l.fn.text) ≡ spec.beyond l.left (chars l.rest))

abbrev pub decreases-loop-ch : goal.decreases-loop-ch
decreases-loop-ch l = length l.rest
