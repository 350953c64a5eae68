use Rattle.std.proofs.Common.{◌≡◌, length, chars}
use denote.Text.{Utf8}
use denote.Shadow.{shadow}
use Rattle.token_text.specs.Front.{Past}
use Rattle.token_text.specs.Note as spec
use Rattle.token_text.proofs.notes.after_tokens.Given as goal

abbrev pub invariant-loop-next : goal.invariant-loop-next
invariant-loop-next l =
    shadow (Utf8 l.last) × shadow (Utf8 l.rest) × Past l.fn.text l.last × Past l.fn.text l.rest
    × (spec.after_tokens (chars l.fn.text) ≡ spec.past_pieces 0 (chars l.last) (chars l.rest))

abbrev pub decreases-loop-next : goal.decreases-loop-next
decreases-loop-next l = length l.rest
