use Rattle.std.proofs.Common.{◌≡◌, drop, chars}
use denote.Text.{Utf8}
use denote.Shadow.{shadow}
use Rattle.token_text.specs.Pieces.{has_hashes}
use Rattle.token_text.specs.Front.{Past}
use Rattle.token_text.proofs.literal.past_hashes.Given as goal

abbrev pub invariant-loop-left : goal.invariant-loop-left
invariant-loop-left l = shadow (Utf8 l.rest) × Past l.fn.text l.rest × (has_hashes l.fn.count (chars l.fn.text) ≡ has_hashes l.left (chars l.rest)) × (drop l.fn.count (chars l.fn.text) ≡ drop l.left (chars l.rest))

abbrev pub decreases-loop-left : goal.decreases-loop-left
decreases-loop-left l = l.left
