use Rattle.std.proofs.Common.{◌≡◌, false, length, chars}
use denote.Text.{Utf8}
use denote.Shadow.{shadow}
use Rattle.token_text.specs.Front.{Past, quoted}
use Rattle.token_text.proofs.literal.after_string.Given as goal

abbrev pub invariant-loop-first : goal.invariant-loop-first
invariant-loop-first l = shadow (Utf8 l.rest) × Past l.fn.text l.rest × (quoted false (chars l.fn.text) ≡ quoted l.is_escaped (chars l.rest))

abbrev pub decreases-loop-first : goal.decreases-loop-first
decreases-loop-first l = length l.rest
