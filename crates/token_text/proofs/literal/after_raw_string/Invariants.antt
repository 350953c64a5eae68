use Rattle.std.proofs.Common.{◌≡◌, length, chars}
use denote.Text.{Utf8}
use denote.Shadow.{shadow}
use Rattle.token_text.specs.Front.{Past, hashed}
use Rattle.token_text.proofs.literal.after_raw_string.Given as goal

abbrev pub invariant-loop-first : goal.invariant-loop-first
invariant-loop-first l = shadow (Utf8 l.rest) × Past l.fn.text l.rest × (hashed l.fn.count (chars l.fn.text) ≡ hashed l.fn.count (chars l.rest))

abbrev pub decreases-loop-first : goal.decreases-loop-first
decreases-loop-first l = length l.rest
