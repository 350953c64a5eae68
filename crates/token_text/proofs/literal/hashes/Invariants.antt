use Rattle.std.proofs.Common.{◌≡◌, ◌≤◌, length, chars}
use denote.Text.{Utf8}
use denote.Shadow.{shadow}
use Rattle.token_text.specs.Front.{Past, hashes}
use Rattle.token_text.proofs.literal.hashes.Given as goal

abbrev pub invariant-loop-first : goal.invariant-loop-first
invariant-loop-first l = shadow (Utf8 l.rest) × Past l.fn.text l.rest × (hashes 0 (chars l.fn.text) ≡ hashes l.count (chars l.rest)) × (l.count ≤ 255)

abbrev pub decreases-loop-first : goal.decreases-loop-first
decreases-loop-first l = length l.rest
