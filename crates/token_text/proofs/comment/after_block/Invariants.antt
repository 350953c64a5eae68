use Rattle.std.proofs.Common.{◌≡◌, ◌≤◌, ◌+◌, length, chars}
use denote.Text.{Utf8}
use denote.Shadow.{shadow}
use Rattle.token_text.specs.Front.{Past, comment}
use Rattle.token_text.proofs.comment.after_block.Given as goal

abbrev pub invariant-loop-first : goal.invariant-loop-first
invariant-loop-first l = shadow (Utf8 l.rest) × Past l.fn.text l.rest × (comment 0 (chars l.fn.text) ≡ comment l.depth (chars l.rest)) × (l.depth + length l.rest ≤ length l.fn.text)

abbrev pub decreases-loop-first : goal.decreases-loop-first
decreases-loop-first l = length l.rest
