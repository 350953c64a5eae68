use Rattle.std.proofs.Common.{◌≤◌, ◌-◌, length, chars}
use denote.Text.{Utf8}
use denote.Shadow.{shadow}
use Rattle.token_text.proofs.DepthLaws.{Reached}
use Rattle.token_text.proofs.depth.scan.Given as goal

abbrev pub invariant-loop-rest : goal.invariant-loop-rest
invariant-loop-rest l =
    shadow (Utf8 l.rest) × (length l.rest ≤ length l.text) × Reached l.docs l.limit l.text (length l.text - length l.rest) (chars l.rest) l.levels

abbrev pub decreases-loop-rest : goal.decreases-loop-rest
decreases-loop-rest l = length l.rest
