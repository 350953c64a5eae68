use Rattle.std.proofs.Common.{◌≡◌, ◌+◌, ◌<◌, ◌≤◌, ◌^◌, length, chars}
use denote.Text.{Utf8}
use denote.Shadow.{shadow}
use Rattle.token_text.specs.Strings.{digits, number}
use Rattle.token_text.proofs.escape.number.Given as goal

abbrev pub invariant-loop-first : goal.invariant-loop-first
invariant-loop-first l =
    shadow (Utf8 l.rest) × (l.count + length (digits (chars l.rest)) ≡ length (digits (chars l.fn.digits))) × (number l.number (digits (chars l.rest)) ≡ number 0 (digits (chars l.fn.digits))) × (l.number < 16 ^ l.count) × (l.count ≤ 6)

abbrev pub decreases-loop-first : goal.decreases-loop-first
decreases-loop-first l = length l.rest
