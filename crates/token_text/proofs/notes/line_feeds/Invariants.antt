use Rattle.std.proofs.Common.{◌≡◌, ◌+◌, ◌≤◌, length, chars}
use denote.Text.{Utf8}
use denote.Shadow.{shadow}
use Rattle.token_text.specs.Note as spec
use Rattle.token_text.proofs.notes.line_feeds.Given as goal

abbrev pub invariant-loop-ch : goal.invariant-loop-ch
invariant-loop-ch l =
    shadow (Utf8 l.rest) × (spec.line_feeds (chars l.fn.text) ≡ l.count + spec.line_feeds (chars l.rest)) × (l.count + length l.rest ≤ length l.fn.text)

abbrev pub decreases-loop-ch : goal.decreases-loop-ch
decreases-loop-ch l = length l.rest
