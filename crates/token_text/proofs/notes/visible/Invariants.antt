use Rattle.std.proofs.Common.{◌≡◌, ◌++◌, length, chars, string_bytes}
use denote.Text.{Utf8}
use denote.Shadow.{shadow}
use Rattle.token_text.specs.Note as spec
use Rattle.token_text.proofs.notes.visible.Given as goal

abbrev pub invariant-loop-ch : goal.invariant-loop-ch
invariant-loop-ch l = shadow (Utf8 l.rest) × (spec.visible (chars l.fn.text) ≡ string_bytes l.out ++ spec.visible (chars l.rest))

abbrev pub decreases-loop-ch : goal.decreases-loop-ch
decreases-loop-ch l = length l.rest
