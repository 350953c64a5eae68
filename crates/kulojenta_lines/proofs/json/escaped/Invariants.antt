use Rattle.std.proofs.Common.{◌≡◌, ◌++◌, length, chars, string_bytes}
use denote.Text.{Utf8}
use denote.Shadow.{shadow}
use Rattle.kulojenta_lines.specs.Json as spec
use Rattle.kulojenta_lines.proofs.json.escaped.Given as goal

abbrev pub invariant-loop-ch : goal.invariant-loop-ch
invariant-loop-ch l = shadow (Utf8 l.rest) × (spec.escaped (chars l.fn.text) ≡ string_bytes l.out ++ spec.escaped (chars l.rest))

abbrev pub decreases-loop-ch : goal.decreases-loop-ch
decreases-loop-ch l = length l.rest
