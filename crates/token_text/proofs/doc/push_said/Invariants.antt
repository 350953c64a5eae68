use Rattle.std.proofs.Common.{◌≡◌, ◌++◌, chars, length, string_bytes, encode_utf8_all}
use denote.Text.{Utf8}
use denote.Shadow.{shadow}
use Rattle.token_text.specs.Pieces.{escaped, up_to_end}
use Rattle.token_text.proofs.doc.push_said.Given as goal

abbrev pub invariant-loop-first : goal.invariant-loop-first
invariant-loop-first l =
    shadow (Utf8 l.rest) × (string_bytes l.out ++ encode_utf8_all (escaped (up_to_end l.fn.form (chars l.rest))) ≡ string_bytes l.fn.out ++ encode_utf8_all (escaped (up_to_end l.fn.form (chars l.fn.text))))

abbrev pub decreases-loop-first : goal.decreases-loop-first
decreases-loop-first l = length l.rest
