use Rattle.std.proofs.Common.{length, chars, string_bytes}
use denote.Text.{Utf8}
use denote.Shadow.{shadow}
use Rattle.token_text.specs.Front.{Past}
use Rattle.token_text.specs.Strings.{Taken}
use Rattle.token_text.proofs.string.take_held.Given as goal

abbrev pub invariant-loop-found : goal.invariant-loop-found
invariant-loop-found l =
    shadow (Utf8 l.rest) × Past l.fn.lit.text l.rest × Taken l.fn.lit l.fn.closing (chars l.fn.body) l.rest (string_bytes l.held.text) l.held.places.items

abbrev pub decreases-loop-found : goal.decreases-loop-found
decreases-loop-found l = length l.rest
