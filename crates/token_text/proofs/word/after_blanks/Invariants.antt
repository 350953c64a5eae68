use Rattle.std.proofs.Common.{◌≡◌, length, chars}
use denote.Text.{Utf8}
use denote.Shadow.{shadow}
use Rattle.token_text.specs.declared.class.Class.TheVariants.{Blank}
use Rattle.token_text.specs.Characters.{after_run}
use Rattle.token_text.specs.Front.{Past}
use Rattle.token_text.proofs.word.after_blanks.Given as goal

abbrev pub invariant-loop-after : goal.invariant-loop-after
invariant-loop-after l = shadow (Utf8 l.rest) × Past l.fn.text l.rest × (after_run Blank (chars l.fn.text) ≡ after_run Blank (chars l.rest))

abbrev pub decreases-loop-after : goal.decreases-loop-after
decreases-loop-after l = length l.rest
