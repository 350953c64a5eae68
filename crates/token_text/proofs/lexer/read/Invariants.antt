use Rattle.std.proofs.Common.{◌≡◌, ◌≤◌, ◌-◌, length, chars}
use denote.Text.{Utf8}
use denote.Shadow.{shadow}
use Rattle.token_text.specs.Reading.{reads, lexed_with, state_of}
use Rattle.token_text.proofs.lexer.read.Given as goal

abbrev pub invariant-loop-first : goal.invariant-loop-first
invariant-loop-first l =
    shadow (Utf8 l.rest) × (length l.rest ≤ length l.text) × (lexed_with l.docs l.text ≡ reads l.docs 0 (length l.text - length l.rest) (state_of l.state) (chars l.rest))

abbrev pub decreases-loop-first : goal.decreases-loop-first
decreases-loop-first l = length l.rest
