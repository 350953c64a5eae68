use Rattle.std.proofs.Common.{◌≡◌, ◌++◌, replicate, string_bytes}
use Rattle.token_text.proofs.notes.repeat.Given as goal

abbrev pub invariant-loop-turn : goal.invariant-loop-turn
invariant-loop-turn l = string_bytes l.out ≡ string_bytes l.initial.out ++ replicate l._turn l.ch
