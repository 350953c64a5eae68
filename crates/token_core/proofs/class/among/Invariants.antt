use Rattle.std.proofs.Common.{◌≡◌, map, drop}
use Rattle.token_core.specs.Keywords.{text_of}
use Rattle.token_core.specs.Classes.{among}
use Rattle.token_core.proofs.class.among.Given as goal

abbrev pub invariant-loop-number : goal.invariant-loop-number
invariant-loop-number l = among (map (λ n. (n, text_of n)) l.numbers) l.text ≡ among (map (λ n. (n, text_of n)) (drop l.number-index l.numbers)) l.text
