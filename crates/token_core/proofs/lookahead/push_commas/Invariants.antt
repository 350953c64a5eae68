use Rattle.std.proofs.Common.{◌≡◌, ◌++◌, map, take}
use Rattle.token_core.specs.TokenNames.{name_of}
use Rattle.token_core.specs.Looks.{commas}
use Rattle.token_core.proofs.lookahead.push_commas.Given as goal

abbrev pub invariant-loop-token : goal.invariant-loop-token
invariant-loop-token l = l.text ≡ l.initial.text ++ commas (map name_of (take l.token-index l.tokens))
