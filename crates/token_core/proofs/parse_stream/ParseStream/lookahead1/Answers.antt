use Rattle.std.proofs.Common.{arith}
use Rattle.token_core.proofs.Choices.{known_none}
use Rattle.token_core.proofs.parse_stream.ParseStream.lookahead1.Goals as goal

pub invariant_of-result : goal.invariant_of-result
invariant_of-result c = (omega arith, known_none)
