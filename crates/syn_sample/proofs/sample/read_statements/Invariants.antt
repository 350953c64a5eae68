use Rattle.std.proofs.Common.{◌≡◌, length}
use Rattle.token_core.specs.Reads.{Follows}
use Rattle.token_core.specs.Loops.{size, after}
use Rattle.syn_sample.specs.sample.Reading.{statements}
use Rattle.syn_sample.proofs.sample.read_statements.Given as goal

abbrev pub invariant-turn : goal.invariant-turn
invariant-turn l = record {
  told : statements l.initial.input ≡ after l.statements (statements l.input);
  whole : length l.statements.0 ≡ length l.statements.1;
  within : Follows l.initial.input l.input;
}

abbrev pub decreases-turn : goal.decreases-turn
decreases-turn l = size l.input.rest
