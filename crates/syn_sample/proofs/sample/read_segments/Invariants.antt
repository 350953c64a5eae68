use Rattle.std.proofs.Common.{◌≡◌, length}
use Rattle.token_core.specs.Reads.{Follows}
use Rattle.token_core.specs.Loops.{size, after}
use Rattle.syn_sample.specs.sample.Reading.{joined_by, segment}
use Rattle.syn_sample.proofs.sample.read_segments.Given as goal

abbrev pub invariant-turn : goal.invariant-turn
invariant-turn l = record {
  told : joined_by 1 2 segment l.initial.input ≡ after l.segments (joined_by 1 2 segment l.input);
  whole : length l.segments.0 ≡ length l.segments.1;
  within : Follows l.initial.input l.input;
}

abbrev pub decreases-turn : goal.decreases-turn
decreases-turn l = size l.input.rest
