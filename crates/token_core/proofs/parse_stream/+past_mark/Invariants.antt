use Rattle.std.proofs.Common.{length, ◌-◌}
use Rattle.token_core.proofs.parse_stream.+past_mark.Given as goal

abbrev pub decreases-past_mark : goal.decreases-past_mark
decreases-past_mark l = length l.marks.now - l.i
