use Rattle.std.proofs.Common.{length, ◌-◌}
use Rattle.token_core.proofs.sees.+sees_chars.Given as goal

abbrev pub decreases-sees_chars : goal.decreases-sees_chars
decreases-sees_chars l = length l.chars.now - l.i
