use Rattle.std.proofs.Common.{◌≡◌, length}
use Rattle.token_core.specs.Levels.{passes, too_deep}
use Rattle.token_core.proofs.levels.check_nesting.Given as goal

abbrev pub invariant-loop-levels : goal.invariant-loop-levels
invariant-loop-levels l = too_deep l.limit l.tokens ≡ passes l.limit l.walk l.levels

abbrev pub decreases-loop-levels : goal.decreases-loop-levels
decreases-loop-levels l = length l.walk
