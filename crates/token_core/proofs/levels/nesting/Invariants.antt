use Rattle.std.proofs.Common.{◌≡◌, length}
use Rattle.token_core.specs.Levels.{greatest, nesting}
use Rattle.token_core.proofs.levels.nesting.Given as goal

abbrev pub invariant-loop-levels : goal.invariant-loop-levels
invariant-loop-levels l = nesting l.tokens ≡ greatest l.walk l.levels l.most

abbrev pub decreases-loop-levels : goal.decreases-loop-levels
decreases-loop-levels l = length l.walk
