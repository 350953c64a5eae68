use Rattle.std.proofs.Common.{◌≡◌, ◌++◌, length}
use Rattle.token_core.specs.Trees.{trees}
use Rattle.token_core.specs.Positions.{IsReached}
use Rattle.token_core.specs.Cut.{trees_between}
use Rattle.token_core.proofs.verbatim.between.Given as goal

abbrev pub invariant-parts : goal.invariant-parts
invariant-parts l = record {
  told : trees_between l.begin l.end ≡ trees l.tokens ++ trees_between l.cursor l.end;
  within : IsReached l.end l.cursor;
}

abbrev pub decreases-parts : goal.decreases-parts
decreases-parts l = length l.cursor
