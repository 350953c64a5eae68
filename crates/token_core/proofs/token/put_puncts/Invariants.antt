use Rattle.std.proofs.Common.{◌≡◌, ◌≤◌, ◌++◌, ◌-◌, length, drop}
use Rattle.token_core.specs.Trees.{trees}
use Rattle.token_core.specs.Prints.{puncts, Extends}
use Rattle.token_core.proofs.token.put_puncts.Given as goal

abbrev pub invariant-chars : goal.invariant-chars
invariant-chars l = record {
  in_range : l.at ≤ length l.chars;
  told : trees l.out ++ puncts (drop l.at l.chars) (drop l.at l.spans) ≡ trees l.initial.out ++ puncts l.chars l.spans;
  kept : Extends (trees l.initial.out) (trees l.out);
}

abbrev pub decreases-chars : goal.decreases-chars
decreases-chars l = length l.initial.chars - l.at
