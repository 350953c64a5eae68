use Rattle.std.proofs.Common.{◌≡◌, ◌++◌, drop}
use Rattle.token_core.specs.Prints.{Extends, each}
use Rattle.token_core.specs.Trees.{trees}
use Rattle.token_core.proofs.to_tokens.put_each.Given as goal

abbrev pub invariant-loop-item : goal.invariant-loop-item
invariant-loop-item g l = record {
  told : trees l.out ++ each g.T.ToTokens.print (drop l.item-index l.items) ≡ trees l.initial.out ++ each g.T.ToTokens.print l.items;
  kept : Extends (trees l.initial.out) (trees l.out);
}
