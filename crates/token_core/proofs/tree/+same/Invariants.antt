use Rattle.std.proofs.Common.{◌≡◌, map, take}
use Rattle.token_core.specs.Same.{bare_tree}
use Rattle.token_core.proofs.tree.+same.Given as goal

abbrev pub invariant-same_trees-loop-tree : goal.invariant-same_trees-loop-tree
invariant-same_trees-loop-tree l = record {
  place : l.at ≡ l.tree-index;
  same : map bare_tree (take l.tree-index l.trees) ≡ map bare_tree (take l.tree-index l.others);
}
