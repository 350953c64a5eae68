use Rattle.std.proofs.Common.{◌≡◌, ◌++◌, map, take}
use Rattle.token_core.specs.Entries.{saw}
use Rattle.token_core.specs.Entries.{flat_tree, all_of}
use Rattle.token_core.proofs.buffer.+fill.Given as goal

abbrev pub invariant-fill_trees-loop-tree : goal.invariant-fill_trees-loop-tree
invariant-fill_trees-loop-tree l = map saw l.entries.items ≡ map saw l.initial.entries.items ++ all_of (map flat_tree (take l.tree-index l.trees))
