use Rattle.std.proofs.Common.{◌≡◌, ◌++◌, take}
use Rattle.token_core.specs.Trees.{trees}
use Rattle.token_core.specs.Prints.{Extends}
use Rattle.syn_ty.proofs.ty.print.print_verbatim.Given as goal

abbrev pub invariant-loop-tree : goal.invariant-loop-tree
invariant-loop-tree l = record {
  told : trees l.out ≡ trees l.initial.out ++ take l.tree-index l.tree-items;
  kept : Extends (trees l.initial.out) (trees l.out);
}
