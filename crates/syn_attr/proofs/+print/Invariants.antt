use Rattle.std.proofs.Common.{◌≡◌, ◌++◌, drop}
use Rattle.token_core.specs.Trees.{trees}
use Rattle.token_core.specs.Prints.{Extends}
use Rattle.syn_attr.specs.attr.Printing.{outer_by, meta}
use Rattle.syn_attr.proofs.+print.Given as goal

abbrev pub invariant-attr::print::print_outer-loop-attr : goal.invariant-attr::print::print_outer-loop-attr
invariant-attr::print::print_outer-loop-attr g l = record {
  told : trees l.out ++ outer_by (meta g.X.Subtree.prints) (drop l.attr-index l.attr-items) ≡ trees l.initial.out ++ outer_by (meta g.X.Subtree.prints) l.attr-items;
  kept : Extends (trees l.initial.out) (trees l.out);
}
