use Rattle.std.proofs.Common.{◌≡◌, ◌++◌, true, drop, map, string_bytes}
use Rattle.token_text.specs.Printing.{shown, joined}
use Rattle.token_text.proofs.printer.+push.Given as goal

abbrev pub invariant-push_trees-loop-tree : goal.invariant-push_trees-loop-tree
invariant-push_trees-loop-tree l =
    string_bytes l.out ++ joined l.joint (map shown (drop l.tree-index l.trees)) ≡ string_bytes l.fn.out ++ joined true (map shown l.trees)
