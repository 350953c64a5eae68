use Rattle.std.proofs.Common.{◌≡◌, ◌++◌, drop}
use Rattle.token_core.specs.Prints.{Extends}
use Rattle.token_core.specs.Trees.{trees}
use Rattle.syn_verbatim.proofs.expr.VerbatimExprToTokens.append_tokens.Given as goal

abbrev pub invariant-loop-tree : goal.invariant-loop-tree
invariant-loop-tree l = record {
  told : trees l.out ++ drop l.tree-index l.tree-items ≡ trees l.initial.out ++ l.tree-items;
  kept : Extends (trees l.initial.out) (trees l.out);
}
