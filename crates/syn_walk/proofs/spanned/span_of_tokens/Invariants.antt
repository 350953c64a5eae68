use Rattle.std.proofs.Common.{◌≡◌, drop, map}
use Rattle.syn_walk.specs.Spanned.{stands, given, span_of}
use Rattle.syn_walk.proofs.Spans.{told}
use Rattle.syn_walk.proofs.spanned.span_of_tokens.Given as goal

abbrev pub invariant-loop-tree : goal.invariant-loop-tree
invariant-loop-tree l = told l.found (given (map stands (drop l.tree-index l.tree-items))) ≡ span_of l.tokens
