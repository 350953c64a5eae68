use Rattle.std.proofs.Common.{◌≡◌, ◌++◌, drop}
use Rattle.token_core.specs.Lists.{joined}
use Rattle.token_core.specs.Prints.{Extends}
use Rattle.token_core.specs.Trees.{trees}
use Rattle.token_core.proofs.punctuated.put_parts.Given as goal

abbrev pub invariant-loop-i : goal.invariant-loop-i
invariant-loop-i g l = record {
  told : trees l.out ++ joined g.T.ToTokens.print g.P.ToTokens.print (drop l.i l.list.0) (drop l.i l.list.1) ≡ trees l.initial.out ++ joined g.T.ToTokens.print g.P.ToTokens.print l.list.0 l.list.1;
  kept : Extends (trees l.initial.out) (trees l.out);
}
