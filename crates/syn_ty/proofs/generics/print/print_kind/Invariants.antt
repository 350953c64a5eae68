use Rattle.std.proofs.Common.{◌≡◌, ◌++◌, drop}
use Rattle.std.specs.Slice.Iter.{iter_rest}
use Rattle.token_core.specs.Lists.{pairs}
use Rattle.token_core.specs.Prints.{Extends}
use Rattle.token_core.specs.Trees.{trees}
use Rattle.syn_ty.specs.generics.Members.{each, those}
use Rattle.syn_ty.proofs.generics.print.print_kind.Given as goal

abbrev pub invariant-loop-member : goal.invariant-loop-member
invariant-loop-member g l = record {
  told : trees l.out ++ each (g.M.Styled.shown l.style) (those g.M.Member.first l.lifetimes (pairs (drop l.member-index l.member-items) (iter_rest l.commas)))
      ≡ trees l.initial.out ++ each (g.M.Styled.shown l.style) (those g.M.Member.first l.lifetimes (pairs l.list.0 l.list.1));
  kept : Extends (trees l.initial.out) (trees l.out);
}
