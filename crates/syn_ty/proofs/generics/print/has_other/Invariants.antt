use Rattle.std.proofs.Common.{◌≡◌, [], false, drop}
use Rattle.token_core.specs.Lists.{pairs}
use Rattle.syn_ty.specs.generics.Members.{some_left, those}
use Rattle.syn_ty.specs.ty.Types.{Comma}
use Rattle.syn_ty.proofs.generics.print.has_other.Given as goal

abbrev pub invariant-loop-member : goal.invariant-loop-member
invariant-loop-member g l = some_left (those g.M.Member.first false (pairs {P = Comma} (drop l.member-index l.list) [])) ≡ some_left (those g.M.Member.first false (pairs {P = Comma} l.initial.list []))
