use Rattle.token_core.specs.Trees.{trees}
use Rattle.syn_ty.proofs.generics_laws.Sorted.{put_members}
use Rattle.syn_ty.proofs.generics.print.print_kind.Goals as goal

pub returns-clause-ok : goal.returns-clause-ok
returns-clause-ok g c =
    put_members g.M.Member.first (g.M.Styled.shown c.args.style) c.args.lifetimes c.args.list.now c.values-member-items.result.now c.loop-member.member-index _
    (trees c.args.out.now) (trees c.loop-member.out) c.marks.ensures.shape c.loop-member-test.false c.loop-member.invariant.told
