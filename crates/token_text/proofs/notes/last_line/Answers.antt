use Rattle.std.proofs.Common.{rules}
use Rattle.token_text.proofs.NoteLaws.{begun_anew, begun_goes}
use Rattle.token_text.proofs.notes.last_line.Goals as goal

pub loop-ch-preserved-then-ch-eq10 : goal.loop-ch-preserved-then-ch-eq10
loop-ch-preserved-then-ch-eq10 c = (
  search rules,
  search rules,
  begun_anew c.args.text.now c.loop-ch.line.now c.loop-ch.rest.now c.in-Some.after.now c.in-Some.ch c.loop-ch.invariant.2 c.in-Some.ensures.0 c.if-ch-eq10.true,
)

pub loop-ch-preserved : goal.loop-ch-preserved
loop-ch-preserved c = (
  search rules,
  search rules,
  begun_goes c.args.text.now c.loop-ch.line.now c.loop-ch.rest.now c.in-Some.after.now c.in-Some.ch c.loop-ch.invariant.2 c.in-Some.ensures.0 c.if-ch-eq10.false,
)
