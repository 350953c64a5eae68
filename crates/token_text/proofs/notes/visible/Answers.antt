use Rattle.std.proofs.Common.{chars, string_bytes, rules}
use Rattle.token_text.specs.Note as spec
use Rattle.token_text.proofs.NoteLaws.{visible_goes}
use Rattle.token_text.proofs.notes.visible.Goals as goal

pub loop-ch-preserved : goal.loop-ch-preserved
loop-ch-preserved c = (
  search rules,
  visible_goes (chars c.loop-ch.rest.now) (chars c.in-Some.after.now) c.in-Some.ch (spec.visible (chars c.args.text.now)) (string_bytes c.loop-ch.out)
      (string_bytes c.push_visible.new.out) c.loop-ch.invariant.1 c.in-Some.ensures.0 c.in_ok-push_visible.ensures,
)
