use Rattle.std.proofs.Common.{chars, string_bytes, rules}
use Rattle.kulojenta_lines.specs.Json as spec
use Rattle.kulojenta_lines.proofs.EscapeLaws.{escaped_goes}
use Rattle.kulojenta_lines.proofs.json.escaped.Goals as goal

pub loop-ch-preserved : goal.loop-ch-preserved
loop-ch-preserved c = (
  search rules,
  escaped_goes (chars c.loop-ch.rest.now) (chars c.in-Some.after.now) c.in-Some.ch (spec.escaped (chars c.args.text.now)) (string_bytes c.loop-ch.out)
      (string_bytes c.push_escaped.new.out) c.loop-ch.invariant.1 c.in-Some.ensures.0 c.in_ok-push_escaped.ensures,
)
