use Rattle.token_text.proofs.StringLaws.{stored_is, stored_return, stuck_end, stuck_escape}
use Rattle.token_text.proofs.string.stuck.Goals as goal

pub returns-in_default : goal.returns-in_default
returns-in_default c = stored_is _ _ _ c.no_string.ensures (stuck_end c.args.lit.now _ c.in_default.ensures.0)

pub returns-then-first-eq13 : goal.returns-then-first-eq13
returns-then-first-eq13 c =
    stored_return c.args.lit.now _ _ _ c.between-place.result c.malformed.result c.in-Some.ensures.0 c.if-first-eq13.true c.between-place.ensures c.malformed.ensures

pub returns : goal.returns
returns c = stored_is _ _ _ c.bad_escape.ensures (stuck_escape c.args.lit.now _ _ _ c.in-Some.ensures.0 c.if-first-eq13.false)
