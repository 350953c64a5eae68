use Rattle.token_text.proofs.StringLaws.{stored_is, escape_none, escape_place}
use Rattle.token_text.proofs.string.bad_escape.Goals as goal

pub returns-in-Some : goal.returns-in-Some
returns-in-Some c =
    stored_is _ _ _ c.malformed.ensures (escape_place c.args.lit.now _ _ _ c.in-Some.ch _ _ c.in-Some.ensures.0 c.between.ensures c.escape_text.ensures)

pub returns-in-None : goal.returns-in-None
returns-in-None c = stored_is _ _ _ c.no_string.ensures (escape_none c.args.lit.now _ _ c.in-None.ensures.0)
