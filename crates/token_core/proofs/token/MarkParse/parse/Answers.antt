use Rattle.token_core.proofs.TokenFronts.{mark_fronted, mark_promised}
use Rattle.token_core.proofs.token.MarkParse.parse.Goals as goal

pub returns-clause-promise : goal.returns-clause-promise
returns-clause-promise g c = mark_promised _ _ _ c.parse_mark.ensures.parses.0

pub returns-clause-fronts : goal.returns-clause-fronts
returns-clause-fronts g c = mark_fronted _ _ _ c.parse_mark.ensures.parses.0
