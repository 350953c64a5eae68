use Rattle.token_core.proofs.TokenFronts.{ident_fronted, ident_promised}
use Rattle.token_core.proofs.token.IdentParse.parse.Goals as goal

pub returns-clause-promise : goal.returns-clause-promise
returns-clause-promise c = ident_promised _ _ _ c.parse_ident.ensures.parses.0

pub returns-clause-fronts : goal.returns-clause-fronts
returns-clause-fronts c = ident_fronted _ _ _ c.parse_ident.ensures.parses.0
