use Rattle.token_core.proofs.TokenFronts.{lit_fronted, lit_promised}
use Rattle.token_core.proofs.lit.LitParse.parse.Goals as goal

pub returns-clause-promise : goal.returns-clause-promise
returns-clause-promise c = lit_promised _ _ _ c.parse_lit.ensures.parses.0

pub returns-clause-fronts : goal.returns-clause-fronts
returns-clause-fronts c = lit_fronted _ _ _ c.parse_lit.ensures.parses.0
