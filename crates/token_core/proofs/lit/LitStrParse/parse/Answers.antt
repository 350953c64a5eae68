use Rattle.token_core.proofs.TokenFronts.{str_fronted, str_promised}
use Rattle.token_core.proofs.lit.LitStrParse.parse.Goals as goal

pub returns-clause-promise : goal.returns-clause-promise
returns-clause-promise c = str_promised _ _ _ c.parse_str.ensures.parses.0

pub returns-clause-fronts : goal.returns-clause-fronts
returns-clause-fronts c = str_fronted _ _ _ c.parse_str.ensures.parses.0
