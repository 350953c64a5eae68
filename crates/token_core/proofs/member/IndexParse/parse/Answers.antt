use Rattle.token_core.proofs.TokenFronts.{index_fronted, index_promised}
use Rattle.token_core.proofs.member.IndexParse.parse.Goals as goal

pub returns-clause-promise : goal.returns-clause-promise
returns-clause-promise c = index_promised _ _ _ c.parse_index.ensures.parses.0

pub returns-clause-fronts : goal.returns-clause-fronts
returns-clause-fronts c = index_fronted _ _ _ c.parse_index.ensures.parses.0
