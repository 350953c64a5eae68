use Rattle.token_core.proofs.TokenFronts.{limits_fronted, limits_promised}
use Rattle.token_core.proofs.range.RangeLimitsParse.parse.Goals as goal

pub returns-clause-promise : goal.returns-clause-promise
returns-clause-promise c = limits_promised _ _ _ c.parse_limits.ensures.parses.0

pub returns-clause-fronts : goal.returns-clause-fronts
returns-clause-fronts c = limits_fronted _ _ _ c.parse_limits.ensures.parses.0
