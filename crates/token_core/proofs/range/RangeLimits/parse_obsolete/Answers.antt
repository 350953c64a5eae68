use Rattle.token_core.proofs.TokenFronts.{old_limits_fronted, old_limits_promised}
use Rattle.token_core.proofs.range.RangeLimits.parse_obsolete.Goals as goal

pub returns-clause-promise : goal.returns-clause-promise
returns-clause-promise c = old_limits_promised _ _ _ c.parse_obsolete_limits.ensures.parses.0

pub returns-clause-fronts : goal.returns-clause-fronts
returns-clause-fronts c = old_limits_fronted _ _ _ c.parse_obsolete_limits.ensures.parses.0
