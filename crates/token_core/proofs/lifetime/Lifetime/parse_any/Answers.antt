use Rattle.token_core.proofs.TokenFronts.{lifetime_fronted, lifetime_promised}
use Rattle.token_core.proofs.lifetime.Lifetime.parse_any.Goals as goal

pub returns-clause-promise : goal.returns-clause-promise
returns-clause-promise c = lifetime_promised _ _ _ c.parse_lifetime.ensures.parses.0

pub returns-clause-fronts : goal.returns-clause-fronts
returns-clause-fronts c = lifetime_fronted _ _ _ c.parse_lifetime.ensures.parses.0
