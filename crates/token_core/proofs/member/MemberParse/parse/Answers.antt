use Rattle.token_core.proofs.TokenFronts.{member_fronted, member_promised}
use Rattle.token_core.proofs.member.MemberParse.parse.Goals as goal

pub returns-clause-promise : goal.returns-clause-promise
returns-clause-promise c = member_promised _ _ _ c.parse_member.ensures.parses.0

pub returns-clause-fronts : goal.returns-clause-fronts
returns-clause-fronts c = member_fronted _ _ _ c.parse_member.ensures.parses.0
