use Rattle.std.proofs.Common.{arith}
use Rattle.std.proofs.lemmas.Grind.{common_steps}
use Rattle.token_core.proofs.Puts.{err_on}
use Rattle.token_core.proofs.lifetime.put_lifetime.Goals as goal

pub returns : goal.returns
returns c = record { appends = (grind (arith, common_steps), err_on _ _ _ _ _ c.in_ok-push.ensures.ok c.append_tokens.ensures.err) }
