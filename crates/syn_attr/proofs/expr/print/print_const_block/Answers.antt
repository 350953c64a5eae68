use Rattle.std.proofs.Common.{refl}
use Rattle.token_core.proofs.Puts.{ok_on, err_on}
use Rattle.syn_attr.proofs.expr.print.print_const_block.Goals as goal

pub returns : goal.returns
returns g c = record { appends = (ok_on _ _ _ _ _ _ _ c.in_ok-to_tokens.ensures.ok refl c.print_body.ensures.appends.0, err_on _ _ _ _ _ c.in_ok-to_tokens.ensures.ok c.print_body.ensures.appends.1) }
