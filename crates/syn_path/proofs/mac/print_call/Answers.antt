use Rattle.std.proofs.Common.{refl}
use Rattle.token_core.proofs.Puts.{ok_on, err_on}
use Rattle.syn_path.proofs.mac.print_call.Goals as goal

pub returns : goal.returns
returns c = record { appends = (ok_on _ _ _ _ _ _ _ c.in_ok-to_tokens.ensures.ok refl c.print_held.ensures.appends.0, err_on _ _ _ _ _ c.in_ok-to_tokens.ensures.ok c.print_held.ensures.appends.1) }
