use Rattle.std.proofs.lemmas.Result.{on_err_weaker}
use Rattle.token_core.proofs.Puts.{extends_on}
use Rattle.syn_generics.proofs.generics.print.print_turbofish.Goals as goal

pub returns-clause-err : goal.returns-clause-err
returns-clause-err g c = on_err_weaker c.print_between.result (λ h. extends_on _ _ _ _ c.in_ok-to_tokens.ensures.ok h) c.print_between.ensures.err
