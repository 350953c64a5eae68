use Rattle.std.proofs.lemmas.Result.{on_err_weaker}
use Rattle.token_core.proofs.Puts.{extends_on}
use Rattle.syn_ty.proofs.ty.print.print_qpath.Goals as goal

pub returns-in_ok-print_type-in-Some-clause-err : goal.returns-in_ok-print_type-in-Some-clause-err
returns-in_ok-print_type-in-Some-clause-err g c =
    on_err_weaker c.print_qualified.result (λ h. extends_on _ _ _ _ c.in_ok-to_tokens-in-Some.ensures.ok (extends_on _ _ _ _ c.in_ok-print_type-in-Some.ensures.ok h)) c.print_qualified.ensures.err
