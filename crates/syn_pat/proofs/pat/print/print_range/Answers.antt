use Rattle.std.proofs.lemmas.Result.{on_err_weaker}
use Rattle.token_core.proofs.Puts.{extends_on}
use Rattle.syn_pat.proofs.pat.print.print_range.Goals as goal

pub returns-clause-err : goal.returns-clause-err
returns-clause-err g c =
    on_err_weaker c.print_bound-2.result
    (λ h. extends_on _ _ _ _ c.in_ok-print_outer.ensures.appends.0 (extends_on _ _ _ _ c.in_ok-print_bound.ensures.ok (extends_on _ _ _ _ c.in_ok-to_tokens.ensures.ok h))) c.print_bound-2.ensures.err
