use Rattle.std.proofs.Common.{ap, sym, ◌∙◌}
use Rattle.token_core.specs.declared.tree.LitKind.TheVariants.{Float}
use Rattle.token_text.specs.Front.{fraction, fraction_by, exponent}
use Rattle.token_text.proofs.Pasts.{past_trans, tells_past}
use Rattle.token_text.proofs.number.fraction.Goals as goal

pub returns-in-Some : goal.returns-in-Some
unfolding fraction
returns-in-Some c =
    let e = c.in-Some.ensures in
    tells_past _ _ _ _ _ (past_trans e.1 c.after_run.ensures.past) (ap (fraction_by _) e.0 ∙ ap (exponent Float) (sym c.after_run.ensures.rest)) c.exponent.ensures
