use Rattle.std.proofs.Common.{ap, sym, ◌∙◌}
use Rattle.token_text.specs.Front.{based_or_decimal, based}
use Rattle.token_text.proofs.Pasts.{past_trans, tells_past}
use Rattle.token_text.proofs.number.based_or_decimal.Goals as goal

pub returns-in-Some : goal.returns-in-Some
returns-in-Some c =
    let e = c.in-Some.ensures in
    tells_past _ _ _ _ _ (past_trans e.1 c.after_run.ensures.past) (ap (based_or_decimal _) e.0 ∙ ap based (sym c.after_run.ensures.rest)) c.based.ensures
