use Rattle.std.proofs.Common.{ap, sym, ◌∙◌}
use Rattle.token_text.specs.Front.{exponent_digits}
use Rattle.token_text.proofs.Choices.{exponent_goes}
use Rattle.token_text.proofs.Pasts.{past_trans, tells_past}
use Rattle.token_text.proofs.number.exponent.Goals as goal

pub returns-in-Some : goal.returns-in-Some
returns-in-Some c =
    let e = c.in-Some.ensures in
    tells_past _ _ _ _ _ (past_trans e.3 c.after_sign.ensures.past)
    (exponent_goes c.args.kind _ _ c.in-Some.first e.0 (cc) ∙ ap exponent_digits (sym c.after_sign.ensures.rest)) c.exponent_digits.ensures
