use Rattle.std.proofs.Common.{◌∙◌, refl}
use Rattle.token_text.proofs.Pasts.{past_trans}
use Rattle.token_text.proofs.Escapes.{braced_is}
use Rattle.token_text.proofs.escape.braced.Goals as goal

pub returns-in-None : goal.returns-in-None
returns-in-None c =
    let whole = braced_is c.args.text.now c.up_to.result.now c.after_run-end.result.now c.up_to.utf8 c.up_to.ensures c.after_run-end.ensures.rest _ c.in_ok-rest.ensures.0 in
    whole ∙ (rw c.in-None.ensures refl)

pub returns-in-Some : goal.returns-in-Some
returns-in-Some c =
    let whole = braced_is c.args.text.now c.up_to.result.now c.after_run-end.result.now c.up_to.utf8 c.up_to.ensures c.after_run-end.ensures.rest _ c.in_ok-rest.ensures.0 in
    (whole ∙ (rw (c.in-Some.ensures.0, c.in-Some.ensures.1) refl), past_trans c.after_run-end.ensures.past c.in_ok-rest.ensures.1)
