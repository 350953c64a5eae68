use Rattle.std.proofs.Common.{ap, ◌∙◌, sym}
use Rattle.token_text.specs.Front.{after_char, escaped_char}
use Rattle.token_text.proofs.Pasts.{past_trans, finds_past}
use Rattle.token_text.proofs.literal.after_escaped_char.Goals as goal

pub returns : goal.returns
returns c =
    let e = c.in_ok-rest.ensures in
    finds_past _ _ _ _ _ (past_trans e.3 c.after_run.ensures.past) (ap escaped_char e.0 ∙ ap (after_char 39) (sym c.after_run.ensures.rest)) c.after_char.ensures
