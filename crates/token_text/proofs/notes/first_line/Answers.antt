use Rattle.std.proofs.Common.{◌++◌, chars, ap, ◌∙◌}
use Rattle.token_text.specs.Note as spec
use Rattle.token_text.proofs.NoteLaws.{front_so, first_line_whole}
use Rattle.token_text.proofs.notes.first_line.Goals as goal

pub returns : goal.returns
returns c =
    let text = c.args.text.now in
    front_so text c.up_to.result.now c.line_end.result.now (spec.first_line (chars text)) c.line_end.ensures.past c.up_to.utf8 c.up_to.ensures
    (ap (λ t. spec.first_line (chars text) ++ t) c.line_end.ensures.rest ∙ first_line_whole (chars text))
