use Rattle.std.proofs.Common.{◌≡◌, ◌++◌, chars, ap, ◌∙◌}
use Rattle.token_text.specs.Note as spec
use Rattle.token_text.proofs.NoteLaws.{front_so, cut_whole, size_so}
use Rattle.token_text.proofs.notes.cut.Goals as goal

pub returns : goal.returns
returns c =
    let text = c.args.text.now in
    let front : chars c.up_to.result.now ≡ spec.within c.args.count (chars text) =
    front_so text c.up_to.result.now c.beyond-rest.result.now (spec.within c.args.count (chars text)) c.beyond-rest.ensures.past c.up_to.utf8 c.up_to.ensures
    (ap (λ t. spec.within c.args.count (chars text) ++ t) c.beyond-rest.ensures.rest ∙ cut_whole c.args.count (chars text)) in
    record { front = front; rest = c.beyond-rest.ensures.rest; size = size_so c.up_to.result.now _ c.up_to.utf8 front }
