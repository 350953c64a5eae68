use Rattle.token_text.proofs.Escapes.{closing_found}
use Rattle.token_text.proofs.escape.after_closing.Goals as goal

pub returns : goal.returns
returns c =
    let e = c.in_ok-rest.ensures in
    closing_found c.args.closing c.hashes.result c.args.text.now c.in_ok-rest.rest.now c.past_hashes.result c.hashes.ensures e.0 e.1 c.past_hashes.ensures
