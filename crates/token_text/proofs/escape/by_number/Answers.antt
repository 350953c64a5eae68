use Rattle.std.proofs.Common.{ap}
use Rattle.token_text.specs.Strings.{by_number}
use Rattle.token_text.proofs.Escapes.{finds_by_past}
use Rattle.token_text.proofs.escape.by_number.Goals as goal

pub returns : goal.returns
returns c =
    let e = c.in_ok-rest.ensures in
    finds_by_past _ _ _ _ _ e.1 (ap by_number e.0) c.braced.ensures
