use Rattle.token_text.proofs.Pasts.{past_self}
use Rattle.token_text.proofs.Escapes.{finds_by_past, escaped_break, escaped_return}
use Rattle.token_text.proofs.escape.escaped.Goals as goal

pub returns-in-10 : goal.returns-in-10
returns-in-10 c =
    let e = c.in_ok-first.ensures in
    finds_by_past _ _ _ _ _ (past_self _) (escaped_break _ _ _ e.0 c.in-10.is) c.broken.ensures

pub returns-in-13 : goal.returns-in-13
returns-in-13 c =
    let e = c.in_ok-first.ensures in
    finds_by_past _ _ _ _ _ e.3 (escaped_return _ _ _ e.0 c.in-13.is) c.broken-in-13.ensures
