use Rattle.token_text.proofs.Escapes.{finds_by_past, shorter, unit_return, unit_backslash}
use Rattle.token_text.proofs.escape.unit.Goals as goal

pub returns-in-13-clause-unit : goal.returns-in-13-clause-unit
returns-in-13-clause-unit c =
    let e = c.in_ok-first.ensures in
    finds_by_past _ _ _ _ _ e.3 (unit_return c.args.closing _ _ _ e.0 c.in-13.is) c.line_end.ensures

pub returns-in-13-clause-less : goal.returns-in-13-clause-less
returns-in-13-clause-less c = shorter _ _ _ _ c.in_ok-first.ensures.2 c.line_end.ensures

pub returns-in-92-clause-unit : goal.returns-in-92-clause-unit
returns-in-92-clause-unit c =
    let e = c.in_ok-first.ensures in
    finds_by_past _ _ _ _ _ e.3 (unit_backslash c.args.closing _ _ _ e.0 c.in-92.is) c.backslash.ensures

pub returns-in-92-clause-less : goal.returns-in-92-clause-less
returns-in-92-clause-less c = shorter _ _ _ _ c.in_ok-first.ensures.2 c.backslash.ensures
