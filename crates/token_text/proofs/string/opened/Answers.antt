use Rattle.token_text.proofs.StringLaws.{no_opening, other_opening, string_opening}
use Rattle.token_text.proofs.string.opened.Goals as goal

pub returns-then-is_str : goal.returns-then-is_str
returns-then-is_str c =
    let e = c.in-Some.ensures in
    (string_opening _ c.in-Some.kind c.in-Some.closing _ e.0 (cc), e.1)

pub returns-else-is_str : goal.returns-else-is_str
returns-else-is_str c =
    let e = c.in-Some.ensures in
    other_opening _ c.in-Some.kind c.in-Some.closing _ e.0 (cc)

pub returns-in-None : goal.returns-in-None
returns-in-None c = no_opening _ c.in-None.ensures
