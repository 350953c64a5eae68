use Rattle.token_text.proofs.Escapes.{no_first_digit, number_made}
use Rattle.token_text.proofs.escape.numbered.Goals as goal

pub returns-then-not-is_ascii_hexdigit : goal.returns-then-not-is_ascii_hexdigit
returns-then-not-is_ascii_hexdigit c = no_first_digit _ _ c.in_ok-first.first c.in_ok-first.ensures.0 (cc (c.is_ascii_hexdigit.ensures.value, c.if-not-is_ascii_hexdigit.true))

pub returns : goal.returns
returns c =
    let e = c.in_ok-first.ensures in
    let n = c.in_ok-number.ensures in
    number_made _ _ c.in_ok-first.first c.in_ok-number.field-0 e.0 (cc (c.is_ascii_hexdigit.ensures.value, c.if-not-is_ascii_hexdigit.false)) n.0 n.1
    c.from_u32.result c.from_u32.ensures.cases c.from_u32.ensures.value
