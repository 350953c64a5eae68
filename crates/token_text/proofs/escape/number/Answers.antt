use Rattle.std.proofs.Common.{◌≤◌, arith}
use Rattle.token_text.proofs.Escapes.{is_small}
use Rattle.token_text.proofs.escape.number.Goals as goal

pub overflow_mul-number : goal.overflow_mul-number
overflow_mul-number c =
    let i = c.loop-first.invariant in
    let few : c.loop-first.count ≤ 5 = omega (arith, i.4, c.if-count-eq-MOST_DIGITS.false) in
    omega (arith, is_small c.loop-first.number c.loop-first.count i.3 few)

pub overflow_add-number : goal.overflow_add-number
overflow_add-number c =
    let i = c.loop-first.invariant in
    let few : c.loop-first.count ≤ 5 = omega (arith, i.4, c.if-count-eq-MOST_DIGITS.false) in
    let digit = c.in-Some-to_digit.ensures.value in
    omega (arith, is_small c.loop-first.number c.loop-first.count i.3 few, digit.0, digit.1)
