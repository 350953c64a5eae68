use Rattle.std.proofs.Common.{◌≡◌, ◌-◌, ◌≤◌, false, true, length, chars, rules, arith, refl, ap, sym, subst, ◌∙◌}
use Rattle.std.specs.Prelude.{nat_lt}
use Rattle.std.proofs.lemmas.Result.{err_from_is_err_and}
use Rattle.token_core.specs.declared.error.ErrorKind.TheVariants.{NestedTooDeep}
use Rattle.token_core.specs.Levels.{State}
use Rattle.token_core.specs.Refusal.{named, Stored}
use Rattle.token_core.specs.Spans.{span}
use Rattle.token_text.specs.Depth.{after_piece, highest, place}
use Rattle.token_text.proofs.Steps.{front_refused}
use Rattle.token_text.proofs.DepthLaws.{Reached, reached_first, reached_end, reached_fault, reached_more, reached_limit, reached_blanks, look_less, no_memory, at_most, beyond}
use Rattle.token_text.proofs.Pasts.{past_le}
use Rattle.token_text.proofs.depth.scan.Goals as goal

pub returns-in_err-take-in-Ok : goal.returns-in_err-take-in-Ok
returns-in_err-take-in-Ok c =
    let p = err_from_is_err_and c.from_residual.result c.from_residual.ensures.1 in
    rw (p.1) (no_memory c.args.docs c.args.limit c.args.text.now p.0 p.2)

pub loop-rest-init : goal.loop-rest-init
loop-rest-init c =
    let docs = c.args.docs in
    let text = c.args.text.now in
    let y = c.new-levels.result in
    let b = c.after_blanks-rest.ensures in
    let at : 0 ≡ length text - length text = omega arith in
    let same : length text ≤ length text = omega arith in
    let first = subst (λ n. Reached docs c.args.limit text n (chars text) y) at (reached_first docs c.args.limit text y c.new-levels.ensures) in (
      search rules,
      past_le b.past,
      reached_blanks docs c.args.limit text text c.after_blanks-rest.result.now y same b.past b.rest first,
    )

pub loop-rest-smaller : goal.loop-rest-smaller
loop-rest-smaller c =
    let f = c.in-Ok.ensures in
    let less = look_less c.args.docs c.loop-rest.rest.now c.in-Ok.after.now c.in-Ok.piece f.0 f.1 in
    omega (arith, less, past_le c.after_blanks-rest-in-Ok.ensures.past)

pub returns-then-highest-limit : goal.returns-then-highest-limit
returns-then-highest-limit c =
    let piece = c.in-Ok.piece in
    let limit = c.args.limit in
    let f = c.in-Ok.ensures in
    let i = c.loop-rest.invariant in
    let above : nat_lt limit (highest piece (after_piece piece c.up_to.result.now c.loop-rest.levels)) ≡ true =
    ap (λ (y : State). nat_lt limit (highest piece y)) (sym c.in_ok-take-in-Ok.ensures) ∙ ap (nat_lt limit) (sym c.highest.ensures) ∙ beyond c.highest.result limit c.if-highest-limit.true in
    let stored : Stored c.named.result (named NestedTooDeep (place piece c.new-span.result)) =
    subst (λ s. Stored c.named.result (named NestedTooDeep s)) c.place.ensures c.named.ensures.stored in
    reached_limit c.args.docs limit c.args.text.now c.loop-rest.rest.now c.in-Ok.after.now c.loop-rest.levels i.1 f.1 piece f.0 c.new-span.result c.up_to.result.now
    c.up_to.ensures c.new-span.ensures i.2 above c.named.result stored

pub loop-rest-preserved : goal.loop-rest-preserved
loop-rest-preserved c =
    let docs = c.args.docs in
    let text = c.args.text.now in
    let rest = c.loop-rest.rest.now in
    let after = c.in-Ok.after.now in
    let f = c.in-Ok.ensures in
    let i = c.loop-rest.invariant in
    let b = c.after_blanks-rest-in-Ok.ensures in
    let limit = c.args.limit in
    let piece = c.in-Ok.piece in
    let y = c.take.new.levels in
    let within : nat_lt limit (highest piece (after_piece piece c.up_to.result.now c.loop-rest.levels)) ≡ false =
    ap (λ (y : State). nat_lt limit (highest piece y)) (sym c.in_ok-take-in-Ok.ensures) ∙ ap (nat_lt limit) (sym c.highest.ensures) ∙ at_most c.highest.result limit c.if-highest-limit.false in
    let le : length after ≤ length text = omega (arith, i.1, look_less docs rest after piece f.0 f.1) in
    let goes = reached_more docs limit text rest after c.loop-rest.levels i.1 f.1 piece f.0 (span (length text - length rest) (length text - length after)) c.up_to.result.now
    c.up_to.ensures refl i.2 within in (
      search rules,
      omega (arith, le, past_le b.past),
      reached_blanks docs limit text after c.after_blanks-rest-in-Ok.result.now y le b.past b.rest
          (subst (λ y. Reached docs limit text (length text - length after) (chars after) y) (sym c.in_ok-take-in-Ok.ensures) goes),
    )

pub returns-in-Err : goal.returns-in-Err
returns-in-Err c =
    let docs = c.args.docs in
    let text = c.args.text.now in
    let cs = chars c.loop-rest.rest.now in
    reached_fault docs c.args.limit text (length text - length c.loop-rest.rest.now) cs c.in-Err.field-0 c.loop-rest.levels
    (sym c.is_end.ensures ∙ c.loop-rest-test.true) (front_refused docs cs c.in-Err.field-0 c.in-Err.ensures) c.loop-rest.invariant.2

pub returns : goal.returns
returns c =
    let text = c.args.text.now in
    reached_end c.args.docs c.args.limit text (length text - length c.loop-rest.rest.now) (chars c.loop-rest.rest.now) c.loop-rest.levels
    (sym c.is_end.ensures ∙ c.loop-rest-test.false) c.loop-rest.invariant.2
