use Rattle.std.proofs.Common.{◌≡◌, ◌<◌, ◌+◌, Err, ◌-◌, ◌≤◌, length, chars, rules, arith, ap, sym, ◌∙◌}
use Rattle.std.proofs.lemmas.Result.{err_from_is_err_and}
use Rattle.std.specs.Char.{len_utf8}
use Rattle.token_core.specs.Spans.{span}
use Rattle.token_core.specs.Refusal.{named}
use Rattle.token_text.specs.Reading.{reads, lexed_with, start, state_of, finish}
use Rattle.token_text.proofs.Steps.{reads_faulty, reads_end, front_refused, look_ahead, look_goes, look_stops, blanks_go, fails_so, made_fails}
use Rattle.token_text.proofs.Pasts.{past_le}
use Rattle.token_text.proofs.lexer.read.Goals as goal

pub take-requires : goal.take-requires
take-requires c =
    let text = c.args.text.now in
    let f = c.in-Ok.ensures in
    let i = c.loop-first.invariant in
    let less = look_ahead c.args.docs text c.loop-first.rest.now c.in-Ok.after.now c.in-Ok.piece (state_of c.loop-first.state) i.2 i.1 f.0 f.1 in
    let there : length text - length c.loop-first.rest.now < length text - length c.in-Ok.after.now = omega (arith, less, i.1) in
    rw c.new-span.ensures there

pub returns-in_err-take-in-Ok : goal.returns-in_err-take-in-Ok
returns-in_err-take-in-Ok c =
    let p = err_from_is_err_and c.from_residual.result c.from_residual.ensures.1 in
    let f = c.in-Ok.ensures in
    let i = c.loop-first.invariant in
    let stops = look_stops c.args.docs c.args.text.now c.loop-first.rest.now c.in-Ok.after.now c.in-Ok.piece (state_of c.loop-first.state) i.2 i.1 f.0 f.1 in
    rw (p.1, p.2) (fails_so _ _ (lexed_with c.args.docs c.args.text.now) c.in_err-take-in-Ok.ensures (stops c.new-span.result c.up_to.result.now _ c.up_to.ensures c.new-span.ensures))

pub loop-first-init : goal.loop-first-init
loop-first-init c =
    let text = c.args.text.now in
    let b = c.after_blanks-rest.ensures in
    let at : 0 ≡ length text - length text = omega arith in
    let same : length text ≤ length text = omega arith in
    let goes = blanks_go c.args.docs text text c.after_blanks-rest.result.now start (ap (λ n. reads c.args.docs 0 n start (chars text)) at) same b.past b.rest in (
      search rules,
      past_le b.past,
      rw c.new-state.ensures goes,
    )

pub loop-first-smaller : goal.loop-first-smaller
loop-first-smaller c =
    let f = c.in-Ok.ensures in
    let i = c.loop-first.invariant in
    let less = look_ahead c.args.docs c.args.text.now c.loop-first.rest.now c.in-Ok.after.now c.in-Ok.piece (state_of c.loop-first.state) i.2 i.1 f.0 f.1 in
    omega (arith, less, past_le c.after_blanks-rest-in-Ok.ensures.past)

pub loop-first-preserved : goal.loop-first-preserved
loop-first-preserved c =
    let text = c.args.text.now in
    let rest = c.loop-first.rest.now in
    let after = c.in-Ok.after.now in
    let f = c.in-Ok.ensures in
    let i = c.loop-first.invariant in
    let b = c.after_blanks-rest-in-Ok.ensures in
    let x = state_of c.loop-first.state in
    let y = state_of c.take.new.self in
    let le : length after ≤ length text = omega (arith, i.1, look_ahead c.args.docs text rest after c.in-Ok.piece x i.2 i.1 f.0 f.1) in
    let goes = look_goes c.args.docs text rest after c.in-Ok.piece x i.2 i.1 f.0 f.1 c.new-span.result c.up_to.result.now y c.up_to.ensures c.new-span.ensures c.in_ok-take-in-Ok.ensures in (
      search rules,
      omega (arith, le, past_le b.past),
      blanks_go c.args.docs text after c.after_blanks-rest-in-Ok.result.now y goes le b.past b.rest,
    )

pub returns-in-Err : goal.returns-in-Err
returns-in-Err c =
    let text = c.args.text.now in
    let at = length text - length c.loop-first.rest.now in
    let x = state_of c.loop-first.state in
    let first = c.in-Some.ensures.0 in
    let none = rw first at (front_refused c.args.docs (chars c.loop-first.rest.now) c.in-Err.kind c.in-Err.ensures) in
    let place : span at (at + len_utf8 c.in-Some.first) ≡ c.new-span-in-Err.result =
    sym (c.new-span-in-Err.ensures ∙ ap (λ n. span at (at + n)) c.len_utf8.ensures.value) in
    made_fails c.named.result _ (lexed_with c.args.docs text) c.named.ensures.stored
    (c.loop-first.invariant.2 ∙ ap (reads c.args.docs 0 at x) first ∙ reads_faulty c.args.docs c.in-Err.kind at c.in-Some.first x (chars c.in-Some.field-0-1.now) none
    ∙ ap (λ s. Err (named c.in-Err.kind s)) place)

pub returns : goal.returns
returns c =
    let text = c.args.text.now in
    let x = state_of c.loop-first.state in
    let at = length text - length c.loop-first.rest.now in
    let e : lexed_with c.args.docs text ≡ finish x = c.loop-first.invariant.2 ∙ ap (reads c.args.docs 0 at x) c.in_default.ensures.0 ∙ reads_end c.args.docs at x in
    rw e c.finish.ensures
