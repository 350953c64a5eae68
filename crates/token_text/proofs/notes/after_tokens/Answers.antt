use Rattle.std.proofs.Common.{◌≡◌, true, false, cond, chars, rules, ap, sym, ◌∙◌}
use Rattle.token_text.specs.Note as spec
use Rattle.token_text.proofs.Pasts.{past_trans}
use Rattle.token_text.proofs.NoteLaws.{past_end, past_goes, past_stuck, look_less}
use Rattle.token_text.proofs.notes.after_tokens.Goals as goal

pub loop-next-smaller-then-is_token : goal.loop-next-smaller-then-is_token
loop-next-smaller-then-is_token c = let f = c.in-Ok.ensures in look_less c.loop-next.rest.now c.in-Ok.after.now c.in-Ok.piece f.0 f.1

pub loop-next-smaller-else-is_token : goal.loop-next-smaller-else-is_token
loop-next-smaller-else-is_token c = let f = c.in-Ok.ensures in look_less c.loop-next.rest.now c.in-Ok.after.now c.in-Ok.piece f.0 f.1

pub loop-next-preserved-then-is_token : goal.loop-next-preserved-then-is_token
loop-next-preserved-then-is_token c =
    let i = c.loop-next.invariant in
    let f = c.in-Ok.ensures in
    let last = chars c.loop-next.last.now in
    let after = chars c.in-Ok.after.now in
    let t : spec.is_token c.in-Ok.piece ≡ true = sym c.is_token.ensures ∙ c.if-is_token.true in (
      search rules,
      search rules,
      past_trans i.3 f.1,
      past_trans i.3 f.1,
      i.4 ∙ past_goes (chars c.loop-next.rest.now) after last c.in-Ok.piece f.0 ∙ ap (λ b. spec.past_pieces 0 (cond b after last) after) t,
    )

pub loop-next-preserved-else-is_token : goal.loop-next-preserved-else-is_token
loop-next-preserved-else-is_token c =
    let i = c.loop-next.invariant in
    let f = c.in-Ok.ensures in
    let last = chars c.loop-next.last.now in
    let after = chars c.in-Ok.after.now in
    let t : spec.is_token c.in-Ok.piece ≡ false = sym c.is_token.ensures ∙ c.if-is_token.false in (
      search rules,
      search rules,
      i.2,
      past_trans i.3 f.1,
      i.4 ∙ past_goes (chars c.loop-next.rest.now) after last c.in-Ok.piece f.0 ∙ ap (λ b. spec.past_pieces 0 (cond b after last) after) t,
    )

pub loop-next-preserved : goal.loop-next-preserved
loop-next-preserved c =
    let i = c.loop-next.invariant in
    let e = c.in-Some.ensures in
    let l = c.line_end-rest.ensures in
    let past = past_trans i.3 (past_trans e.3 l.past) in (
      search rules,
      search rules,
      past,
      past,
      i.4 ∙ past_stuck (chars c.loop-next.rest.now) (chars c.in-Some.next.now) (chars c.loop-next.last.now) c.in-Some.field-0-0 c.in-Err.field-0 e.0 c.in-Err.ensures
          ∙ ap (λ t. spec.past_pieces 0 t t) (sym l.rest),
    )

pub returns-clause-rest : goal.returns-clause-rest
returns-clause-rest c = sym (c.loop-next.invariant.4 ∙ past_end (chars c.loop-next.last.now) (chars c.loop-next.rest.now) c.in_default.ensures.0)
