use Rattle.std.proofs.Common.{◌∙◌, ap, sym, Some, rules}
use Rattle.token_text.proofs.Pasts.{past_trans}
use Rattle.token_text.proofs.Scans.{hashed_none, hashed_end, hashed_over, hashed_goes}
use Rattle.token_text.proofs.literal.after_raw_string.Goals as goal

pub returns-in-Some-past_hashes : goal.returns-in-Some-past_hashes
returns-in-Some-past_hashes c =
    let i = c.loop-first.invariant in
    let e = c.in-Some.ensures in
    let f = c.in-Some-past_hashes.ensures in (
      i.2 ∙ hashed_end c.args.count _ _ c.in-Some.first e.0 c.if-first-eq34.true f.0 ∙ ap (λ t. Some t) (sym f.1),
      past_trans i.1 (past_trans e.3 f.2),
    )

pub loop-first-preserved-in_default-past_hashes : goal.loop-first-preserved-in_default-past_hashes
loop-first-preserved-in_default-past_hashes c =
    let i = c.loop-first.invariant in
    let e = c.in-Some.ensures in
    (search rules, past_trans i.1 e.3, i.2 ∙ hashed_over c.args.count _ _ c.in-Some.first e.0 c.if-first-eq34.true c.in_default-past_hashes.ensures)

pub loop-first-preserved : goal.loop-first-preserved
loop-first-preserved c =
    let i = c.loop-first.invariant in
    let e = c.in-Some.ensures in
    (search rules, past_trans i.1 e.3, i.2 ∙ hashed_goes c.args.count _ _ c.in-Some.first e.0 c.if-first-eq34.false)

pub returns : goal.returns
returns c = c.loop-first.invariant.2 ∙ hashed_none c.args.count _ c.in_default.ensures.0
