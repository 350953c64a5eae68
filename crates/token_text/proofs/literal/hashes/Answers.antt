use Rattle.std.proofs.Common.{◌∙◌, rules}
use Rattle.token_text.proofs.Pasts.{past_trans}
use Rattle.token_text.proofs.Scans.{hashes_none, hashes_end, hashes_stop, hashes_goes}
use Rattle.token_text.proofs.literal.hashes.Goals as goal

pub returns-then-first-eq34 : goal.returns-then-first-eq34
returns-then-first-eq34 c =
    let i = c.loop-first.invariant in
    let e = c.in-Some.ensures in
    (i.2 ∙ hashes_end c.loop-first.count _ _ c.in-Some.first e.0 c.if-first-eq34.true, past_trans i.1 e.3)

pub returns-then-first-count : goal.returns-then-first-count
returns-then-first-count c =
    let e = c.in-Some.ensures in
    c.loop-first.invariant.2 ∙ hashes_stop c.loop-first.count _ _ c.in-Some.first e.0 c.if-first-eq34.false c.if-first-count.true

pub loop-first-preserved : goal.loop-first-preserved
loop-first-preserved c =
    let i = c.loop-first.invariant in
    let e = c.in-Some.ensures in (
      search rules,
      past_trans i.1 e.3,
      i.2 ∙ hashes_goes c.loop-first.count _ _ c.in-Some.first e.0 c.if-first-eq34.false c.if-first-count.false,
      search rules,
    )

pub returns : goal.returns
returns c = c.loop-first.invariant.2 ∙ hashes_none c.loop-first.count _ c.in_default.ensures.0
