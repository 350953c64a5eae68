use Rattle.std.proofs.Common.{◌∙◌, rules, arith}
use Rattle.token_text.proofs.Pasts.{past_trans}
use Rattle.token_text.proofs.Scans.{comment_none, comment_short, comment_opens, comment_ends, comment_closes, comment_goes}
use Rattle.token_text.proofs.comment.after_block.Goals as goal

pub loop-first-preserved-then-first-next : goal.loop-first-preserved-then-first-next
loop-first-preserved-then-first-next c =
    let i = c.loop-first.invariant in
    let e = c.in-Some.ensures in
    let f = c.in-Some-split_first.ensures in (
      search rules,
      past_trans i.1 (past_trans e.3 f.3),
      i.2 ∙ comment_opens c.loop-first.depth _ _ _ c.in-Some.first c.in-Some-split_first.next e.0 f.0 c.if-first-next.true,
      omega (arith, i.3, e.2, f.2),
    )

pub returns-then-depth-eq0 : goal.returns-then-depth-eq0
returns-then-depth-eq0 c =
    let i = c.loop-first.invariant in
    let e = c.in-Some.ensures in
    let f = c.in-Some-split_first.ensures in (
      i.2 ∙ comment_ends c.loop-first.depth _ _ _ c.in-Some.first c.in-Some-split_first.next e.0 f.0 c.if-first-next.false c.if-first-next-2.true c.if-depth-eq0.true,
      past_trans i.1 (past_trans e.3 f.3),
    )

pub loop-first-preserved-then-first-next-2 : goal.loop-first-preserved-then-first-next-2
loop-first-preserved-then-first-next-2 c =
    let i = c.loop-first.invariant in
    let e = c.in-Some.ensures in
    let f = c.in-Some-split_first.ensures in (
      search rules,
      past_trans i.1 (past_trans e.3 f.3),
      i.2 ∙ comment_closes c.loop-first.depth _ _ _ c.in-Some.first c.in-Some-split_first.next e.0 f.0 c.if-first-next.false c.if-first-next-2.true c.if-depth-eq0.false,
      omega (arith, i.3, e.2, f.2),
    )

pub loop-first-preserved : goal.loop-first-preserved
loop-first-preserved c =
    let i = c.loop-first.invariant in
    let e = c.in-Some.ensures in
    let f = c.in-Some-split_first.ensures in (
      search rules,
      past_trans i.1 e.3,
      i.2 ∙ comment_goes c.loop-first.depth _ _ _ c.in-Some.first c.in-Some-split_first.next e.0 f.0 c.if-first-next.false c.if-first-next-2.false,
      omega (arith, i.3, e.2),
    )

pub returns : goal.returns
returns c = c.loop-first.invariant.2 ∙ comment_none c.loop-first.depth _ c.in_default.ensures.0

pub returns-in_default-split_first : goal.returns-in_default-split_first
returns-in_default-split_first c =
    c.loop-first.invariant.2 ∙ comment_short c.loop-first.depth _ _ c.in-Some.first c.in-Some.ensures.0 c.in_default-split_first.ensures.0
