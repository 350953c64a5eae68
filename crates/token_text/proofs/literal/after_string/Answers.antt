use Rattle.std.proofs.Common.{◌∙◌, rules}
use Rattle.token_text.proofs.Pasts.{past_trans}
use Rattle.token_text.proofs.Scans.{quoted_none, quoted_end, quoted_goes}
use Rattle.token_text.proofs.literal.after_string.Goals as goal

pub returns-then-is_escaped-first : goal.returns-then-is_escaped-first
returns-then-is_escaped-first c =
    let i = c.loop-first.invariant in
    let e = c.in-Some.ensures in
    (i.2 ∙ quoted_end c.loop-first.is_escaped _ _ c.in-Some.first e.0 c.if-is_escaped-first.true, past_trans i.1 e.3)

pub loop-first-preserved : goal.loop-first-preserved
loop-first-preserved c =
    let i = c.loop-first.invariant in
    let e = c.in-Some.ensures in
    (search rules, past_trans i.1 e.3, i.2 ∙ quoted_goes c.loop-first.is_escaped _ _ c.in-Some.first e.0 c.if-is_escaped-first.false)

pub returns : goal.returns
returns c = c.loop-first.invariant.2 ∙ quoted_none c.loop-first.is_escaped _ c.in_default.ensures.0
