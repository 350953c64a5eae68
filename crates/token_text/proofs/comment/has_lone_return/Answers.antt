use Rattle.std.proofs.Common.{rules, sym, ◌∙◌}
use Rattle.token_text.proofs.Scans.{lone_none, lone_here, lone_goes}
use Rattle.token_text.proofs.comment.has_lone_return.Goals as goal

pub returns-then-first-begins : goal.returns-then-first-begins
returns-then-first-begins c =
    sym (c.loop-first.invariant.1 ∙ lone_here _ _ c.in-Some.first c.begins.result c.in-Some.ensures.0 c.begins.ensures c.if-first-begins.true)

pub loop-first-preserved : goal.loop-first-preserved
loop-first-preserved c =
    (search rules, c.loop-first.invariant.1 ∙ lone_goes _ _ c.in-Some.first c.begins.result c.in-Some.ensures.0 c.begins.ensures c.if-first-begins.false)

pub returns : goal.returns
returns c = sym (c.loop-first.invariant.1 ∙ lone_none _ c.in_default.ensures.0)
