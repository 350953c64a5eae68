use Rattle.std.proofs.Common.{rules, sym, ◌∙◌}
use Rattle.token_text.proofs.DocLaws.{said_none, said_ends, written_more, written_all}
use Rattle.token_text.proofs.doc.push_said.Goals as goal

pub returns-then-ends_here : goal.returns-then-ends_here
returns-then-ends_here c =
    written_all _ _ c.args.form _ c.loop-first.invariant.1 (said_ends c.args.form _ _ c.in-Some.first c.in-Some.ensures.0 (sym c.ends_here.ensures ∙ c.if-ends_here.true))

pub loop-first-preserved : goal.loop-first-preserved
loop-first-preserved c = (
  search rules,
  written_more _ _ _ c.args.form _ _ c.in-Some.first c.loop-first.invariant.1 c.in-Some.ensures.0 (sym c.ends_here.ensures ∙ c.if-ends_here.false) c.in_ok-push_escaped.ensures,
)

pub returns : goal.returns
returns c = written_all _ _ c.args.form _ c.loop-first.invariant.1 (said_none c.args.form _ c.in_default.ensures.0)
