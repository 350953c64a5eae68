use Rattle.std.proofs.Common.{chars, rules, sym, ◌∙◌}
use Rattle.token_text.proofs.Pasts.{past_trans}
use Rattle.token_text.proofs.Words.{blanks_go_on, blanks_end}
use Rattle.token_text.proofs.word.after_blanks.Goals as goal

pub loop-after-preserved : goal.loop-after-preserved
loop-after-preserved c =
    let e = c.in-Some.ensures.blank in (
      search rules,
      past_trans c.loop-after.invariant.1 e.1,
      c.loop-after.invariant.2 ∙ blanks_go_on (chars c.loop-after.rest.now) (chars c.in-Some.after.now) e.0,
    )

pub returns-clause-rest : goal.returns-clause-rest
returns-clause-rest c = sym (c.loop-after.invariant.2 ∙ blanks_end (chars c.loop-after.rest.now) c.in_default.ensures.blank)
