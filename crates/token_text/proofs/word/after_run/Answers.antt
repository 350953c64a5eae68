use Rattle.std.proofs.Common.{chars, rules, ◌∙◌}
use Rattle.token_text.proofs.Pasts.{past_trans}
use Rattle.token_text.proofs.Words.{run_goes_on}
use Rattle.token_text.proofs.word.after_run.Goals as goal

pub loop-ch-preserved : goal.loop-ch-preserved
loop-ch-preserved c =
    let e = c.in-Some.ensures in (
      search rules,
      past_trans c.loop-ch.invariant.1 e.3,
      c.loop-ch.invariant.2 ∙ run_goes_on c.args.class (chars c.loop-ch.rest.now) (chars c.in-Some.after.now) c.in-Some.ch e.0 (cc),
    )
