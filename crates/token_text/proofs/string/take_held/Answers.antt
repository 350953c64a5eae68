use Rattle.std.proofs.Common.{chars, rules, refl}
use Rattle.token_text.proofs.Pasts.{past_trans}
use Rattle.token_text.proofs.StringLaws.{taken_none, taken_step}
use Rattle.token_text.proofs.string.take_held.Goals as goal

pub loop-found-init : goal.loop-found-init
loop-found-init c = (
  search rules,
  c.requires.past,
  taken_none c.args.lit.now c.args.closing (chars c.args.body.now) c.args.body.now _ _ refl c.requires.none.0 c.requires.none.1,
)

pub loop-found-preserved : goal.loop-found-preserved
loop-found-preserved c =
    let i = c.loop-found.invariant in
    let e = c.in-Some.ensures.shown in (
      search rules,
      past_trans i.1 e.1,
      taken_step c.args.lit.now c.args.closing (chars c.args.body.now) c.loop-found.rest.now c.in-Some.after.now _ _ _ _ c.in-Some.found _ i.2 e.0 c.between.ensures c.in_ok-add.ensures,
    )
