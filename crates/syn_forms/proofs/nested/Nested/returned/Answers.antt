use Rattle.std.proofs.Common.{true, false, refl, sym, arith}
use Rattle.token_core.proofs.Suffixes.{follows_self, follows_trans}
use Rattle.token_core.proofs.Steps.{chosen, link}
use Rattle.syn_forms.specs.heads.Reading.{arrow}
use Rattle.syn_forms.proofs.lists_laws.Turns.{passed_on, stopped}
use Rattle.syn_forms.proofs.nested_laws.Ahead.{ahead_follows}
use Rattle.syn_forms.proofs.nested.Nested.returned.Goals as goal

pub returns-in_err-arrow-clause-parses : goal.returns-in_err-arrow-clause-parses
unfolding arrow
returns-in_err-arrow-clause-parses g c =
    let e = c.in_err-arrow.field-0.0 in (
      passed_on _ _ _ _ e c.from_residual.ensures c.in_err-arrow.ensures.parses.0 (λ h. chosen _ true _ _ _ _ (sym c.if-not-peek.ensures) (stopped _ e (stopped _ e h))),
      c.parse_r_arrow.ensures.parses.1,
    )

pub returns-in_err-arrow-clause-fewer : goal.returns-in_err-arrow-clause-fewer
returns-in_err-arrow-clause-fewer g c = ahead_follows _ _ c.parse_r_arrow.ensures.parses.1

pub boxed-requires-clause-few : goal.boxed-requires-clause-few
boxed-requires-clause-few g c =
    let few = c.requires.few in
    let less = c.in_ok-arrow.ensures.taken in
    omega (arith, few, less)

pub returns-in_err-output-clause-parses : goal.returns-in_err-output-clause-parses
unfolding arrow
returns-in_err-output-clause-parses g c =
    let e = c.in_err-output.field-0.0 in (
      passed_on _ _ _ _ e c.from_residual-in_err-output.ensures c.in_err-output.ensures.parses.0 (λ h. chosen _ true _ _ _ _ (sym c.if-not-peek.ensures) (stopped _ e (link _ c.in_ok-arrow.ensures.parses.0 (stopped _ e h)))),
      follows_trans _ _ _ c.parse_r_arrow.ensures.parses.1 c.boxed.ensures.parses.1,
    )

pub returns-in_err-output-clause-fewer : goal.returns-in_err-output-clause-fewer
returns-in_err-output-clause-fewer g c = ahead_follows _ _ (follows_trans _ _ _ c.parse_r_arrow.ensures.parses.1 c.boxed.ensures.parses.1)

pub returns-clause-parses : goal.returns-clause-parses
unfolding arrow
returns-clause-parses g c = (
  chosen _ true _ _ _ _ (sym c.if-not-peek.ensures) (link _ (link _ c.in_ok-arrow.ensures.parses.0 (link _ c.in_ok-output.ensures.parses.0 refl)) refl),
  follows_trans _ _ _ c.parse_r_arrow.ensures.parses.1 c.boxed.ensures.parses.1,
)

pub returns-clause-fewer : goal.returns-clause-fewer
returns-clause-fewer g c = ahead_follows _ _ (follows_trans _ _ _ c.parse_r_arrow.ensures.parses.1 c.boxed.ensures.parses.1)

pub returns-then-not-peek-clause-parses : goal.returns-then-not-peek-clause-parses
returns-then-not-peek-clause-parses g c = (
  chosen _ false _ _ _ _ (sym c.if-not-peek.ensures) refl,
  follows_self _,
)
