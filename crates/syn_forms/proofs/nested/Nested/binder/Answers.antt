use Rattle.std.proofs.Common.{refl, arith}
use Rattle.token_core.proofs.Suffixes.{follows_trans}
use Rattle.token_core.proofs.Steps.{link}
use Rattle.syn_forms.specs.heads.Reading.{binder}
use Rattle.syn_forms.proofs.lists_laws.Turns.{passed_on, stopped}
use Rattle.syn_forms.proofs.nested.Nested.binder.Goals as goal

pub returns-in_err-for_token : goal.returns-in_err-for_token
unfolding binder
returns-in_err-for_token g c =
    let e = c.in_err-for_token.field-0.0 in
    record {
      parses = (
        passed_on _ _ _ _ e c.from_residual.ensures c.in_err-for_token.ensures.parses.0 (λ h. stopped _ e h),
        c.parse_for.ensures.parses.1,
      );
    }

pub angled-requires-clause-few : goal.angled-requires-clause-few
angled-requires-clause-few g c =
    let few = c.requires.few in
    let less = c.in_ok-for_token.ensures.taken in
    omega (arith, few, less)

pub returns-in_err-params : goal.returns-in_err-params
unfolding binder
returns-in_err-params g c =
    let e = c.in_err-params.field-0.0 in
    record {
      parses = (
        passed_on _ _ _ _ e c.from_residual-in_err-params.ensures c.in_err-params.ensures.parses.0 (λ h. link _ c.in_ok-for_token.ensures.parses.0 (stopped _ e h)),
        follows_trans _ _ _ c.parse_for.ensures.parses.1 c.angled.ensures.parses.1,
      );
    }

pub returns : goal.returns
unfolding binder
returns g c =
    record {
      parses = (
        link _ c.in_ok-for_token.ensures.parses.0 (link _ c.in_ok-params.ensures.parses.0 refl),
        follows_trans _ _ _ c.parse_for.ensures.parses.1 c.angled.ensures.parses.1,
      );
    }
