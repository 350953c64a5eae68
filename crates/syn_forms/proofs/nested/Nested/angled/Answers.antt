use Rattle.std.proofs.Common.{refl, arith}
use Rattle.token_core.proofs.Suffixes.{follows_trans}
use Rattle.token_core.proofs.Steps.{link}
use Rattle.syn_forms.specs.heads.Reading.{angled}
use Rattle.syn_forms.proofs.lists_laws.Turns.{passed_on, stopped}
use Rattle.syn_forms.proofs.nested.Nested.angled.Goals as goal

pub returns-in_err-lt_token : goal.returns-in_err-lt_token
unfolding angled
returns-in_err-lt_token g c =
    let e = c.in_err-lt_token.field-0.0 in
    record {
      parses = (
        passed_on _ _ _ _ e c.from_residual.ensures c.in_err-lt_token.ensures.parses.0 (λ h. stopped _ e h),
        c.parse_lt.ensures.parses.1,
      );
    }

pub list-requires-clause-few : goal.list-requires-clause-few
list-requires-clause-few g c =
    let few = c.requires.few in
    let less = c.in_ok-lt_token.ensures.taken in
    omega (arith, few, less)

pub returns-in_err-values : goal.returns-in_err-values
unfolding angled
returns-in_err-values g c =
    let e = c.in_err-values.field-0.0 in
    record {
      parses = (
        passed_on _ _ _ _ e c.from_residual-in_err-values.ensures c.in_err-values.ensures.parses.0 (λ h. link _ c.in_ok-lt_token.ensures.parses.0 (stopped _ e h)),
        follows_trans _ _ _ c.parse_lt.ensures.parses.1 c.list.ensures.parses.1,
      );
    }

pub returns-in_err-gt_token : goal.returns-in_err-gt_token
unfolding angled
returns-in_err-gt_token g c =
    let e = c.in_err-gt_token.field-0.0 in
    record {
      parses = (
        passed_on _ _ _ _ e c.from_residual-in_err-gt_token.ensures c.in_err-gt_token.ensures.parses.0 (λ h. link _ c.in_ok-lt_token.ensures.parses.0 (link _ c.in_ok-values.ensures.parses.0 (stopped _ e h))),
        follows_trans _ _ _ c.parse_lt.ensures.parses.1 (follows_trans _ _ _ c.list.ensures.parses.1 c.parse_gt.ensures.parses.1),
      );
    }

pub returns : goal.returns
unfolding angled
returns g c =
    record {
      parses = (
        link _ c.in_ok-lt_token.ensures.parses.0 (link _ c.in_ok-values.ensures.parses.0 (link _ c.in_ok-gt_token.ensures.parses.0 refl)),
        follows_trans _ _ _ c.parse_lt.ensures.parses.1 (follows_trans _ _ _ c.list.ensures.parses.1 c.parse_gt.ensures.parses.1),
      );
    }
