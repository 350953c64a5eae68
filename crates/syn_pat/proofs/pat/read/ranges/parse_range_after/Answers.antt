use Rattle.std.proofs.Common.{refl}
use Rattle.syn_pat.specs.pat.Reading.{range_after}
use Rattle.token_core.proofs.Suffixes.{follows_trans}
use Rattle.token_core.proofs.Steps.{link}
use Rattle.syn_forms.proofs.lists_laws.Turns.{passed_on, stopped, told_by}
use Rattle.syn_pat.proofs.pat.read.ranges.parse_range_after.Goals as goal

pub returns-in_err-limits : goal.returns-in_err-limits
unfolding range_after
returns-in_err-limits g c =
    let e = c.in_err-limits.field-0.0 in
    record { parses = (passed_on _ _ _ _ e c.from_residual.ensures c.in_err-limits.ensures.parses.0 (λ h. stopped _ e h), c.parse_obsolete.ensures.parses.1) }

pub returns-in_err-end : goal.returns-in_err-end
unfolding range_after
returns-in_err-end g c =
    let e = c.in_err-end.field-0.0 in
    record {
      parses = (
        passed_on _ _ _ _ e c.from_residual-in_err-end.ensures c.in_err-end.ensures.parses.0 (λ h. link _ c.in_ok-limits.ensures.parses.0 (stopped _ e h)),
        follows_trans _ _ _ c.parse_obsolete.ensures.parses.1 c.parse_optional_bound.ensures.parses.1,
      );
    }

pub returns : goal.returns
unfolding range_after
returns g c =
    record {
      parses = (
        told_by c.ended.result c.ended.new.input (link _ c.in_ok-limits.ensures.parses.0 (link _ c.in_ok-end.ensures.parses.0 refl)) c.ended.ensures.parses.0,
        follows_trans _ _ _ c.parse_obsolete.ensures.parses.1 (follows_trans _ _ _ c.parse_optional_bound.ensures.parses.1 c.ended.ensures.parses.1),
      );
    }
