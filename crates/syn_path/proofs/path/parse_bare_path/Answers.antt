use Rattle.std.proofs.Common.{refl}
use Rattle.token_core.proofs.Suffixes.{follows_trans}
use Rattle.token_core.proofs.Steps.{link}
use Rattle.syn_path.proofs.Steps.{stopped, passed_on}
use Rattle.syn_path.specs.path.Reading.{bare_path}
use Rattle.syn_path.proofs.path.parse_bare_path.Goals as goal

pub returns-in_err-leading_colon : goal.returns-in_err-leading_colon
unfolding bare_path
returns-in_err-leading_colon g c =
    let e = c.in_err-leading_colon.field-0.0 in
    record {
      parses = (
        passed_on _ _ _ _ e c.from_residual.ensures c.in_err-leading_colon.ensures.parses.0 (λ h. stopped _ e h),
        c.parse_leading.ensures.parses.1,
      );
    }

pub returns-in_err-segments : goal.returns-in_err-segments
unfolding bare_path
returns-in_err-segments g c =
    let e = c.in_err-segments.field-0.0 in
    record {
      parses = (
        passed_on _ _ _ _ e c.from_residual-in_err-segments.ensures c.in_err-segments.ensures.parses.0 (λ h. link _ c.in_ok-leading_colon.ensures.parses.0 (stopped _ e h)),
        follows_trans _ _ _ c.parse_leading.ensures.parses.1 c.parse_bare_segments.ensures.parses.1,
      );
    }

pub returns : goal.returns
unfolding bare_path
returns g c =
    record {
      parses = (
        link _ c.in_ok-leading_colon.ensures.parses.0 (link _ c.in_ok-segments.ensures.parses.0 refl),
        follows_trans _ _ _ c.parse_leading.ensures.parses.1 c.parse_bare_segments.ensures.parses.1,
      );
    }
