use Rattle.std.proofs.Common.{refl}
use Rattle.syn_pat.specs.pat.Reading.{bound_or_range}
use Rattle.token_core.proofs.Suffixes.{follows_trans}
use Rattle.token_core.proofs.Steps.{link}
use Rattle.syn_forms.proofs.lists_laws.Turns.{passed_on, stopped, told_by}
use Rattle.syn_pat.proofs.pat.read.ranges.parse_bound_or_range.Goals as goal

pub returns-in_err-bound : goal.returns-in_err-bound
unfolding bound_or_range
returns-in_err-bound g c =
    let e = c.in_err-bound.field-0.0 in
    record { parses = (passed_on _ _ _ _ e c.from_residual.ensures c.in_err-bound.ensures.parses.0 (λ h. stopped _ e h), c.parse_bound.ensures.parses.1) }

pub returns : goal.returns
unfolding bound_or_range
returns g c =
    record {
      parses = (
        told_by c.parse_after_bound.result c.parse_after_bound.new.input (link _ c.in_ok-bound.ensures.parses.0 refl) c.parse_after_bound.ensures.parses.0,
        follows_trans _ _ _ c.parse_bound.ensures.parses.1 c.parse_after_bound.ensures.parses.1,
      );
    }
