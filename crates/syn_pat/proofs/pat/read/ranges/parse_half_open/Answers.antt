use Rattle.syn_pat.specs.pat.Reading.{half_open}
use Rattle.syn_forms.proofs.lists_laws.Turns.{passed_on, stopped}
use Rattle.syn_pat.proofs.pat.read.ranges.parse_half_open.Goals as goal

pub returns-in_err-limits : goal.returns-in_err-limits
unfolding half_open
returns-in_err-limits g c =
    let e = c.in_err-limits.field-0.0 in
    record { parses = (passed_on _ _ _ _ e c.from_residual.ensures c.in_err-limits.ensures.reads (λ h. stopped _ e h), c.parse.ensures.within) }
