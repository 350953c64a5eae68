use Rattle.std.proofs.Common.{refl}
use Rattle.syn_pat.specs.pat.Reading.{element}
use Rattle.token_core.proofs.Suffixes.{follows_trans}
use Rattle.token_core.proofs.Steps.{link}
use Rattle.syn_forms.proofs.lists_laws.Turns.{passed_on, stopped, told_by}
use Rattle.syn_pat.proofs.patterns.Patterns.element.Goals as goal

pub returns-in_err-pat : goal.returns-in_err-pat
unfolding element
returns-in_err-pat g c =
    let e = c.in_err-pat.field-0.0 in
    record { parses = (passed_on _ _ _ _ e c.from_residual.ensures c.in_err-pat.ensures.parses.0 (λ h. stopped _ e h), c.leading.ensures.parses.1) }

pub returns : goal.returns
unfolding element
returns g c =
    record {
      parses = (
        told_by c.as_element.result c.as_element.new.input (link _ c.in_ok-pat.ensures.parses.0 refl) c.as_element.ensures.parses.0,
        follows_trans _ _ _ c.leading.ensures.parses.1 c.as_element.ensures.parses.1,
      );
    }
