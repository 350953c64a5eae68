use Rattle.syn_forms.proofs.lists_laws.Turns.{no_memory, passed_on, stopped}
use Rattle.syn_pat.proofs.pat.read.fields.parse_bound_field.Goals as goal

pub returns-in_err-pat : goal.returns-in_err-pat
returns-in_err-pat g c =
    let e = c.in_err-pat.field-0.0 in
    record { parses = (passed_on _ _ _ _ e c.from_residual.ensures c.in_err-pat.ensures.parses.0 (λ h. stopped _ e h), c.parse_binds.ensures.parses.1) }

pub returns-in_err-new : goal.returns-in_err-new
returns-in_err-new g c =
    record { parses = (no_memory _ _ _ c.from_residual-in_err-new.ensures, c.parse_binds.ensures.parses.1) }
