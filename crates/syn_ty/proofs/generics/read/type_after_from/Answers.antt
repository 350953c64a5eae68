use Rattle.std.proofs.Common.{refl}
use Rattle.token_core.proofs.Steps.{link}
use Rattle.syn_forms.proofs.lists_laws.Turns.{passed_on, stopped}
use Rattle.syn_ty.proofs.generics.read.type_after_from.Goals as goal

pub returns-in_err-ident : goal.returns-in_err-ident
returns-in_err-ident g c =
    let e = c.in_err-ident.field-0.0 in
    record { parses = (passed_on _ _ _ _ e c.from_residual.ensures c.in_err-ident.ensures.parses.0 (λ h. stopped _ e h), c.parse_type_parts.ensures.parses.1) }

pub returns : goal.returns
returns g c =
    record { parses = (link _ c.in_ok-ident.ensures.parses.0 refl, c.parse_type_parts.ensures.parses.1) }
