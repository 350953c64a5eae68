use Rattle.std.proofs.Common.{refl}
use Rattle.token_core.proofs.Steps.{link}
use Rattle.syn_forms.proofs.lists_laws.Turns.{passed_on, stopped, told_by}
use Rattle.syn_ty.specs.path.Reading.{arguments_step}
use Rattle.syn_ty.proofs.grammar.Grammar.arguments_step.Goals as goal

pub returns-in_err-angle_bracketed : goal.returns-in_err-angle_bracketed
unfolding arguments_step
returns-in_err-angle_bracketed g c =
    let e = c.in_err-angle_bracketed.field-0.0 in
    record { parses = (passed_on _ _ _ _ e c.from_residual.ensures c.in_err-angle_bracketed.ensures.parses.0 (λ h. stopped _ e h), c.angle_bracketed.ensures.parses.1) }

pub returns : goal.returns
unfolding arguments_step
returns g c = record { parses = (told_by _ _ (link _ c.in_ok-angle_bracketed.ensures.parses.0 refl) c.boxed_arguments.ensures.reads, c.angle_bracketed.ensures.parses.1) }
