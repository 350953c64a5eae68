use Rattle.std.proofs.Common.{refl}
use Rattle.token_core.proofs.Steps.{link}
use Rattle.syn_forms.proofs.lists_laws.Turns.{passed_on, stopped, told_by}
use Rattle.syn_forms.proofs.nested_laws.Ahead.{ahead_follows}
use Rattle.syn_ty.proofs.grammar.Grammar.fn_ptr_type.Goals as goal

pub returns-in_err-form-clause-parses : goal.returns-in_err-form-clause-parses
returns-in_err-form-clause-parses g c =
    let e = c.in_err-form.field-0.0 in
    (passed_on _ _ _ _ e c.from_residual.ensures c.in_err-form.ensures.parses.0 (λ h. stopped _ e h), c.fn_ptr_after.ensures.parses.1)

pub returns-in_err-form-clause-fewer : goal.returns-in_err-form-clause-fewer
returns-in_err-form-clause-fewer g c = ahead_follows _ _ c.fn_ptr_after.ensures.parses.1

pub returns-clause-parses : goal.returns-clause-parses
returns-clause-parses g c = (told_by _ _ (link _ c.in_ok-form.ensures.parses.0 refl) c.boxed_type.ensures.reads, c.fn_ptr_after.ensures.parses.1)

pub returns-clause-fewer : goal.returns-clause-fewer
returns-clause-fewer g c = ahead_follows _ _ c.fn_ptr_after.ensures.parses.1
