use Rattle.std.proofs.Common.{true, false, refl, sym}
use Rattle.token_core.proofs.Steps.{chosen, link}
use Rattle.syn_forms.proofs.lists_laws.Turns.{passed_on, stopped, told_by}
use Rattle.syn_ty.specs.generics.Reading.{in_generics}
use Rattle.syn_ty.proofs.grammar.Grammar.in_generics.Goals as goal

pub returns-in_err-lifetime : goal.returns-in_err-lifetime
unfolding in_generics
returns-in_err-lifetime g c =
    let e = c.in_err-lifetime.field-0.0 in
    record { parses = (passed_on _ _ _ _ e c.from_residual.ensures c.in_err-lifetime.ensures.parses.0 (λ h. chosen _ true _ _ _ _ (sym c.if-peek.ensures) (stopped _ e h)), c.lifetime_after.ensures.parses.1) }

pub returns-then-peek : goal.returns-then-peek
unfolding in_generics
returns-then-peek g c = record { parses = (told_by _ _ (chosen _ true _ _ _ _ (sym c.if-peek.ensures) (link _ c.in_ok-lifetime.ensures.parses.0 refl)) c.boxed_param.ensures.reads, c.lifetime_after.ensures.parses.1) }

pub returns-in_err-ty : goal.returns-in_err-ty
unfolding in_generics
returns-in_err-ty g c =
    let e = c.in_err-ty.field-0.0 in
    record { parses = (passed_on _ _ _ _ e c.from_residual-in_err-ty.ensures c.in_err-ty.ensures.parses.0 (λ h. chosen _ false _ _ _ _ (sym c.if-peek.ensures) (chosen _ true _ _ _ _ (sym c.if-peek-2.ensures) (stopped _ e h))), c.type_after.ensures.parses.1) }

pub returns-then-peek-2 : goal.returns-then-peek-2
unfolding in_generics
returns-then-peek-2 g c = record { parses = (told_by _ _ (chosen _ false _ _ _ _ (sym c.if-peek.ensures) (chosen _ true _ _ _ _ (sym c.if-peek-2.ensures) (link _ c.in_ok-ty.ensures.parses.0 refl))) c.boxed_param-then-peek-2.ensures.reads, c.type_after.ensures.parses.1) }

pub returns-in_err-constant : goal.returns-in_err-constant
unfolding in_generics
returns-in_err-constant g c =
    let e = c.in_err-constant.field-0.0 in
    record { parses = (passed_on _ _ _ _ e c.from_residual-in_err-constant.ensures c.in_err-constant.ensures.parses.0 (λ h. chosen _ false _ _ _ _ (sym c.if-peek.ensures) (chosen _ false _ _ _ _ (sym c.if-peek-2.ensures) (chosen _ true _ _ _ _ (sym c.if-peek-3.ensures) (stopped _ e h)))), c.const_after.ensures.parses.1) }

pub returns-then-peek-3 : goal.returns-then-peek-3
unfolding in_generics
returns-then-peek-3 g c = record { parses = (told_by _ _ (chosen _ false _ _ _ _ (sym c.if-peek.ensures) (chosen _ false _ _ _ _ (sym c.if-peek-2.ensures) (chosen _ true _ _ _ _ (sym c.if-peek-3.ensures) (link _ c.in_ok-constant.ensures.parses.0 refl)))) c.boxed_param-then-peek-3.ensures.reads, c.const_after.ensures.parses.1) }

pub returns-then-peek-4 : goal.returns-then-peek-4
unfolding in_generics
returns-then-peek-4 g c = record { parses = (told_by _ _ (chosen _ false _ _ _ _ (sym c.if-peek.ensures) (chosen _ false _ _ _ _ (sym c.if-peek-2.ensures) (chosen _ false _ _ _ _ (sym c.if-peek-3.ensures) (chosen _ true _ _ _ _ (sym c.if-peek-4.ensures) (refl))))) c.underscore_after.ensures.parses.0, c.underscore_after.ensures.parses.1) }
