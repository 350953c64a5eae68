use Rattle.std.proofs.Common.{refl, sym, true, false, arith}
use Rattle.token_core.proofs.Suffixes.{follows_trans}
use Rattle.token_core.proofs.Steps.{link, chosen}
use Rattle.syn_forms.proofs.lists_laws.Turns.{passed_on, stopped, told_by}
use Rattle.syn_forms.proofs.nested_laws.Ahead.{ahead_follows}
use Rattle.syn_ty.specs.path.Reading.{argument_step}
use Rattle.syn_ty.proofs.grammar.Grammar.argument_step.Goals as goal

pub returns-in_err-lifetime : goal.returns-in_err-lifetime
unfolding argument_step
returns-in_err-lifetime g c =
    let e = c.in_err-lifetime.field-0.0 in
    record { parses = (passed_on _ _ _ _ e c.from_residual.ensures c.in_err-lifetime.ensures.parses.0 (λ h. chosen _ true _ _ _ _ (sym c.if-peek_lone_lifetime.ensures) (stopped _ e h)), c.parse_any_lifetime.ensures.parses.1) }

pub returns-then-peek_lone_lifetime : goal.returns-then-peek_lone_lifetime
unfolding argument_step
returns-then-peek_lone_lifetime g c =
    record { parses = (told_by _ _ (chosen _ true _ _ _ _ (sym c.if-peek_lone_lifetime.ensures) (link _ c.in_ok-lifetime.ensures.parses.0 refl)) c.boxed_argument.ensures.reads, c.parse_any_lifetime.ensures.parses.1) }

pub returns-in_err-value : goal.returns-in_err-value
unfolding argument_step
returns-in_err-value g c =
    let e = c.in_err-value.field-0.0 in
    record { parses = (passed_on _ _ _ _ e c.from_residual-in_err-value.ensures c.in_err-value.ensures.reads (λ h. chosen _ false _ _ _ _ (sym c.if-peek_lone_lifetime.ensures) (chosen _ true _ _ _ _ (sym c.if-peek_const.ensures) (stopped _ e h))), c.read_const_argument.ensures.within) }

pub returns-then-peek_const : goal.returns-then-peek_const
unfolding argument_step
returns-then-peek_const g c =
    record { parses = (told_by _ _ (chosen _ false _ _ _ _ (sym c.if-peek_lone_lifetime.ensures) (chosen _ true _ _ _ _ (sym c.if-peek_const.ensures) (link _ c.in_ok-value.ensures.reads refl))) c.boxed_argument-then-peek_const.ensures.reads, c.read_const_argument.ensures.within) }

pub returns-in_err-ty : goal.returns-in_err-ty
unfolding argument_step
returns-in_err-ty g c =
    let e = c.in_err-ty.field-0.0 in
    record { parses = (passed_on _ _ _ _ e c.from_residual-in_err-ty.ensures c.in_err-ty.ensures.parses.0 (λ h. chosen _ false _ _ _ _ (sym c.if-peek_lone_lifetime.ensures) (chosen _ false _ _ _ _ (sym c.if-peek_const.ensures) (stopped _ e h))), c.type_step.ensures.parses.1) }

pub after_type-requires-clause-few : goal.after_type-requires-clause-few
after_type-requires-clause-few g c =
    let few = c.requires.few in
    let le = ahead_follows _ _ c.type_step.ensures.parses.1 in
    omega (arith, few, le)

pub returns : goal.returns
unfolding argument_step
returns g c =
    record { parses = (told_by c.after_type.result c.after_type.new.input (chosen _ false _ _ _ _ (sym c.if-peek_lone_lifetime.ensures) (chosen _ false _ _ _ _ (sym c.if-peek_const.ensures) (link _ c.in_ok-ty.ensures.parses.0 refl))) c.after_type.ensures.parses.0, follows_trans _ _ _ c.type_step.ensures.parses.1 c.after_type.ensures.parses.1) }
