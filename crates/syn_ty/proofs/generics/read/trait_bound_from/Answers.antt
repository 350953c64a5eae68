use Rattle.std.proofs.Common.{refl, arith}
use Rattle.token_core.proofs.Suffixes.{follows_trans}
use Rattle.token_core.proofs.Steps.{link}
use Rattle.syn_forms.proofs.lists_laws.Turns.{passed_on, stopped, told_by}
use Rattle.syn_forms.proofs.nested_laws.Ahead.{ahead_follows}
use Rattle.syn_ty.specs.generics.Reading.{trait_in}
use Rattle.syn_ty.proofs.generics.read.trait_bound_from.Goals as goal

pub returns-in_err-lifetimes : goal.returns-in_err-lifetimes
unfolding trait_in
returns-in_err-lifetimes g c =
    let e = c.in_err-lifetimes.field-0.0 in
    record { parses = (passed_on _ _ _ _ e c.from_residual.ensures c.in_err-lifetimes.ensures.parses.0 (λ h. stopped _ e h), c.optional_binder_from.ensures.parses.1) }

pub returns-in_err-modifiers : goal.returns-in_err-modifiers
unfolding trait_in
returns-in_err-modifiers g c =
    let e = c.in_err-modifiers.field-0.0 in
    record { parses = (passed_on _ _ _ _ e c.from_residual-in_err-modifiers.ensures c.in_err-modifiers.ensures.parses.0 (λ h. link _ c.in_ok-lifetimes.ensures.parses.0 (stopped _ e h)), follows_trans _ _ _ c.optional_binder_from.ensures.parses.1 c.parse_modifiers.ensures.parses.1) }

pub trait_after_from-requires : goal.trait_after_from-requires
trait_after_from-requires g c =
    let few = c.requires.few in
    let le = ahead_follows _ _ (follows_trans _ _ _ c.optional_binder_from.ensures.parses.1 c.parse_modifiers.ensures.parses.1) in
    record { few = omega (arith, few, le) }

pub returns : goal.returns
unfolding trait_in
returns g c =
    record { parses = (told_by c.trait_after_from.result c.trait_after_from.new.input (link _ c.in_ok-lifetimes.ensures.parses.0 (link _ c.in_ok-modifiers.ensures.parses.0 refl)) c.trait_after_from.ensures.parses.0, follows_trans _ _ _ c.optional_binder_from.ensures.parses.1 (follows_trans _ _ _ c.parse_modifiers.ensures.parses.1 c.trait_after_from.ensures.parses.1)) }
