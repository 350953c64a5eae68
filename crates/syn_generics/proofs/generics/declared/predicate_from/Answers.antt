use Rattle.std.proofs.Common.{true, false, refl, sym, arith}
use Rattle.syn_generics.specs.generics.Declared.{predicate, predicate_after}
use Rattle.token_core.proofs.Suffixes.{follows_trans}
use Rattle.token_core.proofs.Steps.{chosen, link}
use Rattle.syn_forms.proofs.lists_laws.Turns.{passed_on, stopped}
use Rattle.syn_forms.proofs.nested_laws.Ahead.{ahead_follows}
use Rattle.syn_generics.proofs.generics.declared.predicate_from.Goals as goal

pub returns-in_err-attrs : goal.returns-in_err-attrs
unfolding predicate predicate_after
returns-in_err-attrs g c =
    let e = c.in_err-attrs.field-0.0 in
    record { parses = (passed_on _ _ _ _ e c.from_residual.ensures c.in_err-attrs.ensures.reads (λ h. stopped _ e h), c.read_outer.ensures.within) }

pub returns-in_err-lifetime_after : goal.returns-in_err-lifetime_after
unfolding predicate predicate_after
returns-in_err-lifetime_after g c =
    let e = c.in_err-lifetime_after.field-0.0 in
    record {
      parses = (
        passed_on _ _ _ _ e c.from_residual-in_err-lifetime_after.ensures c.in_err-lifetime_after.ensures.parses.0 (λ h. link _ c.in_ok-attrs.ensures.reads (chosen _ true _ _ _ _ (sym c.if-sees_lifetime_predicate.ensures) (stopped _ e h))),
        follows_trans _ _ _ c.read_outer.ensures.within c.lifetime_after.ensures.parses.1,
      );
    }

pub returns-then-sees_lifetime_predicate : goal.returns-then-sees_lifetime_predicate
unfolding predicate predicate_after
returns-then-sees_lifetime_predicate g c =
    record {
      parses = (
        link _ c.in_ok-attrs.ensures.reads (chosen _ true _ _ _ _ (sym c.if-sees_lifetime_predicate.ensures) (link _ c.in_ok-lifetime_after.ensures.parses.0 refl)),
        follows_trans _ _ _ c.read_outer.ensures.within c.lifetime_after.ensures.parses.1,
      );
    }

pub type_after-requires : goal.type_after-requires
type_after-requires g c =
    let few = c.requires.few in
    let le = ahead_follows _ _ c.read_outer.ensures.within in
    record { few = omega (arith, few, le) }

pub returns-in_err-type_after : goal.returns-in_err-type_after
unfolding predicate predicate_after
returns-in_err-type_after g c =
    let e = c.in_err-type_after.field-0.0 in
    record {
      parses = (
        passed_on _ _ _ _ e c.from_residual-in_err-type_after.ensures c.in_err-type_after.ensures.parses.0 (λ h. link _ c.in_ok-attrs.ensures.reads (chosen _ false _ _ _ _ (sym c.if-sees_lifetime_predicate.ensures) (stopped _ e h))),
        follows_trans _ _ _ c.read_outer.ensures.within c.type_after.ensures.parses.1,
      );
    }

pub returns : goal.returns
unfolding predicate predicate_after
returns g c =
    record {
      parses = (
        link _ c.in_ok-attrs.ensures.reads (chosen _ false _ _ _ _ (sym c.if-sees_lifetime_predicate.ensures) (link _ c.in_ok-type_after.ensures.parses.0 refl)),
        follows_trans _ _ _ c.read_outer.ensures.within c.type_after.ensures.parses.1,
      );
    }
