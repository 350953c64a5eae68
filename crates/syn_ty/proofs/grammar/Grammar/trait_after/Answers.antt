use Rattle.std.proofs.Common.{refl, arith}
use Rattle.token_core.proofs.Suffixes.{follows_trans}
use Rattle.token_core.proofs.Steps.{link}
use Rattle.syn_ty.specs.generics.Reading.{trait_after}
use Rattle.syn_forms.proofs.lists_laws.Turns.{told_by, passed_on, stopped}
use Rattle.syn_forms.proofs.nested_laws.Ahead.{ahead_follows}
use Rattle.syn_ty.proofs.grammar.Grammar.trait_after.Goals as goal

pub returns-in_err-maybe : goal.returns-in_err-maybe
unfolding trait_after
returns-in_err-maybe g c =
    let e = c.in_err-maybe.field-0.0 in
    record {
      parses = (
        passed_on _ _ _ _ e c.from_residual.ensures c.in_err-maybe.ensures.parses.0 (λ h. stopped _ e h),
        c.parse_question.ensures.parses.1,
      );
    }

pub binder_after-requires-clause-params : goal.binder_after-requires-clause-params
binder_after-requires-clause-params g c = c.requires.params

pub binder_after-requires-clause-few : goal.binder_after-requires-clause-few
binder_after-requires-clause-few g c =
    let few = c.requires.few in
    let le = ahead_follows _ _ c.parse_question.ensures.parses.1 in
    omega (arith, few, le)

pub returns-in_err-lifetimes : goal.returns-in_err-lifetimes
unfolding trait_after
returns-in_err-lifetimes g c =
    let e = c.in_err-lifetimes.field-0.0 in
    record {
      parses = (
        passed_on _ _ _ _ e c.from_residual-in_err-lifetimes.ensures c.in_err-lifetimes.ensures.parses.0 (λ h. link _ c.in_ok-maybe.ensures.parses.0 (stopped _ e h)),
        follows_trans _ _ _ c.parse_question.ensures.parses.1 c.binder_after.ensures.parses.1,
      );
    }

pub path-requires-clause-segments : goal.path-requires-clause-segments
path-requires-clause-segments g c = c.requires.segments

pub path-requires-clause-few : goal.path-requires-clause-few
path-requires-clause-few g c =
    let few = c.requires.few in
    let le = ahead_follows _ _ (follows_trans _ _ _ c.parse_question.ensures.parses.1 c.binder_after.ensures.parses.1) in
    omega (arith, few, le)

pub returns-in_err-path : goal.returns-in_err-path
unfolding trait_after
returns-in_err-path g c =
    let e = c.in_err-path.field-0.0 in
    record {
      parses = (
        passed_on _ _ _ _ e c.from_residual-in_err-path.ensures c.in_err-path.ensures.parses.0 (λ h. link _ c.in_ok-maybe.ensures.parses.0 (link _ c.in_ok-lifetimes.ensures.parses.0 (stopped _ e h))),
        follows_trans _ _ _ c.parse_question.ensures.parses.1 (follows_trans _ _ _ c.binder_after.ensures.parses.1 c.path.ensures.parses.1),
      );
    }

pub signed-requires-clause-types : goal.signed-requires-clause-types
signed-requires-clause-types g c = c.requires.types

pub signed-requires-clause-few : goal.signed-requires-clause-few
signed-requires-clause-few g c =
    let few = c.requires.few in
    let le = ahead_follows _ _ (follows_trans _ _ _ c.parse_question.ensures.parses.1 (follows_trans _ _ _ c.binder_after.ensures.parses.1 c.path.ensures.parses.1)) in
    omega (arith, few, le)

pub returns-in_err-path-2 : goal.returns-in_err-path-2
unfolding trait_after
returns-in_err-path-2 g c =
    let e = c.in_err-path-2.field-0.0 in
    record {
      parses = (
        passed_on _ _ _ _ e c.from_residual-in_err-path-2.ensures c.in_err-path-2.ensures.parses.0 (λ h. link _ c.in_ok-maybe.ensures.parses.0 (link _ c.in_ok-lifetimes.ensures.parses.0 (link _ c.in_ok-path.ensures.parses.0 (stopped _ e h)))),
        follows_trans _ _ _ c.parse_question.ensures.parses.1 (follows_trans _ _ _ c.binder_after.ensures.parses.1 (follows_trans _ _ _ c.path.ensures.parses.1 c.signed.ensures.parses.1)),
      );
    }

pub returns : goal.returns
unfolding trait_after
returns g c =
    record {
      parses = (
        told_by c.trait_of.result c.signed.new.input (link _ c.in_ok-maybe.ensures.parses.0 (link _ c.in_ok-lifetimes.ensures.parses.0 (link _ c.in_ok-path.ensures.parses.0 (link _ c.in_ok-path-2.ensures.parses.0 refl)))) c.trait_of.ensures.reads,
        follows_trans _ _ _ c.parse_question.ensures.parses.1 (follows_trans _ _ _ c.binder_after.ensures.parses.1 (follows_trans _ _ _ c.path.ensures.parses.1 c.signed.ensures.parses.1)),
      );
    }
