use Rattle.std.proofs.Common.{Ok, sym, ap, arith}
use Rattle.syn_generics.specs.generics.Declared.{type_after}
use Rattle.syn_generics.specs.generics.Params.{predicate_type_of}
use Rattle.token_core.proofs.Suffixes.{follows_trans}
use Rattle.token_core.proofs.Steps.{link}
use Rattle.syn_forms.proofs.lists_laws.Turns.{passed_on, stopped}
use Rattle.syn_forms.proofs.nested_laws.Ahead.{ahead_follows}
use Rattle.syn_generics.proofs.generics.declared.type_after.Goals as goal

pub returns-in_err-lifetimes : goal.returns-in_err-lifetimes
unfolding type_after
returns-in_err-lifetimes g c =
    let e = c.in_err-lifetimes.field-0.0 in
    record { parses = (passed_on _ _ _ _ e c.from_residual.ensures c.in_err-lifetimes.ensures.parses.0 (λ h. stopped _ e h), c.optional_binder_from.ensures.parses.1) }

pub returns-in_err-bounded_ty : goal.returns-in_err-bounded_ty
unfolding type_after
returns-in_err-bounded_ty g c =
    let e = c.in_err-bounded_ty.field-0.0 in
    record {
      parses = (
        passed_on _ _ _ _ e c.from_residual-in_err-bounded_ty.ensures c.in_err-bounded_ty.ensures.parses.0 (λ h. link _ c.in_ok-lifetimes.ensures.parses.0 (stopped _ e h)),
        follows_trans _ _ _ c.optional_binder_from.ensures.parses.1 c.read_type.ensures.parses.1,
      );
    }

pub returns-in_err-colon_token : goal.returns-in_err-colon_token
unfolding type_after
returns-in_err-colon_token g c =
    let e = c.in_err-colon_token.field-0.0 in
    record {
      parses = (
        passed_on _ _ _ _ e c.from_residual-in_err-colon_token.ensures c.in_err-colon_token.ensures.parses.0 (λ h. link _ c.in_ok-lifetimes.ensures.parses.0 (link _ c.in_ok-bounded_ty.ensures.parses.0 (stopped _ e h))),
        follows_trans _ _ _ c.optional_binder_from.ensures.parses.1 (follows_trans _ _ _ c.read_type.ensures.parses.1 c.parse_colon.ensures.parses.1),
      );
    }

pub returns-in_err-bounds : goal.returns-in_err-bounds
unfolding type_after
returns-in_err-bounds g c =
    let e = c.in_err-bounds.field-0.0 in
    record {
      parses = (
        passed_on _ _ _ _ e c.from_residual-in_err-bounds.ensures c.in_err-bounds.ensures.parses.0 (λ h. link _ c.in_ok-lifetimes.ensures.parses.0 (link _ c.in_ok-bounded_ty.ensures.parses.0 (link _ c.in_ok-colon_token.ensures.parses.0 (stopped _ e h)))),
        follows_trans _ _ _ c.optional_binder_from.ensures.parses.1 (follows_trans _ _ _ c.read_type.ensures.parses.1 (follows_trans _ _ _ c.parse_colon.ensures.parses.1 c.predicate_bounds.ensures.parses.1)),
      );
    }

pub predicate_bounds-requires : goal.predicate_bounds-requires
predicate_bounds-requires g c =
    let few = c.requires.few in
    let less = c.in_ok-colon_token.ensures.taken in
    let le = ahead_follows _ _ (follows_trans _ _ _ c.optional_binder_from.ensures.parses.1 c.read_type.ensures.parses.1) in
    record { few = omega (arith, few, less, le) }

pub returns : goal.returns
unfolding type_after
returns g c =
    record {
      parses = (
        link _ c.in_ok-lifetimes.ensures.parses.0 (link _ c.in_ok-bounded_ty.ensures.parses.0 (link _ c.in_ok-colon_token.ensures.parses.0 (link _ c.in_ok-bounds.ensures.parses.0 (ap (λ z. Ok (predicate_type_of c.args.attrs c.in_ok-lifetimes.lifetimes z c.in_ok-colon_token.colon_token c.in_ok-bounds.bounds, c.predicate_bounds.new.input)) (sym c.into_inner.ensures))))),
        follows_trans _ _ _ c.optional_binder_from.ensures.parses.1 (follows_trans _ _ _ c.read_type.ensures.parses.1 (follows_trans _ _ _ c.parse_colon.ensures.parses.1 c.predicate_bounds.ensures.parses.1)),
      );
    }
