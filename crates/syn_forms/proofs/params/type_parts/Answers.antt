use Rattle.std.proofs.Common.{refl, arith}
use Rattle.token_core.proofs.Suffixes.{follows_trans}
use Rattle.token_core.proofs.Steps.{link}
use Rattle.syn_forms.specs.params.Reading.{type_parts}
use Rattle.syn_forms.proofs.lists_laws.Turns.{passed_on, stopped}
use Rattle.syn_forms.proofs.nested_laws.Ahead.{ahead_follows}
use Rattle.syn_forms.proofs.params.type_parts.Goals as goal

pub returns-in_err-ident-clause-parses : goal.returns-in_err-ident-clause-parses
unfolding type_parts
returns-in_err-ident-clause-parses g c =
    let e = c.in_err-ident.field-0.0 in (
      passed_on _ _ _ _ e c.from_residual.ensures c.in_err-ident.ensures.parses.0 (λ h. stopped _ e h),
      c.parse_ident.ensures.parses.1,
    )

pub returns-in_err-colon_token-clause-parses : goal.returns-in_err-colon_token-clause-parses
unfolding type_parts
returns-in_err-colon_token-clause-parses g c =
    let e = c.in_err-colon_token.field-0.0 in (
      passed_on _ _ _ _ e c.from_residual-in_err-colon_token.ensures c.in_err-colon_token.ensures.parses.0 (λ h. link _ c.in_ok-ident.ensures.parses.0 (stopped _ e h)),
      follows_trans _ _ _ c.parse_ident.ensures.parses.1 c.parse_optional_colon.ensures.parses.1,
    )

pub bounds_after-requires-clause-few : goal.bounds_after-requires-clause-few
bounds_after-requires-clause-few g c =
    let few = c.requires.few_bounds in
    let less = c.in_ok-ident.ensures.taken in
    let le = ahead_follows _ _ c.parse_optional_colon.ensures.parses.1 in
    omega (arith, few, less, le)

pub returns-in_err-bound_list-clause-parses : goal.returns-in_err-bound_list-clause-parses
unfolding type_parts
returns-in_err-bound_list-clause-parses g c =
    let e = c.in_err-bound_list.field-0.0 in (
      passed_on _ _ _ _ e c.from_residual-in_err-bound_list.ensures c.in_err-bound_list.ensures.parses.0 (λ h. link _ c.in_ok-ident.ensures.parses.0 (link _ c.in_ok-colon_token.ensures.parses.0 (stopped _ e h))),
      follows_trans _ _ _ c.parse_ident.ensures.parses.1 (follows_trans _ _ _ c.parse_optional_colon.ensures.parses.1 c.bounds_after.ensures.parses.1),
    )

pub default_of-requires-clause-few : goal.default_of-requires-clause-few
default_of-requires-clause-few g c =
    let few = c.requires.few_types in
    let le = ahead_follows _ _ (follows_trans _ _ _ c.parse_ident.ensures.parses.1 (follows_trans _ _ _ c.parse_optional_colon.ensures.parses.1 c.bounds_after.ensures.parses.1)) in
    omega (arith, few, le)

pub returns-in_err-default-clause-parses : goal.returns-in_err-default-clause-parses
unfolding type_parts
returns-in_err-default-clause-parses g c =
    let e = c.in_err-default.field-0.0 in (
      passed_on _ _ _ _ e c.from_residual-in_err-default.ensures c.in_err-default.ensures.parses.0 (λ h. link _ c.in_ok-ident.ensures.parses.0 (link _ c.in_ok-colon_token.ensures.parses.0 (link _ c.in_ok-bound_list.ensures.parses.0 (stopped _ e h)))),
      follows_trans _ _ _ c.parse_ident.ensures.parses.1 (follows_trans _ _ _ c.parse_optional_colon.ensures.parses.1 (follows_trans _ _ _ c.bounds_after.ensures.parses.1 c.default_of.ensures.parses.1)),
    )

pub returns-clause-parses : goal.returns-clause-parses
unfolding type_parts
returns-clause-parses g c = (
  link _ c.in_ok-ident.ensures.parses.0 (link _ c.in_ok-colon_token.ensures.parses.0 (link _ c.in_ok-bound_list.ensures.parses.0 (link _ c.in_ok-default.ensures.parses.0 refl))),
  follows_trans _ _ _ c.parse_ident.ensures.parses.1 (follows_trans _ _ _ c.parse_optional_colon.ensures.parses.1 (follows_trans _ _ _ c.bounds_after.ensures.parses.1 c.default_of.ensures.parses.1)),
)

pub returns-clause-taken : goal.returns-clause-taken
returns-clause-taken g c =
    let less = c.in_ok-ident.ensures.taken in
    let le = ahead_follows _ _ (follows_trans _ _ _ c.parse_optional_colon.ensures.parses.1 (follows_trans _ _ _ c.bounds_after.ensures.parses.1 c.default_of.ensures.parses.1)) in
    omega (arith, less, le)
