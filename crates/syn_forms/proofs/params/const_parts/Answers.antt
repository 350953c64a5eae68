use Rattle.std.proofs.Common.{refl, arith}
use Rattle.token_core.proofs.Suffixes.{follows_trans}
use Rattle.token_core.proofs.Steps.{link}
use Rattle.syn_forms.specs.params.Reading.{const_parts}
use Rattle.syn_forms.proofs.lists_laws.Turns.{passed_on, stopped}
use Rattle.syn_forms.proofs.nested_laws.Ahead.{ahead_follows}
use Rattle.syn_forms.proofs.params.const_parts.Goals as goal

pub returns-in_err-const_token-clause-parses : goal.returns-in_err-const_token-clause-parses
unfolding const_parts
returns-in_err-const_token-clause-parses g c =
    let e = c.in_err-const_token.field-0.0 in (
      passed_on _ _ _ _ e c.from_residual.ensures c.in_err-const_token.ensures.parses.0 (λ h. stopped _ e h),
      c.parse_const.ensures.parses.1,
    )

pub returns-in_err-ident-clause-parses : goal.returns-in_err-ident-clause-parses
unfolding const_parts
returns-in_err-ident-clause-parses g c =
    let e = c.in_err-ident.field-0.0 in (
      passed_on _ _ _ _ e c.from_residual-in_err-ident.ensures c.in_err-ident.ensures.parses.0 (λ h. link _ c.in_ok-const_token.ensures.parses.0 (stopped _ e h)),
      follows_trans _ _ _ c.parse_const.ensures.parses.1 c.parse_ident.ensures.parses.1,
    )

pub returns-in_err-colon_token-clause-parses : goal.returns-in_err-colon_token-clause-parses
unfolding const_parts
returns-in_err-colon_token-clause-parses g c =
    let e = c.in_err-colon_token.field-0.0 in (
      passed_on _ _ _ _ e c.from_residual-in_err-colon_token.ensures c.in_err-colon_token.ensures.parses.0 (λ h. link _ c.in_ok-const_token.ensures.parses.0 (link _ c.in_ok-ident.ensures.parses.0 (stopped _ e h))),
      follows_trans _ _ _ c.parse_const.ensures.parses.1 (follows_trans _ _ _ c.parse_ident.ensures.parses.1 c.parse_colon.ensures.parses.1),
    )

pub value-requires-clause-few : goal.value-requires-clause-few
value-requires-clause-few g c =
    let few = c.requires.few in
    let less = c.in_ok-const_token.ensures.taken in
    let le = ahead_follows _ _ (follows_trans _ _ _ c.parse_ident.ensures.parses.1 c.parse_colon.ensures.parses.1) in
    omega (arith, few, less, le)

pub returns-in_err-ty-clause-parses : goal.returns-in_err-ty-clause-parses
unfolding const_parts
returns-in_err-ty-clause-parses g c =
    let e = c.in_err-ty.field-0.0 in (
      passed_on _ _ _ _ e c.from_residual-in_err-ty.ensures c.in_err-ty.ensures.parses.0 (λ h. link _ c.in_ok-const_token.ensures.parses.0 (link _ c.in_ok-ident.ensures.parses.0 (link _ c.in_ok-colon_token.ensures.parses.0 (stopped _ e h)))),
      follows_trans _ _ _ c.parse_const.ensures.parses.1 (follows_trans _ _ _ c.parse_ident.ensures.parses.1 (follows_trans _ _ _ c.parse_colon.ensures.parses.1 c.value.ensures.parses.1)),
    )

pub returns-in_err-default-clause-parses : goal.returns-in_err-default-clause-parses
unfolding const_parts
returns-in_err-default-clause-parses g c =
    let e = c.in_err-default.field-0.0 in (
      passed_on _ _ _ _ e c.from_residual-in_err-default.ensures c.in_err-default.ensures.parses.0 (λ h. link _ c.in_ok-const_token.ensures.parses.0 (link _ c.in_ok-ident.ensures.parses.0 (link _ c.in_ok-colon_token.ensures.parses.0 (link _ c.in_ok-ty.ensures.parses.0 (stopped _ e h))))),
      follows_trans _ _ _ c.parse_const.ensures.parses.1 (follows_trans _ _ _ c.parse_ident.ensures.parses.1 (follows_trans _ _ _ c.parse_colon.ensures.parses.1 (follows_trans _ _ _ c.value.ensures.parses.1 c.parse_const_default.ensures.parses.1))),
    )

pub returns-clause-parses : goal.returns-clause-parses
unfolding const_parts
returns-clause-parses g c = (
  link _ c.in_ok-const_token.ensures.parses.0 (link _ c.in_ok-ident.ensures.parses.0 (link _ c.in_ok-colon_token.ensures.parses.0 (link _ c.in_ok-ty.ensures.parses.0 (link _ c.in_ok-default.ensures.parses.0 refl)))),
  follows_trans _ _ _ c.parse_const.ensures.parses.1 (follows_trans _ _ _ c.parse_ident.ensures.parses.1 (follows_trans _ _ _ c.parse_colon.ensures.parses.1 (follows_trans _ _ _ c.value.ensures.parses.1 c.parse_const_default.ensures.parses.1))),
)

pub returns-clause-taken : goal.returns-clause-taken
returns-clause-taken g c =
    let less = c.in_ok-const_token.ensures.taken in
    let le = ahead_follows _ _ (follows_trans _ _ _ c.parse_ident.ensures.parses.1 (follows_trans _ _ _ c.parse_colon.ensures.parses.1 (follows_trans _ _ _ c.value.ensures.parses.1 c.parse_const_default.ensures.parses.1))) in
    omega (arith, less, le)
