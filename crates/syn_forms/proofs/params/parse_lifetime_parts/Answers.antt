use Rattle.std.proofs.Common.{refl, arith}
use Rattle.token_core.proofs.Suffixes.{follows_trans}
use Rattle.token_core.proofs.Steps.{link}
use Rattle.syn_forms.specs.params.Reading.{lifetime_parts}
use Rattle.syn_forms.proofs.lists_laws.Turns.{passed_on, stopped}
use Rattle.syn_forms.proofs.nested_laws.Ahead.{ahead_follows}
use Rattle.syn_forms.proofs.params.parse_lifetime_parts.Goals as goal

pub returns-in_err-lifetime-clause-parses : goal.returns-in_err-lifetime-clause-parses
unfolding lifetime_parts
returns-in_err-lifetime-clause-parses c =
    let e = c.in_err-lifetime.field-0.0 in (
      passed_on _ _ _ _ e c.from_residual.ensures c.in_err-lifetime.ensures.parses.0 (λ h. stopped _ e h),
      c.parse_any_lifetime.ensures.parses.1,
    )

pub returns-in_err-colon_token-clause-parses : goal.returns-in_err-colon_token-clause-parses
unfolding lifetime_parts
returns-in_err-colon_token-clause-parses c =
    let e = c.in_err-colon_token.field-0.0 in (
      passed_on _ _ _ _ e c.from_residual-in_err-colon_token.ensures c.in_err-colon_token.ensures.parses.0 (λ h. link _ c.in_ok-lifetime.ensures.parses.0 (stopped _ e h)),
      follows_trans _ _ _ c.parse_any_lifetime.ensures.parses.1 c.parse_optional_colon.ensures.parses.1,
    )

pub returns-in_err-bounds-clause-parses : goal.returns-in_err-bounds-clause-parses
unfolding lifetime_parts
returns-in_err-bounds-clause-parses c =
    let e = c.in_err-bounds.field-0.0 in (
      passed_on _ _ _ _ e c.from_residual-in_err-bounds.ensures c.in_err-bounds.ensures.parses.0 (λ h. link _ c.in_ok-lifetime.ensures.parses.0 (link _ c.in_ok-colon_token.ensures.parses.0 (stopped _ e h))),
      follows_trans _ _ _ c.parse_any_lifetime.ensures.parses.1 (follows_trans _ _ _ c.parse_optional_colon.ensures.parses.1 c.parse_lifetimes_after.ensures.parses.1),
    )

pub returns-clause-parses : goal.returns-clause-parses
unfolding lifetime_parts
returns-clause-parses c = (
  link _ c.in_ok-lifetime.ensures.parses.0 (link _ c.in_ok-colon_token.ensures.parses.0 (link _ c.in_ok-bounds.ensures.parses.0 refl)),
  follows_trans _ _ _ c.parse_any_lifetime.ensures.parses.1 (follows_trans _ _ _ c.parse_optional_colon.ensures.parses.1 c.parse_lifetimes_after.ensures.parses.1),
)

pub returns-clause-taken : goal.returns-clause-taken
returns-clause-taken c =
    let less = c.in_ok-lifetime.ensures.taken in
    let le = ahead_follows _ _ (follows_trans _ _ _ c.parse_optional_colon.ensures.parses.1 c.parse_lifetimes_after.ensures.parses.1) in
    omega (arith, less, le)
