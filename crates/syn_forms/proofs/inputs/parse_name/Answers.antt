use Rattle.std.proofs.Common.{refl}
use Rattle.token_core.proofs.Suffixes.{follows_trans}
use Rattle.token_core.proofs.Steps.{link}
use Rattle.syn_forms.specs.inputs.Reading.{name}
use Rattle.syn_forms.proofs.lists_laws.Turns.{passed_on, stopped}
use Rattle.syn_forms.proofs.nested_laws.Ahead.{ahead_follows}
use Rattle.syn_forms.proofs.inputs.parse_name.Goals as goal

pub returns-in_err-ident-clause-parses : goal.returns-in_err-ident-clause-parses
unfolding name
returns-in_err-ident-clause-parses c =
    let e = c.in_err-ident.field-0.0 in (
      passed_on _ _ _ _ e c.from_residual.ensures c.in_err-ident.ensures.parses.0 (λ h. stopped _ e h),
      c.parse_any_ident.ensures.parses.1,
    )

pub returns-in_err-ident-clause-fewer : goal.returns-in_err-ident-clause-fewer
returns-in_err-ident-clause-fewer c = ahead_follows _ _ c.parse_any_ident.ensures.parses.1

pub returns-in_err-colon_token-clause-parses : goal.returns-in_err-colon_token-clause-parses
unfolding name
returns-in_err-colon_token-clause-parses c =
    let e = c.in_err-colon_token.field-0.0 in (
      passed_on _ _ _ _ e c.from_residual-in_err-colon_token.ensures c.in_err-colon_token.ensures.parses.0 (λ h. link _ c.in_ok-ident.ensures.parses.0 (stopped _ e h)),
      follows_trans _ _ _ c.parse_any_ident.ensures.parses.1 c.parse_colon.ensures.parses.1,
    )

pub returns-in_err-colon_token-clause-fewer : goal.returns-in_err-colon_token-clause-fewer
returns-in_err-colon_token-clause-fewer c = ahead_follows _ _ (follows_trans _ _ _ c.parse_any_ident.ensures.parses.1 c.parse_colon.ensures.parses.1)

pub returns-clause-parses : goal.returns-clause-parses
unfolding name
returns-clause-parses c = (
  link _ c.in_ok-ident.ensures.parses.0 (link _ c.in_ok-colon_token.ensures.parses.0 refl),
  follows_trans _ _ _ c.parse_any_ident.ensures.parses.1 c.parse_colon.ensures.parses.1,
)

pub returns-clause-fewer : goal.returns-clause-fewer
returns-clause-fewer c = ahead_follows _ _ (follows_trans _ _ _ c.parse_any_ident.ensures.parses.1 c.parse_colon.ensures.parses.1)
