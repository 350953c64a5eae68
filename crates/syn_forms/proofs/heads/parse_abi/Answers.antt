use Rattle.std.proofs.Common.{refl, arith}
use Rattle.token_core.proofs.Suffixes.{follows_trans}
use Rattle.token_core.proofs.Steps.{link}
use Rattle.token_core.specs.Lits.{sees_str, read_str}
use Rattle.syn_path.proofs.Steps.{optional_read, optional_refused}
use Rattle.syn_forms.specs.heads.Reading.{abi}
use Rattle.syn_forms.proofs.lists_laws.Turns.{passed_on, stopped}
use Rattle.syn_forms.proofs.nested_laws.Ahead.{ahead_follows}
use Rattle.syn_forms.proofs.heads.parse_abi.Goals as goal

pub returns-in_err-extern_token-clause-parses : goal.returns-in_err-extern_token-clause-parses
unfolding abi
returns-in_err-extern_token-clause-parses c =
    let e = c.in_err-extern_token.field-0.0 in (
      passed_on _ _ _ _ e c.from_residual.ensures c.in_err-extern_token.ensures.parses.0 (λ h. stopped _ e h),
      c.parse_extern.ensures.parses.1,
    )

pub returns-in_err-name-clause-parses : goal.returns-in_err-name-clause-parses
unfolding abi
returns-in_err-name-clause-parses c =
    let e = c.in_err-name.field-0.0 in (
      passed_on _ _ _ _ e c.from_residual-in_err-name.ensures (λ k. optional_refused sees_str read_str _ e (c.in_err-name.ensures.reads k)) (λ h. link _ c.in_ok-extern_token.ensures.parses.0 (stopped _ e h)),
      follows_trans _ _ _ c.parse_extern.ensures.parses.1 c.parse_option.ensures.within,
    )

pub returns-clause-parses : goal.returns-clause-parses
unfolding abi
returns-clause-parses c = (
  link _ c.in_ok-extern_token.ensures.parses.0 (link _ (optional_read sees_str read_str _ _ _ c.in_ok-name.ensures.reads) refl),
  follows_trans _ _ _ c.parse_extern.ensures.parses.1 c.parse_option.ensures.within,
)

pub returns-clause-taken : goal.returns-clause-taken
returns-clause-taken c =
    let less = c.in_ok-extern_token.ensures.taken in
    let le = ahead_follows _ _ c.parse_option.ensures.within in
    omega (arith, less, le)
