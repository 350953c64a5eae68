use Rattle.std.proofs.Common.{refl, arith}
use Rattle.token_core.proofs.Suffixes.{follows_trans}
use Rattle.token_core.proofs.Steps.{link}
use Rattle.token_core.specs.Tokens as token
use Rattle.syn_path.proofs.Steps.{optional_read, optional_refused}
use Rattle.syn_forms.specs.heads.Reading.{fn_head}
use Rattle.syn_forms.proofs.lists_laws.Turns.{passed_on, stopped}
use Rattle.syn_forms.proofs.nested_laws.Ahead.{ahead_follows}
use Rattle.syn_forms.proofs.heads.parse_fn_head.Goals as goal

pub returns-in_err-unsafety-clause-parses : goal.returns-in_err-unsafety-clause-parses
unfolding fn_head
returns-in_err-unsafety-clause-parses c =
    let e = c.in_err-unsafety.field-0.0 in (
      passed_on _ _ _ _ e c.from_residual.ensures (λ k. optional_refused token.sees_unsafe token.unsafe_word _ e (c.in_err-unsafety.ensures.reads k)) (λ h. stopped _ e h),
      c.parse_option.ensures.within,
    )

pub returns-in_err-abi-clause-parses : goal.returns-in_err-abi-clause-parses
unfolding fn_head
returns-in_err-abi-clause-parses c =
    let e = c.in_err-abi.field-0.0 in (
      passed_on _ _ _ _ e c.from_residual-in_err-abi.ensures c.in_err-abi.ensures.parses.0 (λ h. link _ (optional_read token.sees_unsafe token.unsafe_word _ _ _ c.in_ok-unsafety.ensures.reads) (stopped _ e h)),
      follows_trans _ _ _ c.parse_option.ensures.within c.parse_optional_abi.ensures.parses.1,
    )

pub returns-in_err-fn_token-clause-parses : goal.returns-in_err-fn_token-clause-parses
unfolding fn_head
returns-in_err-fn_token-clause-parses c =
    let e = c.in_err-fn_token.field-0.0 in (
      passed_on _ _ _ _ e c.from_residual-in_err-fn_token.ensures c.in_err-fn_token.ensures.parses.0 (λ h. link _ (optional_read token.sees_unsafe token.unsafe_word _ _ _ c.in_ok-unsafety.ensures.reads) (link _ c.in_ok-abi.ensures.parses.0 (stopped _ e h))),
      follows_trans _ _ _ c.parse_option.ensures.within (follows_trans _ _ _ c.parse_optional_abi.ensures.parses.1 c.parse_fn.ensures.parses.1),
    )

pub returns-clause-parses : goal.returns-clause-parses
unfolding fn_head
returns-clause-parses c = (
  link _ (optional_read token.sees_unsafe token.unsafe_word _ _ _ c.in_ok-unsafety.ensures.reads) (link _ c.in_ok-abi.ensures.parses.0 (link _ c.in_ok-fn_token.ensures.parses.0 refl)),
  follows_trans _ _ _ c.parse_option.ensures.within (follows_trans _ _ _ c.parse_optional_abi.ensures.parses.1 c.parse_fn.ensures.parses.1),
)

pub returns-clause-taken : goal.returns-clause-taken
returns-clause-taken c =
    let less = c.in_ok-fn_token.ensures.taken in
    let le = ahead_follows _ _ (follows_trans _ _ _ c.parse_option.ensures.within c.parse_optional_abi.ensures.parses.1) in
    omega (arith, less, le)
