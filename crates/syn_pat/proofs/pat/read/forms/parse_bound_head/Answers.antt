use Rattle.std.proofs.Common.{refl}
use Rattle.syn_pat.specs.pat.Reading.{bound_head}
use Rattle.token_core.proofs.Suffixes.{follows_trans}
use Rattle.token_core.proofs.Steps.{link}
use Rattle.syn_forms.proofs.lists_laws.Turns.{passed_on, stopped}
use Rattle.syn_forms.proofs.nested_laws.Ahead.{ahead_follows}
use Rattle.syn_pat.proofs.pat.read.forms.parse_bound_head.Goals as goal

pub returns-in_err-by_ref-clause-parses : goal.returns-in_err-by_ref-clause-parses
unfolding bound_head
returns-in_err-by_ref-clause-parses c =
    let e = c.in_err-by_ref.field-0.0 in
    (passed_on _ _ _ _ e c.from_residual.ensures c.in_err-by_ref.ensures.parses.0 (λ h. stopped _ e h), c.parse_ref.ensures.parses.1)

pub returns-in_err-by_ref-clause-fewer : goal.returns-in_err-by_ref-clause-fewer
returns-in_err-by_ref-clause-fewer c = ahead_follows _ _ c.parse_ref.ensures.parses.1

pub returns-in_err-mutability-clause-parses : goal.returns-in_err-mutability-clause-parses
unfolding bound_head
returns-in_err-mutability-clause-parses c =
    let e = c.in_err-mutability.field-0.0 in (
      passed_on _ _ _ _ e c.from_residual-in_err-mutability.ensures c.in_err-mutability.ensures.parses.0 (λ h. link _ c.in_ok-by_ref.ensures.parses.0 (stopped _ e h)),
      follows_trans _ _ _ c.parse_ref.ensures.parses.1 c.parse_mut.ensures.parses.1,
    )

pub returns-in_err-mutability-clause-fewer : goal.returns-in_err-mutability-clause-fewer
returns-in_err-mutability-clause-fewer c = ahead_follows _ _ (follows_trans _ _ _ c.parse_ref.ensures.parses.1 c.parse_mut.ensures.parses.1)

pub returns-in_err-ident-clause-parses : goal.returns-in_err-ident-clause-parses
unfolding bound_head
returns-in_err-ident-clause-parses c =
    let e = c.in_err-ident.field-0.0 in (
      passed_on _ _ _ _ e c.from_residual-in_err-ident.ensures c.in_err-ident.ensures.parses.0 (λ h. link _ c.in_ok-by_ref.ensures.parses.0 (link _ c.in_ok-mutability.ensures.parses.0 (stopped _ e h))),
      follows_trans _ _ _ c.parse_ref.ensures.parses.1 (follows_trans _ _ _ c.parse_mut.ensures.parses.1 c.parse_bound_name.ensures.parses.1),
    )

pub returns-in_err-ident-clause-fewer : goal.returns-in_err-ident-clause-fewer
returns-in_err-ident-clause-fewer c = ahead_follows _ _ (follows_trans _ _ _ c.parse_ref.ensures.parses.1 (follows_trans _ _ _ c.parse_mut.ensures.parses.1 c.parse_bound_name.ensures.parses.1))

pub returns-clause-parses : goal.returns-clause-parses
unfolding bound_head
returns-clause-parses c = (
  link _ c.in_ok-by_ref.ensures.parses.0 (link _ c.in_ok-mutability.ensures.parses.0 (link _ c.in_ok-ident.ensures.parses.0 refl)),
  follows_trans _ _ _ c.parse_ref.ensures.parses.1 (follows_trans _ _ _ c.parse_mut.ensures.parses.1 c.parse_bound_name.ensures.parses.1),
)

pub returns-clause-fewer : goal.returns-clause-fewer
returns-clause-fewer c = ahead_follows _ _ (follows_trans _ _ _ c.parse_ref.ensures.parses.1 (follows_trans _ _ _ c.parse_mut.ensures.parses.1 c.parse_bound_name.ensures.parses.1))
