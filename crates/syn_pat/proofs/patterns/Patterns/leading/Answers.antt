use Rattle.std.proofs.Common.{refl, arith}
use Rattle.syn_pat.specs.pat.Reading.{leading}
use Rattle.syn_pat.proofs.pat_laws.Steps.{optional_read, optional_refused}
use Rattle.token_core.specs.Tokens as token
use Rattle.token_core.proofs.Suffixes.{follows_trans}
use Rattle.token_core.proofs.Steps.{link}
use Rattle.syn_forms.proofs.lists_laws.Turns.{passed_on, stopped, told_by}
use Rattle.syn_forms.proofs.nested_laws.Ahead.{ahead_follows}
use Rattle.syn_pat.proofs.patterns.Patterns.leading.Goals as goal

pub returns-in_err-leading_vert : goal.returns-in_err-leading_vert
unfolding leading
returns-in_err-leading_vert g c =
    let e = c.in_err-leading_vert.field-0.0 in
    record { parses = (passed_on _ _ _ _ e c.from_residual.ensures (λ k. optional_refused token.sees_bar token.bar _ e (c.in_err-leading_vert.ensures.reads k)) (λ h. stopped _ e h), c.parse_option.ensures.within) }

pub single-requires-clause-patterns : goal.single-requires-clause-patterns
single-requires-clause-patterns g c = c.requires.patterns

pub single-requires-clause-few : goal.single-requires-clause-few
single-requires-clause-few g c =
    let few = c.requires.few in
    let le = ahead_follows _ _ c.parse_option.ensures.within in
    omega (arith, few, le)

pub returns-in_err-first : goal.returns-in_err-first
unfolding leading
returns-in_err-first g c =
    let e = c.in_err-first.field-0.0 in
    record {
      parses = (
        passed_on _ _ _ _ e c.from_residual-in_err-first.ensures c.in_err-first.ensures.parses.0 (λ h. link _ (optional_read token.sees_bar token.bar _ _ _ c.in_ok-leading_vert.ensures.reads) (stopped _ e h)),
        follows_trans _ _ _ c.parse_option.ensures.within c.single.ensures.parses.1,
      );
    }

pub alternatives-requires-clause-patterns : goal.alternatives-requires-clause-patterns
alternatives-requires-clause-patterns g c = c.requires.patterns

pub alternatives-requires-clause-few : goal.alternatives-requires-clause-few
alternatives-requires-clause-few g c =
    let few = c.requires.few in
    let le = ahead_follows _ _ (follows_trans _ _ _ c.parse_option.ensures.within c.single.ensures.parses.1) in
    omega (arith, few, le)

pub returns : goal.returns
unfolding leading
returns g c =
    record {
      parses = (
        told_by c.alternatives.result c.alternatives.new.input (link _ (optional_read token.sees_bar token.bar _ _ _ c.in_ok-leading_vert.ensures.reads) (link _ c.in_ok-first.ensures.parses.0 refl)) c.alternatives.ensures.parses.0,
        follows_trans _ _ _ c.parse_option.ensures.within (follows_trans _ _ _ c.single.ensures.parses.1 c.alternatives.ensures.parses.1),
      );
    }
