use Rattle.std.proofs.Common.{refl, arith}
use Rattle.syn_pat.specs.pat.Reading.{multi}
use Rattle.token_core.proofs.Suffixes.{follows_trans}
use Rattle.token_core.proofs.Steps.{link}
use Rattle.syn_forms.proofs.lists_laws.Turns.{passed_on, stopped, told_by}
use Rattle.syn_forms.proofs.nested_laws.Ahead.{ahead_follows}
use Rattle.syn_pat.proofs.patterns.Patterns.multi.Goals as goal

pub returns-in_err-first : goal.returns-in_err-first
unfolding multi
returns-in_err-first g c =
    let e = c.in_err-first.field-0.0 in
    record { parses = (passed_on _ _ _ _ e c.from_residual.ensures c.in_err-first.ensures.parses.0 (λ h. stopped _ e h), c.single.ensures.parses.1) }

pub alternatives-requires-clause-patterns : goal.alternatives-requires-clause-patterns
alternatives-requires-clause-patterns g c = c.requires.patterns

pub alternatives-requires-clause-few : goal.alternatives-requires-clause-few
alternatives-requires-clause-few g c =
    let few = c.requires.few in
    let le = ahead_follows _ _ c.single.ensures.parses.1 in
    omega (arith, few, le)

pub returns : goal.returns
unfolding multi
returns g c =
    record {
      parses = (
        told_by c.alternatives.result c.alternatives.new.input (link _ c.in_ok-first.ensures.parses.0 refl) c.alternatives.ensures.parses.0,
        follows_trans _ _ _ c.single.ensures.parses.1 c.alternatives.ensures.parses.1,
      );
    }
