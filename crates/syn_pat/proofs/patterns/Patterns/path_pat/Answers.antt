use Rattle.std.proofs.Common.{refl, arith}
use Rattle.syn_pat.specs.pat.Reading.{path_pat}
use Rattle.token_core.proofs.Suffixes.{follows_trans}
use Rattle.token_core.proofs.Steps.{link}
use Rattle.syn_forms.proofs.lists_laws.Turns.{passed_on, stopped, told_by}
use Rattle.syn_forms.proofs.nested_laws.Ahead.{ahead_follows}
use Rattle.syn_pat.proofs.patterns.Patterns.path_pat.Goals as goal

pub returns-in_err-qself : goal.returns-in_err-qself
unfolding path_pat
returns-in_err-qself g c =
    let e = c.in_err-qself.field-0.0 in
    record { parses = (passed_on _ _ _ _ e c.from_residual.ensures c.in_err-qself.ensures.parses.0 (λ h. stopped _ e h), c.parse_path.ensures.parses.1) }

pub after_path-requires-clause-patterns : goal.after_path-requires-clause-patterns
after_path-requires-clause-patterns g c = c.requires.patterns

pub after_path-requires-clause-few : goal.after_path-requires-clause-few
after_path-requires-clause-few g c =
    let few = c.requires.few in
    let le = ahead_follows _ _ c.parse_path.ensures.parses.1 in
    omega (arith, few, le)

pub returns : goal.returns
unfolding path_pat
returns g c =
    record {
      parses = (
        told_by c.after_path.result c.after_path.new.input (link _ c.in_ok-qself.ensures.parses.0 refl) c.after_path.ensures.parses.0,
        follows_trans _ _ _ c.parse_path.ensures.parses.1 c.after_path.ensures.parses.1,
      );
    }
