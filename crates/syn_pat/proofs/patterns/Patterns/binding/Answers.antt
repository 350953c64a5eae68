use Rattle.std.proofs.Common.{Ok, sym, ap, arith}
use Rattle.syn_pat.specs.pat.Reading.{binding}
use Rattle.syn_pat.specs.pat.Pats.{binding_of}
use Rattle.token_core.proofs.Suffixes.{follows_trans}
use Rattle.token_core.proofs.Steps.{link}
use Rattle.syn_forms.proofs.lists_laws.Turns.{passed_on, stopped}
use Rattle.syn_forms.proofs.nested_laws.Ahead.{ahead_follows}
use Rattle.syn_pat.proofs.patterns.Patterns.binding.Goals as goal

pub returns-in_err-by_ref : goal.returns-in_err-by_ref
unfolding binding
returns-in_err-by_ref g c =
    let e = c.in_err-by_ref.field-0.0 in
    record { parses = (passed_on _ _ _ _ e c.from_residual.ensures c.in_err-by_ref.ensures.parses.0 (λ h. stopped _ e h), c.parse_bound_head.ensures.parses.1) }

pub subpat-requires-clause-few : goal.subpat-requires-clause-few
subpat-requires-clause-few g c =
    let few = c.requires.few in
    let le = ahead_follows _ _ c.parse_bound_head.ensures.parses.1 in
    omega (arith, few, le)

pub subpat-requires-clause-patterns : goal.subpat-requires-clause-patterns
subpat-requires-clause-patterns g c = c.requires.patterns

pub returns-in_err-subpat : goal.returns-in_err-subpat
unfolding binding
returns-in_err-subpat g c =
    let e = c.in_err-subpat.field-0.0 in
    record {
      parses = (
        passed_on _ _ _ _ e c.from_residual-in_err-subpat.ensures c.in_err-subpat.ensures.parses.0 (λ h. link _ c.in_ok-by_ref.ensures.parses.0 (stopped _ e h)),
        follows_trans _ _ _ c.parse_bound_head.ensures.parses.1 c.subpat.ensures.parses.1,
      );
    }

pub returns : goal.returns
unfolding binding
returns g c =
    record {
      parses = (
        link _ c.in_ok-by_ref.ensures.parses.0 (link _ c.in_ok-subpat.ensures.parses.0 (ap (λ z. Ok (binding_of z c.in_ok-by_ref.by_ref c.in_ok-by_ref.mutability c.in_ok-by_ref.ident c.in_ok-subpat.subpat, c.subpat.new.input)) (sym c.new.ensures))),
        follows_trans _ _ _ c.parse_bound_head.ensures.parses.1 c.subpat.ensures.parses.1,
      );
    }
