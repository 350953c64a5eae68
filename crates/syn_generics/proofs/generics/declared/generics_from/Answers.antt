use Rattle.std.proofs.Common.{Ok, true, false, refl, sym, ap}
use Rattle.syn_generics.specs.generics.Declared.{generics}
use Rattle.token_core.proofs.Suffixes.{follows_self}
use Rattle.token_core.proofs.Steps.{chosen, link}
use Rattle.syn_forms.proofs.lists_laws.Turns.{passed_on, stopped}
use Rattle.syn_generics.proofs.generics.declared.generics_from.Goals as goal

pub returns-then-not-peek : goal.returns-then-not-peek
unfolding generics
returns-then-not-peek g c =
    record { parses = (chosen _ false _ _ _ _ (sym c.if-not-peek.ensures) (ap (λ z. Ok (z, c.args.input.now)) (sym c.default.ensures)), follows_self _) }

pub returns-in_err-lt_token : goal.returns-in_err-lt_token
unfolding generics
returns-in_err-lt_token g c =
    let e = c.in_err-lt_token.field-0.0 in
    record {
      parses = (
        passed_on _ _ _ _ e c.from_residual.ensures c.in_err-lt_token.ensures.parses.0 (λ h. chosen _ true _ _ _ _ (sym c.if-not-peek.ensures) (stopped _ e h)),
        c.parse_angled.ensures.parses.1,
      );
    }

pub returns : goal.returns
unfolding generics
returns g c =
    record { parses = (chosen _ true _ _ _ _ (sym c.if-not-peek.ensures) (link _ c.in_ok-lt_token.ensures.parses.0 refl), c.parse_angled.ensures.parses.1) }
