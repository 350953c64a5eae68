use Rattle.std.proofs.Common.{true, refl, sym}
use Rattle.syn_generics.specs.generics.Alone.{optional_where_clause}
use Rattle.token_core.proofs.Steps.{chosen, link}
use Rattle.syn_forms.proofs.lists_laws.Turns.{passed_on, stopped}
use Rattle.syn_generics.proofs.generics.declared.parse_optional_where_clause.Goals as goal

pub returns-in_err-parse_where_clause : goal.returns-in_err-parse_where_clause
unfolding optional_where_clause
returns-in_err-parse_where_clause g c =
    let e = c.in_err-parse_where_clause.field-0.0 in
    record {
      parses = (
        passed_on _ _ _ _ e c.from_residual.ensures c.in_err-parse_where_clause.ensures.parses.0 (λ h. chosen _ true _ _ _ _ (sym c.if-not-peek.ensures) (stopped _ e h)),
        c.parse_where_clause.ensures.parses.1,
      );
    }

pub returns : goal.returns
unfolding optional_where_clause
returns g c =
    record { parses = (chosen _ true _ _ _ _ (sym c.if-not-peek.ensures) (link _ c.in_ok-parse_where_clause.ensures.parses.0 refl), c.parse_where_clause.ensures.parses.1) }
