use Rattle.std.proofs.Common.{true, false, refl, sym}
use Rattle.syn_pat.specs.pat.Reading.{by_mark}
use Rattle.token_core.proofs.Steps.{chosen, link}
use Rattle.syn_forms.proofs.lists_laws.Turns.{passed_on, stopped, told_by}
use Rattle.syn_pat.proofs.patterns.Patterns.by_mark.Goals as goal

pub returns-in_err-reference : goal.returns-in_err-reference
unfolding by_mark
returns-in_err-reference g c =
    let e = c.in_err-reference.field-0.0 in
    record {
      parses = (
        passed_on _ _ _ _ e c.from_residual.ensures c.in_err-reference.ensures.parses.0 (λ h. chosen _ true _ _ _ _ (sym c.if-peek.ensures) (stopped _ e h)),
        c.reference.ensures.parses.1,
      );
    }

pub returns-then-peek : goal.returns-then-peek
unfolding by_mark
returns-then-peek g c =
    record { parses = (chosen _ true _ _ _ _ (sym c.if-peek.ensures) (link _ c.in_ok-reference.ensures.parses.0 refl), c.reference.ensures.parses.1) }

pub returns-then-peek-2 : goal.returns-then-peek-2
unfolding by_mark
returns-then-peek-2 g c =
    record {
      parses = (
        told_by c.paren_or_tuple.result c.paren_or_tuple.new.input (chosen _ false _ _ _ _ (sym c.if-peek.ensures) (chosen _ true _ _ _ _ (sym c.if-peek-2.ensures) refl)) c.paren_or_tuple.ensures.parses.0,
        c.paren_or_tuple.ensures.parses.1,
      );
    }

pub returns-in_err-slice : goal.returns-in_err-slice
unfolding by_mark
returns-in_err-slice g c =
    let e = c.in_err-slice.field-0.0 in
    record {
      parses = (
        passed_on _ _ _ _ e c.from_residual-in_err-slice.ensures c.in_err-slice.ensures.parses.0 (λ h. chosen _ false _ _ _ _ (sym c.if-peek.ensures) (chosen _ false _ _ _ _ (sym c.if-peek-2.ensures) (chosen _ true _ _ _ _ (sym c.if-peek-3.ensures) (stopped _ e h)))),
        c.slice.ensures.parses.1,
      );
    }

pub returns-then-peek-3 : goal.returns-then-peek-3
unfolding by_mark
returns-then-peek-3 g c =
    record {
      parses = (
        chosen _ false _ _ _ _ (sym c.if-peek.ensures) (chosen _ false _ _ _ _ (sym c.if-peek-2.ensures) (chosen _ true _ _ _ _ (sym c.if-peek-3.ensures) (link _ c.in_ok-slice.ensures.parses.0 refl))),
        c.slice.ensures.parses.1,
      );
    }

pub returns-then-sees_half_open : goal.returns-then-sees_half_open
unfolding by_mark
returns-then-sees_half_open g c =
    record {
      parses = (
        told_by c.parse_half_open.result c.parse_half_open.new.input (chosen _ false _ _ _ _ (sym c.if-peek.ensures) (chosen _ false _ _ _ _ (sym c.if-peek-2.ensures) (chosen _ false _ _ _ _ (sym c.if-peek-3.ensures) (chosen _ true _ _ _ _ (sym c.if-sees_half_open.ensures) refl)))) c.parse_half_open.ensures.parses.0,
        c.parse_half_open.ensures.parses.1,
      );
    }
