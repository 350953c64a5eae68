use Rattle.std.proofs.Common.{true, false, refl, sym}
use Rattle.syn_pat.specs.pat.Reading.{by_word}
use Rattle.token_core.proofs.Steps.{chosen, link}
use Rattle.syn_forms.proofs.lists_laws.Turns.{passed_on, stopped, told_by}
use Rattle.syn_pat.proofs.patterns.Patterns.by_word.Goals as goal

pub returns-in_err-parse_wild : goal.returns-in_err-parse_wild
unfolding by_word
returns-in_err-parse_wild g c =
    let e = c.in_err-parse_wild.field-0.0 in
    record {
      parses = (
        passed_on _ _ _ _ e c.from_residual.ensures c.in_err-parse_wild.ensures.parses.0 (λ h. chosen _ true _ _ _ _ (sym c.if-peek.ensures) (stopped _ e h)),
        c.parse_wild.ensures.parses.1,
      );
    }

pub returns-then-peek : goal.returns-then-peek
unfolding by_word
returns-then-peek g c =
    record { parses = (chosen _ true _ _ _ _ (sym c.if-peek.ensures) (link _ c.in_ok-parse_wild.ensures.parses.0 refl), c.parse_wild.ensures.parses.1) }

pub returns-then-peek-2 : goal.returns-then-peek-2
unfolding by_word
returns-then-peek-2 g c =
    record {
      parses = (
        told_by c.box_pat.result c.box_pat.new.input (chosen _ false _ _ _ _ (sym c.if-peek.ensures) (chosen _ true _ _ _ _ (sym c.if-peek-2.ensures) refl)) c.box_pat.ensures.parses.0,
        c.box_pat.ensures.parses.1,
      );
    }

pub returns-then-begins_bound : goal.returns-then-begins_bound
unfolding by_word
returns-then-begins_bound g c =
    record {
      parses = (
        told_by c.parse_bound_or_range.result c.parse_bound_or_range.new.input (chosen _ false _ _ _ _ (sym c.if-peek.ensures) (chosen _ false _ _ _ _ (sym c.if-peek-2.ensures) (chosen _ true _ _ _ _ (sym c.if-begins_bound.ensures) refl))) c.parse_bound_or_range.ensures.parses.0,
        c.parse_bound_or_range.ensures.parses.1,
      );
    }

pub returns-in_err-binding : goal.returns-in_err-binding
unfolding by_word
returns-in_err-binding g c =
    let e = c.in_err-binding.field-0.0 in
    record {
      parses = (
        passed_on _ _ _ _ e c.from_residual-in_err-binding.ensures c.in_err-binding.ensures.parses.0 (λ h. chosen _ false _ _ _ _ (sym c.if-peek.ensures) (chosen _ false _ _ _ _ (sym c.if-peek-2.ensures) (chosen _ false _ _ _ _ (sym c.if-begins_bound.ensures) (chosen _ true _ _ _ _ (sym c.if-begins_binding.ensures) (stopped _ e h))))),
        c.binding.ensures.parses.1,
      );
    }

pub returns-then-begins_binding : goal.returns-then-begins_binding
unfolding by_word
returns-then-begins_binding g c =
    record {
      parses = (
        chosen _ false _ _ _ _ (sym c.if-peek.ensures) (chosen _ false _ _ _ _ (sym c.if-peek-2.ensures) (chosen _ false _ _ _ _ (sym c.if-begins_bound.ensures) (chosen _ true _ _ _ _ (sym c.if-begins_binding.ensures) (link _ c.in_ok-binding.ensures.parses.0 refl)))),
        c.binding.ensures.parses.1,
      );
    }

pub returns : goal.returns
unfolding by_word
returns g c =
    record {
      parses = (
        told_by c.by_mark.result c.by_mark.new.input (chosen _ false _ _ _ _ (sym c.if-peek.ensures) (chosen _ false _ _ _ _ (sym c.if-peek-2.ensures) (chosen _ false _ _ _ _ (sym c.if-begins_bound.ensures) (chosen _ false _ _ _ _ (sym c.if-begins_binding.ensures) refl)))) c.by_mark.ensures.parses.0,
        c.by_mark.ensures.parses.1,
      );
    }
