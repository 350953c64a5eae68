use Rattle.std.proofs.Common.{Ok, sym, ap}
use Rattle.token_core.proofs.Steps.{link}
use Rattle.syn_forms.proofs.lists_laws.Turns.{passed_on, stopped, told_by}
use Rattle.syn_ty.proofs.grammar.Grammar.constraint.Goals as goal

pub returns-in_err-bounds : goal.returns-in_err-bounds
returns-in_err-bounds g c =
    let e = c.in_err-bounds.field-0.0 in
    record { parses = (passed_on _ _ _ _ e c.from_residual.ensures c.in_err-bounds.ensures.parses.0 (λ h. stopped _ e h), c.constraint_bounds.ensures.parses.1) }

pub returns : goal.returns
returns g c = record { parses = (told_by _ _ (link _ c.in_ok-bounds.ensures.parses.0 (ap (λ z. Ok (z, c.constraint_bounds.new.input)) (sym c.constraint_of.ensures))) c.boxed_argument.ensures.reads, c.constraint_bounds.ensures.parses.1) }
