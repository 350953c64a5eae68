use Rattle.std.proofs.Common.{Ok, true, false, length, sym, ap, ◌∙◌}
use Rattle.token_core.proofs.Steps.{chosen, link}
use Rattle.syn_forms.specs.declared.places.TypePlace.TheVariants.{Plus}
use Rattle.syn_forms.proofs.lists_laws.Turns.{passed_on, stopped, told_by}
use Rattle.syn_ty.specs.declared.path.GenericArgumentOf.TheVariants as arguments
use Rattle.syn_ty.specs.path.Paths.{assoc_type_of}
use Rattle.syn_ty.specs.ty.Knot as knot
use Rattle.syn_ty.specs.ty.Points.{a_type}
use Rattle.syn_ty.proofs.grammar.Grammar.assoc.Goals as goal

pub returns-in_err-value : goal.returns-in_err-value
returns-in_err-value g c =
    let e = c.in_err-value.field-0.0 in
    record { parses = (passed_on _ _ _ _ e c.from_residual.ensures c.in_err-value.ensures.reads (λ h. chosen _ true _ _ _ _ (sym c.if-peek_const.ensures) (stopped _ e h)), c.read_const_argument.ensures.within) }

pub returns-then-peek_const : goal.returns-then-peek_const
returns-then-peek_const g c =
    record { parses = (told_by _ _ (chosen _ true _ _ _ _ (sym c.if-peek_const.ensures) (link _ c.in_ok-value.ensures.reads (ap (λ z. Ok (z, c.read_const_argument.new.input)) (sym c.assoc_const.ensures)))) c.boxed_argument.ensures.reads, c.read_const_argument.ensures.within) }

pub returns-in_err-ty : goal.returns-in_err-ty
returns-in_err-ty g c =
    let e = c.in_err-ty.field-0.0 in
    let at = ap (λ b. knot.reads_below g.A.Attributes.reads g.E.Value.reads (length b) (a_type Plus) c.args.input.now) c.types.ensures.begin in
    record { parses = (passed_on _ _ _ _ e c.from_residual-in_err-ty.ensures c.in_err-ty.ensures.parses.0 (λ h. chosen _ false _ _ _ _ (sym c.if-peek_const.ensures) (stopped _ e (sym at ∙ h))), c.boxed.ensures.parses.1) }

pub returns : goal.returns
returns g c =
    let at = ap (λ b. knot.reads_below g.A.Attributes.reads g.E.Value.reads (length b) (a_type Plus) c.args.input.now) c.types.ensures.begin in
    let made = ap (λ z. Ok (arguments.AssocType (assoc_type_of c.args.item.0 c.args.item.1 c.args.eq_token z), c.boxed.new.input)) (sym c.into_inner.ensures) ∙ ap (λ z. Ok (z, c.boxed.new.input)) (sym c.assoc_type.ensures) in
    record { parses = (told_by _ _ (chosen _ false _ _ _ _ (sym c.if-peek_const.ensures) (link _ (sym at ∙ c.in_ok-ty.ensures.parses.0) made)) c.boxed_argument-2.ensures.reads, c.boxed.ensures.parses.1) }
