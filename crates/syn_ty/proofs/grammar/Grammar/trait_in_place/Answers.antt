use Rattle.std.proofs.Common.{Ok, true, false, length, refl, sym, ap, ◌∙◌}
use Rattle.token_core.proofs.Steps.{chosen, link}
use Rattle.syn_forms.specs.groups.Reading.{in_parens}
use Rattle.syn_forms.proofs.lists_laws.Turns.{passed_on, stopped, told_by}
use Rattle.syn_ty.specs.declared.generics.TypeParamBoundOf.TheVariants as b
use Rattle.syn_ty.specs.generics.Reading.{trait_in, trait_in_place}
use Rattle.syn_ty.specs.ty.Knot as knot
use Rattle.syn_ty.proofs.grammar.Grammar.trait_in_place.Goals as goal

pub returns-in_err-paren_token : goal.returns-in_err-paren_token
unfolding trait_in_place
returns-in_err-paren_token g c =
    let e = c.in_err-paren_token.field-0.0 in
    let r = knot.reads_below g.A.Attributes.reads g.E.Value.reads (length c.args.self.now.begin) in
    record { parses = (passed_on _ _ _ _ e c.from_residual.ensures c.in_err-paren_token.ensures.parses.0 (λ h. chosen _ true _ _ _ _ (sym c.if-peek.ensures) (stopped _ e (ap (λ z. in_parens (trait_in r z) c.args.input.now) (sym c.allows_const-consts.ensures) ∙ h))), c.trait_in_parens.ensures.parses.1) }

pub returns-then-peek : goal.returns-then-peek
unfolding trait_in_place
returns-then-peek g c =
    let r = knot.reads_below g.A.Attributes.reads g.E.Value.reads (length c.args.self.now.begin) in
    record { parses = (told_by _ _ (chosen _ true _ _ _ _ (sym c.if-peek.ensures) (link _ (ap (λ z. in_parens (trait_in r z) c.args.input.now) (sym c.allows_const-consts.ensures) ∙ c.in_ok-paren_token.ensures.parses.0) (ap (λ z. Ok (b.Trait z, c.trait_in_parens.new.input)) (sym c.held_bound.ensures)))) c.boxed_bound.ensures.reads, c.trait_in_parens.ensures.parses.1) }

pub returns-in_err-trait_in : goal.returns-in_err-trait_in
unfolding trait_in_place
returns-in_err-trait_in g c =
    let e = c.in_err-trait_in.field-0.0 in
    let r = knot.reads_below g.A.Attributes.reads g.E.Value.reads (length c.args.self.now.begin) in
    record { parses = (passed_on _ _ _ _ e c.from_residual-in_err-trait_in.ensures c.in_err-trait_in.ensures.parses.0 (λ h. chosen _ false _ _ _ _ (sym c.if-peek.ensures) (stopped _ e (ap (λ z. trait_in r z c.args.input.now) (sym c.allows_const-consts.ensures) ∙ h))), c.trait_in.ensures.parses.1) }

pub returns : goal.returns
unfolding trait_in_place
returns g c =
    let r = knot.reads_below g.A.Attributes.reads g.E.Value.reads (length c.args.self.now.begin) in
    record { parses = (told_by _ _ (chosen _ false _ _ _ _ (sym c.if-peek.ensures) (link _ (ap (λ z. trait_in r z c.args.input.now) (sym c.allows_const-consts.ensures) ∙ c.in_ok-trait_in.ensures.parses.0) refl)) c.boxed_bound-2.ensures.reads, c.trait_in.ensures.parses.1) }
