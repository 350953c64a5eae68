use Rattle.std.proofs.Common.{◌≡◌, true, false, length, rules, refl, subst, sym, arith}
use Rattle.std.proofs.lemmas.Grind.{common_steps}
use Rattle.token_core.specs.Lifetimes.{sees_lifetime}
use Rattle.token_core.specs.Reads.{Reads}
use Rattle.token_core.proofs.Steps.{chosen, link}
use Rattle.syn_forms.proofs.lists_laws.Turns.{passed_on, stopped, told_by}
use Rattle.syn_ty.specs.generics.Reading.{bound_step}
use Rattle.token_core.specs.Tokens as token
use Rattle.syn_ty.specs.ty.Knot as knot
use Rattle.syn_ty.proofs.generics_laws.Steps.{capture_bound, trait_bound}
use Rattle.syn_ty.proofs.grammar.Grammar.bound_step.Goals as goal

pub returns-in_err-lifetime : goal.returns-in_err-lifetime
unfolding bound_step
returns-in_err-lifetime g c =
    let e = c.in_err-lifetime.field-0.0 in
    record { parses = (passed_on _ _ _ _ e c.from_residual.ensures c.in_err-lifetime.ensures.parses.0 (λ h. chosen _ true _ _ _ _ (sym c.if-peek.ensures) (stopped _ e h)), c.parse_any_lifetime.ensures.parses.1) }

pub returns-then-peek : goal.returns-then-peek
unfolding bound_step
returns-then-peek g c = record { parses = (told_by _ _ (chosen _ true _ _ _ _ (sym c.if-peek.ensures) (link _ c.in_ok-lifetime.ensures.parses.0 refl)) c.boxed_bound.ensures.reads, c.parse_any_lifetime.ensures.parses.1) }

pub returns-then-peek-2 : goal.returns-then-peek-2
returns-then-peek-2 g c =
    let l : sees_lifetime c.args.input.now.rest ≡ false = first_of (search rules, grind (arith, common_steps)) in
    let u : token.sees_use c.args.input.now.rest ≡ true = first_of (search rules, grind (arith, common_steps)) in
    let r = knot.reads_below g.A.Attributes.reads g.E.Value.reads (length c.args.self.now.begin) in
    let same = capture_bound r c.args.place c.args.input.now l u in
    record { parses = (subst (λ o. Reads o c.capture_in_place.result c.capture_in_place.new.input) (sym same) c.capture_in_place.ensures.parses.0, c.capture_in_place.ensures.parses.1) }

pub returns : goal.returns
returns g c =
    let l : sees_lifetime c.args.input.now.rest ≡ false = first_of (search rules, grind (arith, common_steps)) in
    let u : token.sees_use c.args.input.now.rest ≡ false = first_of (search rules, grind (arith, common_steps)) in
    let r = knot.reads_below g.A.Attributes.reads g.E.Value.reads (length c.args.self.now.begin) in
    let same = trait_bound r c.args.place c.args.input.now l u in
    record { parses = (subst (λ o. Reads o c.trait_in_place.result c.trait_in_place.new.input) (sym same) c.trait_in_place.ensures.parses.0, c.trait_in_place.ensures.parses.1) }
