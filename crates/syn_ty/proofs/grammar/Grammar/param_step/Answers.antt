use Rattle.std.proofs.Common.{◌≡◌, length, rules, subst, sym, arith}
use Rattle.std.proofs.lemmas.Grind.{common_steps}
use Rattle.token_core.specs.Reads.{Reads}
use Rattle.token_core.proofs.Suffixes.{follows}
use Rattle.syn_forms.specs.declared.places.ParamPlace.TheVariants as p
use Rattle.syn_ty.specs.ty.Knot as knot
use Rattle.syn_ty.proofs.generics_laws.Steps.{binder_param, generics_param}
use Rattle.syn_ty.proofs.grammar.Grammar.param_step.Goals as goal

pub returns-in-Binder : goal.returns-in-Binder
returns-in-Binder g c =
    let is : c.args.place ≡ p.Binder = first_of (search rules, grind (arith, common_steps)) in
    let r = knot.reads_below g.A.Attributes.reads g.E.Value.reads (length c.args.self.now.begin) in
    let same = binder_param g.A.Attributes.reads g.E.Value.reads r c.args.place _ _ _ is c.in_ok-attrs.ensures.reads in
    record { parses = (subst (λ o. Reads o c.in_binder.result c.in_binder.new.input) (sym same) c.in_binder.ensures.parses.0, grind (arith, follows)) }

pub returns-in-Generics : goal.returns-in-Generics
returns-in-Generics g c =
    let is : c.args.place ≡ p.Generics = first_of (search rules, grind (arith, common_steps)) in
    let r = knot.reads_below g.A.Attributes.reads g.E.Value.reads (length c.args.self.now.begin) in
    let same = generics_param g.A.Attributes.reads g.E.Value.reads r c.args.place _ _ _ is c.in_ok-attrs.ensures.reads in
    record { parses = (subst (λ o. Reads o c.in_generics.result c.in_generics.new.input) (sym same) c.in_generics.ensures.parses.0, grind (arith, follows)) }
