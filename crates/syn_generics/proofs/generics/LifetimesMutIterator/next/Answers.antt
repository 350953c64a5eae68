use Rattle.std.proofs.Common.{◌≡◌, ◌∷◌, None, length, sym, ap, ◌∙◌, rules, arith}
use Rattle.std.proofs.lemmas.Grind.{common_steps}
use Rattle.token_core.specs.Lent.{values_left}
use Rattle.syn_generics.specs.generics.Params.{kept_by, only, as_lifetime}
use Rattle.syn_generics.proofs.generics.LifetimesMutIterator.next.Goals as goal

pub returns-in-Lifetime-clause-goes : goal.returns-in-Lifetime-clause-goes
returns-in-Lifetime-clause-goes g c =
    let steps : only as_lifetime (values_left c.args.self.now.params) ≡ c.in-Lifetime.param ∷ only as_lifetime (values_left c.next.new.self) = first_of (search rules, grind (arith, common_steps)) in
    record { on = λ f. (tt, tt, omega (arith, ap length steps)); keeps = tt; rests = λ f. tt }

pub loop-param-preserved : goal.loop-param-preserved
loop-param-preserved g c =
    let none : as_lifetime c.in-Some.param.now ≡ None = first_of (search rules, grind (arith, common_steps)) in
    sym (ap (only as_lifetime) c.in-Some.ensures.steps ∙ ap (λ o. kept_by o (only as_lifetime (values_left c.next.new.self))) none) ∙ c.loop-param.invariant
