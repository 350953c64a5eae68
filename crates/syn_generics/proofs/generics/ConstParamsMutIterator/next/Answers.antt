use Rattle.std.proofs.Common.{◌≡◌, ◌∷◌, None, length, sym, ap, ◌∙◌, rules, arith}
use Rattle.std.proofs.lemmas.Grind.{common_steps}
use Rattle.token_core.specs.Lent.{values_left}
use Rattle.syn_generics.specs.generics.Params.{kept_by, only, as_const}
use Rattle.syn_generics.proofs.generics.ConstParamsMutIterator.next.Goals as goal

pub returns-in-Const-clause-goes : goal.returns-in-Const-clause-goes
returns-in-Const-clause-goes g c =
    let steps : only as_const (values_left c.args.self.now.params) ≡ c.in-Const.param ∷ only as_const (values_left c.next.new.self) = first_of (search rules, grind (arith, common_steps)) in
    record { on = λ f. (tt, tt, omega (arith, ap length steps)); keeps = tt; rests = λ f. tt }

pub loop-param-preserved : goal.loop-param-preserved
loop-param-preserved g c =
    let none : as_const c.in-Some.param.now ≡ None = first_of (search rules, grind (arith, common_steps)) in
    sym (ap (only as_const) c.in-Some.ensures.steps ∙ ap (λ o. kept_by o (only as_const (values_left c.next.new.self))) none) ∙ c.loop-param.invariant
