use Rattle.std.proofs.Common.{◌≡◌, length}
use Rattle.token_core.specs.Lent.{values_left}
use Rattle.syn_generics.specs.generics.Params.{only, as_lifetime}
use Rattle.syn_generics.proofs.generics.LifetimesMutIterator.next.Given as goal

abbrev pub invariant-loop-param : goal.invariant-loop-param
invariant-loop-param g l = only as_lifetime (values_left l.self.params) ≡ only as_lifetime (values_left l.initial.self.params)

abbrev pub decreases-loop-param : goal.decreases-loop-param
decreases-loop-param g l = length (values_left l.self.params)
