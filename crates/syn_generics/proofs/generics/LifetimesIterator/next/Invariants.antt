use Rattle.std.proofs.Common.{◌≡◌, length}
use Rattle.syn_generics.specs.generics.Params.{only, as_lifetime}
use Rattle.syn_generics.proofs.generics.LifetimesIterator.next.Given as goal

abbrev pub invariant-loop-param : goal.invariant-loop-param
invariant-loop-param g l = only as_lifetime l.self.params ≡ only as_lifetime l.initial.self.params

abbrev pub decreases-loop-param : goal.decreases-loop-param
decreases-loop-param g l = length l.self.params
