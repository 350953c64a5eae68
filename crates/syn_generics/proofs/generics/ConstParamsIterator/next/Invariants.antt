use Rattle.std.proofs.Common.{◌≡◌, length}
use Rattle.syn_generics.specs.generics.Params.{only, as_const}
use Rattle.syn_generics.proofs.generics.ConstParamsIterator.next.Given as goal

abbrev pub invariant-loop-param : goal.invariant-loop-param
invariant-loop-param g l = only as_const l.self.params ≡ only as_const l.initial.self.params

abbrev pub decreases-loop-param : goal.decreases-loop-param
decreases-loop-param g l = length l.self.params
