use Rattle.std.proofs.Common.{◌≡◌, ◌++◌, drop}
use Rattle.token_core.specs.Prints.{each}
use Rattle.syn_walk.specs.walk.Nodes as spec
use Rattle.syn_walk.specs.walk.Nodes.{seen}
use Rattle.syn_walk.proofs.walk.add.add_capture.Given as goal

abbrev pub invariant-loop-param : goal.invariant-loop-param
invariant-loop-param g l = seen l.out ++ each spec.captured (drop l.param-index l.param-items) ≡ seen l.initial.out ++ each spec.captured l.capture.params.0
