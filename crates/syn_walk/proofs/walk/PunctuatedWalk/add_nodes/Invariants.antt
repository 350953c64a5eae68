use Rattle.std.proofs.Common.{◌≡◌, ◌++◌, drop}
use Rattle.token_core.specs.Prints.{each}
use Rattle.syn_walk.specs.walk.Nodes.{seen}
use Rattle.syn_walk.proofs.walk.PunctuatedWalk.add_nodes.Given as goal

abbrev pub invariant-loop-value : goal.invariant-loop-value
invariant-loop-value g l = seen l.out ++ each g.T.Walk.visits (drop l.value-index l.value-items) ≡ seen l.initial.out ++ each g.T.Walk.visits l.self.0
