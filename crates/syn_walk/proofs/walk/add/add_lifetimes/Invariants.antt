use Rattle.std.proofs.Common.{◌≡◌, ◌++◌, drop}
use Rattle.token_core.specs.Prints.{each}
use Rattle.syn_walk.specs.walk.Nodes as spec
use Rattle.syn_walk.specs.walk.Nodes.{seen}
use Rattle.syn_walk.proofs.walk.add.add_lifetimes.Given as goal

abbrev pub invariant-loop-lifetime : goal.invariant-loop-lifetime
invariant-loop-lifetime g l = seen l.out ++ each spec.lifetime (drop l.lifetime-index l.lifetime-items) ≡ seen l.initial.out ++ each spec.lifetime l.lifetimes.0
