use Rattle.std.proofs.Common.{◌≡◌, ◌+◌, ◌*◌, ◌++◌}
use Rattle.token_core.specs.Loops.{size}
use Rattle.token_core.specs.Reads.{Follows}
use Rattle.token_core.specs.Trees.{trees}
use Rattle.syn_verbatim.specs.Held.{held, ended}
use Rattle.syn_verbatim.proofs.rest.+rest.Given as goal

-- less is left in an invisible group than before it, and after each turn
abbrev pub decreases-take_rest : goal.decreases-take_rest
decreases-take_rest l = 2 * size l.input.now.rest + 1

abbrev pub decreases-take_invisible : goal.decreases-take_invisible
decreases-take_invisible l = 2 * size l.input.now.rest

abbrev pub invariant-take_rest-turn : goal.invariant-take_rest-turn
invariant-take_rest-turn l = record {
  holds : held l.initial.input.rest ≡ trees l.trees ++ held l.input.rest;
  ends : ended l.initial.input ≡ ended l.input;
  within : Follows l.initial.input l.input;
}

abbrev pub decreases-take_rest-turn : goal.decreases-take_rest-turn
decreases-take_rest-turn l = size l.input.rest
