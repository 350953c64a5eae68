use Rattle.std.proofs.Common.{◌≡◌}
use Rattle.token_core.specs.Reads.{Follows}
use Rattle.token_core.specs.Loops.{size}
use Rattle.syn_attr.specs.attr.Reading as reading
use Rattle.syn_attr.proofs.attr_laws.Many.{before}
use Rattle.syn_attr.proofs.attr.read.parse_inners.Given as goal

abbrev pub invariant-turn : goal.invariant-turn
invariant-turn g l = record {
  told : reading.inner (g.X.Subtree.reads) l.initial.input ≡ before l.attrs (reading.inner (g.X.Subtree.reads) l.input);
  within : Follows l.initial.input l.input;
}

abbrev pub decreases-turn : goal.decreases-turn
decreases-turn g l = size l.input.rest
