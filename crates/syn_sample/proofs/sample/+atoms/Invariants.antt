use Rattle.std.proofs.Common.{◌≡◌, ◌+◌, ◌*◌, length}
use Rattle.token_core.specs.Reads.{Follows}
use Rattle.token_core.specs.Loops.{size, after}
use Rattle.syn_sample.specs.sample.Parts.{groups}
use Rattle.syn_sample.specs.sample.Reading.{joined_by, atom}
use Rattle.syn_sample.proofs.sample.+atoms.Given as goal

-- a group has fewer groups in it, and what is left of a list has no more than the list
abbrev pub decreases-read_atoms : goal.decreases-read_atoms
decreases-read_atoms l = 3 * groups l.input.now.rest + 2

abbrev pub decreases-read_atom : goal.decreases-read_atom
decreases-read_atom l = 3 * groups l.input.now.rest + 1

abbrev pub decreases-read_group : goal.decreases-read_group
decreases-read_group l = 3 * groups l.input.now.rest

abbrev pub invariant-read_atoms-turn : goal.invariant-read_atoms-turn
invariant-read_atoms-turn l = record {
  told : joined_by 20 1 atom l.initial.input ≡ after l.atoms (joined_by 20 1 atom l.input);
  whole : length l.atoms.0 ≡ length l.atoms.1;
  within : Follows l.initial.input l.input;
}

abbrev pub decreases-read_atoms-turn : goal.decreases-read_atoms-turn
decreases-read_atoms-turn l = size l.input.rest
