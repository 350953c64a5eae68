use Rattle.std.proofs.Common.{◌≡◌, ◌++◌, ◌+◌, ◌*◌, drop}
use Rattle.token_core.specs.Trees.{trees}
use Rattle.token_core.specs.Prints.{Extends}
use Rattle.syn_sample.specs.sample.Printing.{atoms}
use Rattle.syn_sample.proofs.Weights.{weight, weights}
use Rattle.syn_sample.proofs.sample.+print.Given as goal

abbrev pub invariant-print_atoms-loop-i : goal.invariant-print_atoms-loop-i
invariant-print_atoms-loop-i l = record {
  told : trees l.out ++ atoms (drop l.i l.atoms.0, drop l.i l.atoms.1) ≡ trees l.initial.out ++ atoms l.initial.atoms;
  kept : Extends (trees l.initial.out) (trees l.out);
}

abbrev pub decreases-print_atoms : goal.decreases-print_atoms
decreases-print_atoms l = 2 * weights l.atoms.now.0 + 1

abbrev pub decreases-print_atom : goal.decreases-print_atom
decreases-print_atom l = 2 * weight l.atom.now
