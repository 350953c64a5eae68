use Rattle.std.proofs.Common.{◌≡◌, length}
use Rattle.token_core.specs.Reads.{Follows}
use Rattle.syn_forms.specs.nested.Below.{ahead}
use Rattle.syn_ty.proofs.generics_laws.Captures.{Told}
use Rattle.syn_ty.proofs.generics.read.parse_captures.Given as goal

abbrev pub invariant-turn : goal.invariant-turn
invariant-turn l = record { told : Told l.fn.input l.params l.input; whole : length l.params.0 ≡ length l.params.1; within : Follows l.fn.input l.input }

abbrev pub decreases-turn : goal.decreases-turn
decreases-turn l = ahead l.input
