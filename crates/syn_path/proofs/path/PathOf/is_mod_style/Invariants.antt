use Rattle.std.proofs.Common.{◌≡◌}
use Rattle.std.specs.List.{list_all}
use Rattle.syn_path.proofs.path.PathOf.is_mod_style.Given as goal

abbrev pub invariant-loop-segment : goal.invariant-loop-segment
invariant-loop-segment g l = list_all (λ s. g.A.Arguments.is_absent s.arguments) l.segment-iterator ≡ list_all (λ s. g.A.Arguments.is_absent s.arguments) l.initial.segment-iterator
