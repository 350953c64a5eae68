use Rattle.std.proofs.Common.{◌≡◌}
use Rattle.std.specs.List.{list_any}
use Rattle.syn_ty.specs.declared.generics.TypeParamBoundOf.{out-TypeParamBoundOf}
use Rattle.syn_ty.specs.ty.Reading.{trait_layer}
use Rattle.syn_ty.proofs.ty.read.parts.any_trait.Given as goal

abbrev pub invariant-loop-bound : goal.invariant-loop-bound
invariant-loop-bound g l = list_any (λ x. trait_layer (out-TypeParamBoundOf _ _ x)) l.bound-iterator ≡ list_any (λ x. trait_layer (out-TypeParamBoundOf _ _ x)) l.initial.bound-iterator
