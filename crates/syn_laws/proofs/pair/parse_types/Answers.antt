use Rattle.syn_forms.specs.declared.places.TypePlace.TheVariants.{Plus}
use Rattle.syn_ty.proofs.ty_laws.FrontLaws.{over_follows}
use Rattle.syn_ty.proofs.ty_laws.complete.Params.{comma_over}
use Rattle.syn_laws.proofs.pair.parse_types.Goals as goal

pub returns-clause-fronts : goal.returns-clause-fronts
returns-clause-fronts g c = c.parse_pair.ensures.fronts (λ k h. over_follows Plus k (comma_over k h))
