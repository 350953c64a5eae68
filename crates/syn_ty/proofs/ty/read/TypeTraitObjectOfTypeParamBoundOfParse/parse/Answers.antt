use Rattle.token_core.proofs.Fronteds.{fronted}
use Rattle.token_core.proofs.Headlines.{heads}
use Rattle.syn_ty.specs.ty.Frontings as frontings
use Rattle.syn_ty.specs.ty.Promises as promises
use Rattle.syn_ty.proofs.ty_laws.FrontLaws.{trait_object_fronts}
use Rattle.syn_ty.proofs.ty_laws.WholeLaws.{trait_object_lawful}
use Rattle.syn_ty.proofs.ty_laws.sound.Whole.{takes}
use Rattle.syn_ty.proofs.ty_laws.GivenWhole.{given_again, given_meets}
use Rattle.syn_ty.proofs.ty_laws.Given.{given}
use Rattle.syn_ty.proofs.ty_laws.sound.Alone.{trait_object_took}
use Rattle.syn_forms.specs.declared.places.TypePlace.TheVariants.{Plus}
use Rattle.syn_ty.proofs.ty.read.TypeTraitObjectOfTypeParamBoundOfParse.parse.Goals as goal

pub returns-clause-promise : goal.returns-clause-promise
returns-clause-promise g c = heads (promises.trait_object g.A.Attributes g.E.Value Plus) (trait_object_lawful g.A.Attributes g.E.Value (given g.met.A.Attributes.told g.met.E.Value.consts g.met.E.Value.lengths) (given_meets g.met.A.Attributes.met g.met.E.Value.met g.met.E.Value.lengths) (given_again g.met.A.Attributes.met g.met.E.Value.met g.met.E.Value.lengths g.met.A.Attributes.bare) Plus) _ _ _ c.parse_trait_object.ensures.parses.0

pub returns-clause-fronts : goal.returns-clause-fronts
returns-clause-fronts g c = fronted (frontings.trait_object g.A.Attributes g.E.Value Plus) (trait_object_fronts g.A.Attributes g.E.Value (given g.met.A.Attributes.told g.met.E.Value.consts g.met.E.Value.lengths) (given_meets g.met.A.Attributes.met g.met.E.Value.met g.met.E.Value.lengths) (given_again g.met.A.Attributes.met g.met.E.Value.met g.met.E.Value.lengths g.met.A.Attributes.bare) Plus) _ _ _ c.parse_trait_object.ensures.parses.0

pub returns-clause-takes : goal.returns-clause-takes
returns-clause-takes g c = takes (trait_object_took (given g.met.A.Attributes.told g.met.E.Value.consts g.met.E.Value.lengths) Plus) _ _ _ c.parse_trait_object.ensures.parses.0
