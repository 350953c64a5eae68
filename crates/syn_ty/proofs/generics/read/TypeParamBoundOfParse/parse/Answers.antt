use Rattle.token_core.proofs.Fronteds.{fronted}
use Rattle.token_core.proofs.Headlines.{heads}
use Rattle.syn_ty.specs.ty.Frontings as frontings
use Rattle.syn_ty.specs.ty.Promises as promises
use Rattle.syn_ty.proofs.ty_laws.FrontLaws.{bound_fronts}
use Rattle.syn_ty.proofs.ty_laws.WholeLaws.{bound_lawful}
use Rattle.syn_ty.proofs.ty_laws.sound.Whole.{takes}
use Rattle.syn_ty.proofs.ty_laws.GivenWhole.{given_again, given_meets}
use Rattle.syn_ty.proofs.ty_laws.Given.{given}
use Rattle.syn_ty.proofs.ty_laws.sound.Alone.{bound_took}
use Rattle.syn_forms.specs.declared.places.BoundPlace.TheVariants.{Opaque}
use Rattle.syn_ty.proofs.generics.read.TypeParamBoundOfParse.parse.Goals as goal

pub returns-clause-promise : goal.returns-clause-promise
returns-clause-promise g c = heads (promises.bound g.A.Attributes g.E.Value) (bound_lawful g.A.Attributes g.E.Value (given g.met.A.Attributes.told g.met.E.Value.consts g.met.E.Value.lengths) (given_meets g.met.A.Attributes.met g.met.E.Value.met g.met.E.Value.lengths) (given_again g.met.A.Attributes.met g.met.E.Value.met g.met.E.Value.lengths g.met.A.Attributes.bare)) _ _ _ c.parse_bound.ensures.parses.0

pub returns-clause-fronts : goal.returns-clause-fronts
returns-clause-fronts g c = fronted (frontings.bound g.A.Attributes g.E.Value) (bound_fronts g.A.Attributes g.E.Value (given g.met.A.Attributes.told g.met.E.Value.consts g.met.E.Value.lengths) (given_meets g.met.A.Attributes.met g.met.E.Value.met g.met.E.Value.lengths) (given_again g.met.A.Attributes.met g.met.E.Value.met g.met.E.Value.lengths g.met.A.Attributes.bare)) _ _ _ c.parse_bound.ensures.parses.0

pub returns-clause-takes : goal.returns-clause-takes
returns-clause-takes g c = takes (bound_took (given g.met.A.Attributes.told g.met.E.Value.consts g.met.E.Value.lengths) Opaque) _ _ _ c.parse_bound.ensures.parses.0
