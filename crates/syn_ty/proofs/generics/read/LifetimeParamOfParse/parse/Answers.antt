use Rattle.token_core.proofs.Fronteds.{fronted}
use Rattle.token_core.proofs.Headlines.{heads}
use Rattle.syn_ty.specs.ty.Frontings as frontings
use Rattle.syn_ty.specs.ty.Promises as promises
use Rattle.syn_ty.proofs.ty_laws.FrontLaws.{lifetime_param_fronts}
use Rattle.syn_ty.proofs.ty_laws.WholeLaws.{lifetime_param_lawful}
use Rattle.syn_ty.proofs.ty_laws.sound.Whole.{takes, lifetime_param_took}
use Rattle.syn_ty.proofs.ty_laws.GivenWhole.{attributes_again, attributes_met}
use Rattle.syn_ty.proofs.generics.read.LifetimeParamOfParse.parse.Goals as goal

pub returns-clause-promise : goal.returns-clause-promise
returns-clause-promise g c = heads (promises.lifetime_param g.A.Attributes) (lifetime_param_lawful g.A.Attributes g.met.A.Attributes.told (attributes_met g.met.A.Attributes.met) (attributes_again g.met.A.Attributes.met)) _ _ _ c.lifetime_param.ensures.parses.0

pub returns-clause-fronts : goal.returns-clause-fronts
returns-clause-fronts g c = fronted (frontings.lifetime_param g.A.Attributes) (lifetime_param_fronts g.A.Attributes g.met.A.Attributes.told (attributes_met g.met.A.Attributes.met) (attributes_again g.met.A.Attributes.met)) _ _ _ c.lifetime_param.ensures.parses.0

pub returns-clause-takes : goal.returns-clause-takes
returns-clause-takes g c = takes (lifetime_param_took g.met.A.Attributes.told) _ _ _ c.lifetime_param.ensures.parses.0
