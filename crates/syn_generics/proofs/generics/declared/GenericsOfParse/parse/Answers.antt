use Rattle.token_core.proofs.Fronteds.{fronted}
use Rattle.token_core.proofs.Headlines.{heads}
use Rattle.syn_generics.specs.generics.Promises as promises
use Rattle.syn_generics.proofs.generics_laws.FrontLaws.{generics_fronts}
use Rattle.syn_generics.proofs.generics_laws.WholeLaws.{generics_lawful}
use Rattle.syn_ty.proofs.ty_laws.sound.Whole.{takes}
use Rattle.syn_ty.proofs.ty_laws.GivenWhole.{given_again, given_meets}
use Rattle.syn_ty.proofs.ty_laws.Given.{given}
use Rattle.syn_generics.proofs.generics_laws.sound.Alone.{generics_took}
use Rattle.syn_generics.proofs.generics.declared.GenericsOfParse.parse.Goals as goal

pub returns-clause-promise : goal.returns-clause-promise
returns-clause-promise g c = heads (promises.generics g.A.Attributes g.E.Value) (generics_lawful g.A.Attributes g.E.Value (given g.met.A.Attributes.told g.met.E.Value.consts g.met.E.Value.lengths) (given_meets g.met.A.Attributes.met g.met.E.Value.met g.met.E.Value.lengths) (given_again g.met.A.Attributes.met g.met.E.Value.met g.met.E.Value.lengths g.met.A.Attributes.bare)) _ _ _ c.parse_generics.ensures.parses.0

pub returns-clause-takes : goal.returns-clause-takes
returns-clause-takes g c = takes (generics_took (given g.met.A.Attributes.told g.met.E.Value.consts g.met.E.Value.lengths)) _ _ _ c.parse_generics.ensures.parses.0

pub returns-clause-fronts : goal.returns-clause-fronts
returns-clause-fronts g c = fronted (promises.generics_front g.A.Attributes g.E.Value) (generics_fronts g.A.Attributes g.E.Value (given g.met.A.Attributes.told g.met.E.Value.consts g.met.E.Value.lengths) (given_meets g.met.A.Attributes.met g.met.E.Value.met g.met.E.Value.lengths) (given_again g.met.A.Attributes.met g.met.E.Value.met g.met.E.Value.lengths g.met.A.Attributes.bare)) _ _ _ c.parse_generics.ensures.parses.0
