use Rattle.token_core.proofs.Fronteds.{fronted}
use Rattle.syn_pat.specs.pat.Promises as promises
use Rattle.token_core.proofs.Headlines.{heads}
use Rattle.syn_ty.proofs.ty_laws.sound.Whole.{takes}
use Rattle.syn_pat.specs.declared.place.PatPlace.TheVariants.{Multi}
use Rattle.syn_pat.proofs.pat_laws.sound.Whole.{supplied}
use Rattle.syn_pat.proofs.pat_laws.FrontLaws.{pat_fronts}
use Rattle.syn_pat.proofs.pat_laws.GivenLaws.{pat_lawful}
use Rattle.syn_pat.proofs.pat_laws.sound.Knot.{pat_took}
use Rattle.syn_pat.proofs.pat.read.Pat+X.parse_multi.Goals as goal

pub returns-clause-promise : goal.returns-clause-promise
returns-clause-promise g c = heads (promises.pat g.X.Subtree Multi) (pat_lawful g.X.Subtree g.met.X.Subtree.steady g.met.X.Subtree.sound g.met.X.Subtree.complete g.met.X.Subtree.reprint g.met.X.Subtree.apart Multi) _ _ _ c.parse_in.ensures.parses.0

pub returns-clause-fronts : goal.returns-clause-fronts
returns-clause-fronts g c = fronted (promises.pat_front g.X.Subtree Multi) (pat_fronts g.X.Subtree g.met.X.Subtree.steady g.met.X.Subtree.sound g.met.X.Subtree.complete g.met.X.Subtree.reprint g.met.X.Subtree.apart Multi) _ _ _ c.parse_in.ensures.parses.0

pub returns-clause-takes : goal.returns-clause-takes
returns-clause-takes g c = takes (pat_took g.X.Subtree.reads g.X.Subtree.spells (supplied g.X.Subtree.reads g.X.Subtree.spells g.X.Subtree.normal g.X.Subtree.prints g.met.X.Subtree.steady g.met.X.Subtree.sound g.met.X.Subtree.complete g.met.X.Subtree.reprint) Multi) _ _ _ c.parse_in.ensures.parses.0
