use Rattle.token_core.proofs.Fronteds.{fronted}
use Rattle.syn_pat.specs.pat.Promises as promises
use Rattle.token_core.proofs.Headlines.{heads}
use Rattle.syn_ty.proofs.ty_laws.sound.Whole.{takes}
use Rattle.syn_pat.proofs.pat_laws.sound.Whole.{supplied}
use Rattle.syn_pat.proofs.pat_laws.FrontLaws.{typed_fronts}
use Rattle.syn_pat.proofs.pat_laws.GivenLaws.{typed_lawful}
use Rattle.syn_pat.proofs.pat_laws.sound.Knot.{typed_took}
use Rattle.syn_pat.proofs.pat.read.PatTypeParse.parse.Goals as goal

pub returns-clause-promise : goal.returns-clause-promise
returns-clause-promise g c = heads (promises.typed g.X.Subtree) (typed_lawful g.X.Subtree g.met.X.Subtree.steady g.met.X.Subtree.sound g.met.X.Subtree.complete g.met.X.Subtree.reprint g.met.X.Subtree.apart) _ _ _ c.parse_typed.ensures.parses.0

pub returns-clause-fronts : goal.returns-clause-fronts
returns-clause-fronts g c = fronted (promises.typed_front g.X.Subtree) (typed_fronts g.X.Subtree g.met.X.Subtree.steady g.met.X.Subtree.sound g.met.X.Subtree.complete g.met.X.Subtree.reprint g.met.X.Subtree.apart) _ _ _ c.parse_typed.ensures.parses.0

pub returns-clause-takes : goal.returns-clause-takes
returns-clause-takes g c = takes (typed_took g.X.Subtree.reads g.X.Subtree.spells (supplied g.X.Subtree.reads g.X.Subtree.spells g.X.Subtree.normal g.X.Subtree.prints g.met.X.Subtree.steady g.met.X.Subtree.sound g.met.X.Subtree.complete g.met.X.Subtree.reprint)) _ _ _ c.parse_typed.ensures.parses.0
