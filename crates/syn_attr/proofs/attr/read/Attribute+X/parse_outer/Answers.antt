use Rattle.token_core.proofs.Fronteds.{fronted}
use Rattle.token_core.proofs.Headlines.{heads}
use Rattle.syn_attr.specs.attr.Grammars as grammars
use Rattle.syn_attr.proofs.attr_laws.Laws.{outer_lawful, outer_front, outer_front_lawful}
use Rattle.syn_attr.proofs.attr.read.Attribute+X.parse_outer.Goals as goal

pub returns-clause-promise : goal.returns-clause-promise
returns-clause-promise g c = heads (grammars.outer g.X.Subtree) (outer_lawful g.X.Subtree g.met.X.Subtree.sound g.met.X.Subtree.complete g.met.X.Subtree.reprint g.met.X.Subtree.apart) _ _ _ c.parse_outers.ensures.parses.0

pub returns-clause-takes : goal.returns-clause-takes
returns-clause-takes g c = outer_front g.X.Subtree g.met.X.Subtree.sound g.met.X.Subtree.complete g.met.X.Subtree.reprint g.met.X.Subtree.apart _ _ _ c.parse_outers.ensures.parses.0

pub returns-clause-fronts : goal.returns-clause-fronts
returns-clause-fronts g c = fronted (grammars.outer_front g.X.Subtree) (outer_front_lawful g.X.Subtree g.met.X.Subtree.sound g.met.X.Subtree.complete g.met.X.Subtree.reprint g.met.X.Subtree.apart) _ _ _ c.parse_outers.ensures.parses.0
