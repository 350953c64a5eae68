use Rattle.token_core.proofs.Fronteds.{fronted}
use Rattle.token_core.proofs.Headlines.{heads}
use Rattle.syn_attr.specs.attr.Grammars as grammars
use Rattle.syn_attr.proofs.attr_laws.Laws.{inner_lawful, inner_front, inner_front_lawful}
use Rattle.syn_attr.proofs.attr.read.Attribute+X.parse_inner.Goals as goal

pub returns-clause-promise : goal.returns-clause-promise
returns-clause-promise g c = heads (grammars.inner g.X.Subtree) (inner_lawful g.X.Subtree g.met.X.Subtree.sound g.met.X.Subtree.complete g.met.X.Subtree.reprint g.met.X.Subtree.apart) _ _ _ c.parse_inners.ensures.parses.0

pub returns-clause-takes : goal.returns-clause-takes
returns-clause-takes g c = inner_front g.X.Subtree g.met.X.Subtree.sound g.met.X.Subtree.complete g.met.X.Subtree.reprint g.met.X.Subtree.apart _ _ _ c.parse_inners.ensures.parses.0

pub returns-clause-fronts : goal.returns-clause-fronts
returns-clause-fronts g c = fronted (grammars.inner_front g.X.Subtree) (inner_front_lawful g.X.Subtree g.met.X.Subtree.sound g.met.X.Subtree.complete g.met.X.Subtree.reprint g.met.X.Subtree.apart) _ _ _ c.parse_inners.ensures.parses.0
