use Rattle.syn_attr.proofs.attr_laws.Normal.{value_same, value_stays}
use Rattle.syn_laws.proofs.normal_laws.Admitted.{value_admitted}
use Rattle.syn_laws.proofs.expression.Goals as goal

pub returns-clause-admitted : goal.returns-clause-admitted
returns-clause-admitted g c = value_admitted g.X.Subtree g.met.X.Subtree.complete g.met.X.Subtree.reprint c.args.tree.now

pub returns-clause-stays : goal.returns-clause-stays
returns-clause-stays g c = λ own. value_stays g.X.Subtree.normal own c.args.tree.now

pub returns-clause-same : goal.returns-clause-same
returns-clause-same g c = λ same. value_same g.X.Subtree.normal g.X.Subtree.prints same c.args.tree.now
