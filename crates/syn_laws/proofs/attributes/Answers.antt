use Rattle.syn_attr.proofs.attr_laws.Normal.{attributes_same, attributes_stay}
use Rattle.syn_laws.proofs.normal_laws.Admitted.{inner_admitted, outer_admitted}
use Rattle.syn_laws.proofs.attributes.Goals as goal

pub returns-clause-outer : goal.returns-clause-outer
returns-clause-outer g c = outer_admitted g.X.Subtree g.met.X.Subtree.steady g.met.X.Subtree.sound g.met.X.Subtree.complete g.met.X.Subtree.reprint g.met.X.Subtree.apart c.args.trees.now

pub returns-clause-inner : goal.returns-clause-inner
returns-clause-inner g c = inner_admitted g.X.Subtree g.met.X.Subtree.steady g.met.X.Subtree.sound g.met.X.Subtree.complete g.met.X.Subtree.reprint g.met.X.Subtree.apart c.args.trees.now

pub returns-clause-stays : goal.returns-clause-stays
returns-clause-stays g c = λ own. attributes_stay g.X.Subtree.normal own c.args.trees.now

pub returns-clause-same : goal.returns-clause-same
returns-clause-same g c = λ same. attributes_same g.X.Subtree.normal g.X.Subtree.prints same c.args.trees.now
