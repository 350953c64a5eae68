use Rattle.syn_attr.proofs.attr_laws.Normal.{meta_same, meta_stays}
use Rattle.syn_laws.proofs.normal_laws.Admitted.{meta_admitted}
use Rattle.syn_laws.proofs.meta.Goals as goal

pub returns-clause-admitted : goal.returns-clause-admitted
returns-clause-admitted g c = meta_admitted g.X.Subtree g.met.X.Subtree.steady g.met.X.Subtree.sound g.met.X.Subtree.complete g.met.X.Subtree.reprint g.met.X.Subtree.apart c.args.tree.now

pub returns-clause-stays : goal.returns-clause-stays
returns-clause-stays g c = λ own. meta_stays g.X.Subtree.normal own c.args.tree.now

pub returns-clause-same : goal.returns-clause-same
returns-clause-same g c = λ same. meta_same g.X.Subtree.normal g.X.Subtree.prints same c.args.tree.now
