use Rattle.syn_laws.proofs.aside_laws.Readers.{patterns}
use Rattle.syn_laws.proofs.aside.patterns_aside.Goals as goal

pub returns : goal.returns
returns g c = patterns g.X.Subtree g.met.X.Subtree.moves g.met.X.Subtree.steady g.met.X.Subtree.sound g.met.X.Subtree.complete g.met.X.Subtree.reprint g.met.X.Subtree.apart
