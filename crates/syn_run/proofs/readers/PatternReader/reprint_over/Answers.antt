use Rattle.token_core.specs.Trees.{toks}
use Rattle.syn_readers.proofs.Whole.{shows-reprints}
use Rattle.syn_run.proofs.Whole.{pattern-keeps, pattern-refuses}
use Rattle.syn_run.specs.Readers.{patterns_category}
use Rattle.syn_run.proofs.readers.PatternReader.reprint_over.Goals as goal

pub returns : goal.returns
returns g c =
    let C = patterns_category g.X.Subtree c.args.self in
    shows-reprints C c.args.scope (toks c.args.tokens) (pattern-keeps g.X.Subtree g.met.X.Subtree.steady g.met.X.Subtree.sound g.met.X.Subtree.complete g.met.X.Subtree.reprint g.met.X.Subtree.apart c.args.self c.args.scope (toks c.args.tokens)) (pattern-refuses g.X.Subtree g.met.X.Subtree.steady g.met.X.Subtree.sound g.met.X.Subtree.complete g.met.X.Subtree.reprint g.met.X.Subtree.apart c.args.self c.args.scope (toks c.args.tokens)) c.taken.result c.taken.ensures.reads
