use Rattle.token_core.proofs.SeenClasses.{entry_classed}
use Rattle.token_core.proofs.class.Entry.class.Goals as goal

pub returns : goal.returns
returns c = entry_classed c.args.self.now
