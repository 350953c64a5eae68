use Rattle.token_text.proofs.DepthLaws.{listed}
use Rattle.token_text.proofs.depth.check_text.Goals as goal

pub returns-clause-listed : goal.returns-clause-listed
returns-clause-listed c = listed c.args.docs c.args.limit c.args.text.now
