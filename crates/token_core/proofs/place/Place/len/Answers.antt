use Rattle.token_core.proofs.Positions.{count}
use Rattle.token_core.proofs.place.Place.len.Goals as goal

pub returns : goal.returns
returns c = count c.self.inside.entries.now c.args.self.now c.self.invariant.0 c.self.view_is
