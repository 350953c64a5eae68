use Rattle.syn_path.proofs.aside_laws.Streams.{lists_same}
use Rattle.syn_laws.proofs.aside.lists_aside.Goals as goal

pub returns : goal.returns
returns c = lists_same c.args.one.now c.args.other.now
