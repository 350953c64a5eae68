use Rattle.std.proofs.Common.{map, ap, ◌∙◌}
use Rattle.token_core.specs.Entries.{saw}
use Rattle.token_core.proofs.SeenClasses.{entry_after}
use Rattle.token_core.proofs.buffer.after.Goals as goal

pub returns : goal.returns
returns c = ap (map saw) c.past.ensures ∙ entry_after c.args.entry.now c.args.more.now
