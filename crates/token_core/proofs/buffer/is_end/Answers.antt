use Rattle.std.proofs.Common.{◌∙◌}
use Rattle.token_core.proofs.SeenClasses.{ends_classed}
use Rattle.token_core.proofs.buffer.is_end.Goals as goal

pub returns : goal.returns
returns c = c.is_end.ensures ∙ ends_classed c.args.entry.now
