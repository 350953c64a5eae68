use Rattle.std.proofs.Common.{ap, ◌∙◌}
use Rattle.token_core.specs.Sees.{bounds}
use Rattle.token_core.proofs.SeenClasses.{bounds_classed}
use Rattle.token_core.proofs.buffer.is_bound.Goals as goal

pub returns : goal.returns
returns c = c.bounds.ensures ∙ ap bounds c.class.ensures ∙ bounds_classed c.args.entry.now
