use Rattle.std.proofs.Common.{[], ◌∙◌}
use Rattle.std.proofs.Math.ListN.{get_or-map}
use Rattle.token_core.specs.Marks.{mark_table, quoted, mark_name}
use Rattle.token_core.proofs.mark.mark_name.Goals as goal

pub returns : goal.returns
unfolding mark_name
returns c = c.name_at.ensures ∙ get_or-map quoted mark_table c.args.n []
