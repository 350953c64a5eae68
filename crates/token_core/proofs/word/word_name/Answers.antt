use Rattle.std.proofs.Common.{[], ◌∙◌}
use Rattle.std.proofs.Math.ListN.{get_or-map}
use Rattle.token_core.specs.Keywords.{words}
use Rattle.token_core.specs.Marks.{quoted, word_name}
use Rattle.token_core.proofs.word.word_name.Goals as goal

pub returns : goal.returns
unfolding word_name
returns c = c.name_at.ensures ∙ get_or-map quoted words c.args.n []
