use Rattle.std.proofs.Common.{ap, ◌∙◌}
use Rattle.token_core.specs.Classes.{is_end}
use Rattle.token_core.proofs.SeenClasses.{end_seen}
use Rattle.token_core.proofs.parse_stream.ParseStream.is_empty.Goals as goal

pub returns : goal.returns
returns c = c.is_end.ensures ∙ ap is_end c.class.ensures ∙ end_seen _
