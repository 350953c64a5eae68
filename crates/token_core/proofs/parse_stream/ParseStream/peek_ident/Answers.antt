use Rattle.std.proofs.Common.{ap, ◌∙◌}
use Rattle.token_core.specs.Sees.{is_ident}
use Rattle.token_core.proofs.SeenClasses.{ident_seen}
use Rattle.token_core.proofs.parse_stream.ParseStream.peek_ident.Goals as goal

pub returns : goal.returns
returns c = c.is_ident.ensures ∙ ap is_ident c.class.ensures ∙ ident_seen _
