use Rattle.std.proofs.Common.{ap, ◌∙◌}
use Rattle.token_core.specs.Sees.{is_any_ident}
use Rattle.token_core.proofs.SeenClasses.{any_ident_seen}
use Rattle.token_core.proofs.parse_stream.ParseStream.peek_any_ident.Goals as goal

pub returns : goal.returns
returns c = c.is_any_ident.ensures ∙ ap is_any_ident c.class.ensures ∙ any_ident_seen _
