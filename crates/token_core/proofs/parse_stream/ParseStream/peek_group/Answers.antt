use Rattle.std.proofs.Common.{ap, ◌∙◌}
use Rattle.token_core.specs.Sees.{is_group}
use Rattle.token_core.proofs.SeenClasses.{group_seen}
use Rattle.token_core.proofs.parse_stream.ParseStream.peek_group.Goals as goal

pub returns : goal.returns
returns c = c.is_group.ensures ∙ ap (λ k. is_group k c.args.delimiter) c.class.ensures ∙ group_seen _ _
