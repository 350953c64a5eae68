use Rattle.std.proofs.Common.{ap, ◌∙◌}
use Rattle.token_core.specs.Classes.{builtin_number}
use Rattle.token_core.specs.Sees.{is_word}
use Rattle.token_core.proofs.SeenClasses.{builtin_seen}
use Rattle.token_core.proofs.parse_stream.ParseStream.peek_builtin.Goals as goal

pub returns : goal.returns
returns c = c.is_word.ensures ∙ ap (λ k. is_word k builtin_number) c.class.ensures ∙ builtin_seen _
