use Rattle.std.proofs.Common.{rules, arith}
use Rattle.std.proofs.lemmas.Grind.{common_steps}
use Rattle.token_core.specs.Members.{read_member, read_index, sees_int}
use Rattle.token_core.specs.Reads.{sees_word, read_word, next_word, refused, is_done, here, expected_text}
use Rattle.token_core.proofs.Suffixes.{follows_self}
use Rattle.token_core.proofs.member.parse_member.Goals as goal

pub returns-else-peek_int : goal.returns-else-peek_int
unfolding read_member sees_word read_word sees_int next_word read_index refused is_done here expected_text
returns-else-peek_int c = record { parses = (first_of (search rules, grind (arith, common_steps)), follows_self _) }
