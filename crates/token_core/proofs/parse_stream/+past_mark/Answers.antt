use Rattle.std.proofs.Common.{rules, arith}
use Rattle.std.proofs.lemmas.Grind.{common_steps}
use Rattle.token_core.proofs.Marks.{marks_more}
use Rattle.token_core.proofs.parse_stream.+past_mark.Goals as goal

pub returns-in-None : goal.returns-in-None
returns-in-None t c = rw (marks_more c.args.marks.now c.args.i 0 (omega arith)) (first_of (search rules, grind (arith, common_steps)))
