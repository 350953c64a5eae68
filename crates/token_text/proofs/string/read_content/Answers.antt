use Rattle.token_text.proofs.StringLaws.{stored_so, unopened_text}
use Rattle.token_text.proofs.string.read_content.Goals as goal

pub returns-in-None-clause-malformed : goal.returns-in-None-clause-malformed
returns-in-None-clause-malformed c = stored_so _ _ c.no_string.ensures (unopened_text c.args.lit.now c.text.result.now c.text.ensures c.in-None.ensures)
