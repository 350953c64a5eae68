use Rattle.std.specs.Char.{encode_utf8}
use Rattle.token_text.proofs.Words.{no_quote}
use Rattle.token_text.proofs.state.past_quote.Goals as goal

pub returns-in-None : goal.returns-in-None
unfolding encode_utf8
returns-in-None c = no_quote c.args.text.now c.in-None.ensures.cases
