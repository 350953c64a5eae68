use Rattle.std.proofs.Common.{not, ap}
use Rattle.token_text.specs.Pieces.{has_raw_form}
use Rattle.token_text.proofs.word.has_raw_form.Goals as goal

pub returns : goal.returns
unfolding has_raw_form
returns c = ap not c.contains.ensures.value
