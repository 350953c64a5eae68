use Rattle.std.proofs.Common.{ap, sym}
use Rattle.token_text.specs.Front.{fraction}
use Rattle.token_text.proofs.Pasts.{tells_past}
use Rattle.token_text.proofs.number.decimal.Goals as goal

pub returns : goal.returns
returns c = tells_past _ _ _ _ _ c.after_run.ensures.past (ap fraction (sym c.after_run.ensures.rest)) c.fraction.ensures
