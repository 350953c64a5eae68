use Rattle.std.proofs.Common.{refl}
use Rattle.token_core.proofs.Places.{none_left}
use Rattle.token_core.proofs.cursor.Cursor.tree.Goals as goal

pub returns-then-self-eq0 : goal.returns-then-self-eq0
returns-then-self-eq0 c = rw (none_left _ _ c.self.view_is c.if-self-eq0.true) refl
