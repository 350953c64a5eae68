use Rattle.std.proofs.Common.{map, ap, ◌∙◌}
use Rattle.token_core.specs.Entries.{saw}
use Rattle.token_core.specs.Front.{front}
use Rattle.token_core.specs.Sees.{class_at}
use Rattle.token_core.proofs.SeenClasses.{class_first}
use Rattle.token_core.proofs.place.Place.front_class.Goals as goal

pub returns : goal.returns
returns c = c.first_class.ensures ∙ class_first (map saw c.self.inside.front.now) ∙ ap class_at (c.self.invariant.1.1 ∙ ap front c.self.view_is)
