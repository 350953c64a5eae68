use Rattle.std.proofs.Common.{ap₂, ◌∙◌}
use Rattle.token_core.specs.Sees.{after_class}
use Rattle.token_core.proofs.SeenClasses.{one_seen}
use Rattle.token_core.proofs.place.Place.after_one.Goals as goal

pub returns : goal.returns
returns c = c.after_class.ensures ∙ ap₂ after_class c.step-class.ensures.class c.step-class.ensures.more ∙ one_seen _
