use Rattle.std.proofs.Common.{ap, ◌∙◌}
use Rattle.token_core.specs.Sees.{are_chars}
use Rattle.token_core.proofs.SeenClasses.{mark_seen}
use Rattle.token_core.proofs.place.Place.sees_mark.Goals as goal

pub returns : goal.returns
returns c = c.sees_chars.ensures ∙ ap (are_chars c.args.chars.now) c.again.ensures ∙ mark_seen _ _
