use Rattle.std.proofs.Common.{ap, ◌∙◌}
use Rattle.token_core.specs.declared.tree.Delimiter.TheVariants.{None}
use Rattle.token_core.specs.Front.{past_ends}
use Rattle.token_core.specs.Groups.{as_invisible, is_there, sees_invisible}
use Rattle.token_core.specs.Sees.{is_group}
use Rattle.token_core.proofs.SeenClasses.{invisible_first}
use Rattle.token_core.proofs.place.Place.sees_invisible.Goals as goal

pub returns : goal.returns
unfolding sees_invisible
returns c =
    c.is_group.ensures ∙ ap (λ k. is_group k None) c.stepped-class.ensures.class ∙ invisible_first c.past_ends.result.now
    ∙ ap (λ l. is_there (as_invisible l)) (c.past_ends.ensures.shown ∙ ap past_ends c.self.view_is)
