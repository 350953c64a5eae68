use Rattle.std.proofs.Common.{ap, ◌∙◌, subst}
use Rattle.std.proofs.lemmas.Option.{IfSome_then}
use Rattle.token_core.specs.Front.{past_ends}
use Rattle.token_core.specs.Positions.{Holds}
use Rattle.token_core.proofs.Places.{holds_outside}
use Rattle.token_core.proofs.place.Place.next_invisible.Goals as goal

pub returns-clause-held : goal.returns-clause-held
returns-clause-held c =
    let e = c.past_ends.ensures.shown ∙ ap past_ends c.self.view_is in
    IfSome_then c.first_invisible.result c.first_invisible.ensures.held (λ p h. holds_outside c.args.self.now p.1 p.2 (subst (λ z. Holds z p.1 p.2) e h))
