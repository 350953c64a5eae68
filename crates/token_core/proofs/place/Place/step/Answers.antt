use Rattle.std.proofs.Common.{map, sym, ap, ◌∙◌, subst}
use Rattle.token_core.specs.Seen.{view}
use Rattle.token_core.specs.Entries.{saw, entries_view, Nested}
use Rattle.token_core.specs.Front.{front}
use Rattle.token_core.specs.Sees.{class_at, rest_of}
use Rattle.token_core.proofs.SeenClasses.{class_first, after_seen, nested_after}
use Rattle.token_core.proofs.place.Place.step.Goals as goal

pub of-requires : goal.of-requires
of-requires c = subst Nested (sym c.stepped-class.ensures.more) (nested_after (map saw c.self.inside.front.now) c.self.invariant.1.0)

pub returns-clause-class : goal.returns-clause-class
returns-clause-class c = c.stepped-class.ensures.class ∙ class_first (map saw c.self.inside.front.now) ∙ ap class_at (c.self.invariant.1.1 ∙ ap front c.self.view_is)

pub returns-clause-more : goal.returns-clause-more
returns-clause-more c =
    c.of.ensures ∙ ap view c.stepped-class.ensures.more ∙ after_seen (map saw c.self.inside.front.now) (entries_view c.self.inside.entries.now) c.self.invariant.1.1
    ∙ ap (λ t. rest_of (front t)) c.self.view_is
