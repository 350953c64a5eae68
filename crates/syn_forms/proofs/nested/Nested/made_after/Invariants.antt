use Rattle.std.proofs.Common.{◌≡◌, ◌<◌, length}
use Rattle.token_core.specs.Loops.{after}
use Rattle.token_core.specs.Reads.{Follows, ◌<$>◌}
use Rattle.syn_forms.specs.lists.Reading.{list}
use Rattle.syn_forms.specs.nested.Below.{ahead, held}
use Rattle.syn_forms.proofs.lists_laws.Turns.{Told}
use Rattle.syn_forms.proofs.nested.Nested.made_after.Given as goal

abbrev pub invariant-turn : goal.invariant-turn
invariant-turn g l = record {
  told : Told (g.S.End.stops l.fn.end) (g.K.Make.make l.fn.make <$> held g.T.Tree.read (length l.fn.self.begin) l.fn.place) (g.S.End.more l.fn.end) (g.S.End.joint l.fn.end)
      (after l.fn.list (list (g.S.End.stops l.fn.end) (g.K.Make.make l.fn.make <$> held g.T.Tree.read (length l.fn.self.begin) l.fn.place) (g.S.End.more l.fn.end) (g.S.End.joint l.fn.end) l.fn.first l.fn.input)) l.list l.first l.input;
  whole : length l.list.0 ≡ length l.list.1;
  few : ahead l.input < length l.fn.self.begin;
  within : Follows l.fn.input l.input;
}

abbrev pub decreases-turn : goal.decreases-turn
decreases-turn g l = ahead l.input
