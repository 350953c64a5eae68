-- What is reached from a position is reached from it further on.
use Rattle.std.specs.Prelude.{List}
use Rattle.token_core.specs.Positions.{Item, IsReached, there}
use Rattle.token_core.specs.Reads.{Follows}
use Rattle.token_core.specs.Stream.{Stream}
use Rattle.token_core.proofs.Places.{reached_follows, reached_trans}
use Rattle.syn_forms.specs.verbatim.Reading.{position}

pub reached_later : (from : List Item) (s t : Stream) → IsReached (position s) from → Follows s t → IsReached (position t) from
reached_later from s t r f = reached_trans (position t) (position s) from (reached_follows s t f) r

pub ruleset later = (reached_later, reached_follows, there)
