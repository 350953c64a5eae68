use Rattle.std.proofs.Common.{ap}
use Rattle.token_core.proofs.Places.{placed, stands_first}
use Rattle.token_core.proofs.place.Placed.begin.Goals as goal

pub invariant_of-result : goal.invariant_of-result
invariant_of-result c =
    let s = stands_first c.place.inside.entries.now c.args.place c.place.invariant.0 c.place.view_is in
    (s.nested, s.is)

pub returns : goal.returns
returns c =
    let s = stands_first c.place.inside.entries.now c.args.place c.place.invariant.0 c.place.view_is in
    ap (placed c.args.place) s.after_is
