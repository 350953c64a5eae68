use Rattle.std.proofs.Common.{◌≡◌, map, sym, ap, ◌∙◌, subst, rules}
use Rattle.token_core.specs.Seen.{view}
use Rattle.token_core.specs.Entries.{saw, Nested, flat_stream}
use Rattle.token_core.proofs.Flats.{nested_flat, view-flat}
use Rattle.token_core.proofs.buffer.TokenBuffer.new.Goals as goal

pub invariant_of-result : goal.invariant_of-result
invariant_of-result c =
    let e : map saw c.fill_trees.new.entries.items ≡ flat_stream c.args.stream.now = search rules in
    subst Nested (sym e) (nested_flat c.args.stream.now)

pub returns : goal.returns
returns c =
    let e : map saw c.fill_trees.new.entries.items ≡ flat_stream c.args.stream.now = search rules in
    ap view e ∙ view-flat c.args.stream.now
