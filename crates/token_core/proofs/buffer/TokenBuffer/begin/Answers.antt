use Rattle.std.proofs.Common.{◌≡◌, ap, ◌∙◌, rules}
use Rattle.token_core.specs.Positions.{entries_items}
use Rattle.token_core.proofs.Positions.{items_seen}
use Rattle.token_core.proofs.buffer.TokenBuffer.begin.Goals as goal

pub returns : goal.returns
returns c =
    let e : c.as_slice-entries.result.now ≡ c.self.inside.entries.items = search rules in
    ap entries_items e ∙ items_seen c.self.inside.entries.items c.args.self.now c.self.invariant c.self.view_is
