use Rattle.std.proofs.Common.{if◌then◌else◌, ap}
use Rattle.token_core.specs.declared.tree.TokenTree.{out-TokenTree}
use Rattle.token_core.specs.Seen.{saw_leave}
use Rattle.token_core.specs.Entries.{saw_layer}
use Rattle.token_core.proofs.SeenClasses.{tree_end}
use Rattle.token_core.proofs.class.Entry.of.Goals as goal

pub returns : goal.returns
returns c =
    let x = out-TokenTree c.args.tree.now in
    ap (λ b. if b then saw_leave else saw_layer c.args.content x) (tree_end c.tree_class.result x c.tree_class.ensures)
