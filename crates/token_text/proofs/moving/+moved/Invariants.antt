use Rattle.std.proofs.Common.{◌≡◌, ◌++◌, drop}
use Rattle.token_text.specs.Moving.{moved, moved_trees}
use Rattle.token_text.proofs.moving.+moved.Given as goal

abbrev pub invariant-moved_trees-loop-tree : goal.invariant-moved_trees-loop-tree
invariant-moved_trees-loop-tree l =
    let f = moved l.content.held.places.items l.content.closing in l.moved ++ moved_trees f (drop l.tree-index l.trees) ≡ moved_trees f l.trees
