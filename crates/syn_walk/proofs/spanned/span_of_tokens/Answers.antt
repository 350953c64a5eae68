use Rattle.std.proofs.Common.{map, drop, ◌+◌, sym, ap, ◌∙◌}
use Rattle.token_core.proofs.Parted.{drop_next}
use Rattle.syn_walk.specs.Spanned.{stands, given, further}
use Rattle.syn_walk.proofs.Spans.{told, told_next}
use Rattle.syn_walk.proofs.spanned.span_of_tokens.Goals as goal

pub loop-tree-preserved : goal.loop-tree-preserved
loop-tree-preserved c =
    let all = c.as_slice-tree-items.result.now in
    let i = c.loop-tree.tree-index in
    let found = c.loop-tree.found in
    let rest = map stands (drop (i + 1) all) in
    ap (λ r. told r (given rest)) (c.further-found.ensures ∙ ap (λ z. further found z) c.span_of_tree.ensures)
    ∙ told_next found (stands c.tree-item.result) rest
    ∙ ap (λ l. told found (given (map stands l))) (sym (drop_next all i c.tree-item.result c.loop-tree-test.true c.tree-item.is))
    ∙ c.loop-tree.invariant
