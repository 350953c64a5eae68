use Rattle.std.proofs.Common.{◌≡◌, ◌-◌, ◌++◌, ◌∷◌, [], map, take, length, ap, sym, ◌∙◌, append_assoc, rules, arith}
use Rattle.std.proofs.lemmas.Grind.{common_steps}
use Rattle.std.proofs.Math.ListN.{set}
use Rattle.token_core.specs.declared.tree.Group.{out-Group}
use Rattle.token_core.specs.declared.tree.TokenTree.TheOpen as o
use Rattle.token_core.specs.Seen.{saw_leave, saw_delimiter}
use Rattle.token_core.specs.Entries.{saw, saw_layer, flat_tree, flat_stream, all_of}
use Rattle.token_core.specs.Trees.{delimiter_of, span_of, content_of}
use Rattle.token_core.specs.declared.tree.TokenTree.{out-TokenTree}
use Rattle.token_core.specs.declared.tree.TokenTree.TheVariants.{outs-Ident, outs-Punct, outs-Literal, outs-Group}
use Rattle.token_core.proofs.Flats.{flat_stream_is, flat_tree_is, flat_group_is, tree_flat}
use Rattle.token_core.proofs.Fills.{all_of_more, group_filled, group_count}
use Rattle.token_core.proofs.buffer.+fill.Goals as goal

pub fill_trees-loop-tree-preserved : goal.fill_trees-loop-tree-preserved
fill_trees-loop-tree-preserved t c =
    let m = all_of_more c.args.trees.now c.loop-tree.tree-index c.tree-item.result (omega arith) c.tree-item.is in
    let e : map saw c.fill_tree.new.entries.items ≡ map saw c.loop-tree.entries.items ++ flat_tree c.tree-item.result = search rules in
    e ∙ ap (λ x. x ++ flat_tree c.tree-item.result) c.loop-tree.invariant ∙ append_assoc (map saw c.args.entries.now.items) (all_of (map flat_tree (take c.loop-tree.tree-index c.args.trees.now))) (flat_tree c.tree-item.result) ∙ ap (λ x. map saw c.args.entries.now.items ++ x) (sym m)

pub fill_trees-returns : goal.fill_trees-returns
fill_trees-returns t c =
    let f = flat_stream_is c.args.trees.now in
    let whole : take c.loop-tree.tree-index c.args.trees.now ≡ c.args.trees.now = grind (arith, common_steps) in
    let i = c.loop-tree.invariant in
    cc

pub fill_tree-returns-in_ok-push-in-Ident : goal.fill_tree-returns-in_ok-push-in-Ident
fill_tree-returns-in_ok-push-in-Ident t c =
    let f = flat_tree_is c.args.tree.now in
    let u = ap out-TokenTree c.in-Ident.is ∙ outs-Ident c.in-Ident.field-0 in
    rw (f, u) (first_of (search (rules, u), grind (arith, common_steps, u)))

pub fill_tree-returns-in_ok-push-in-Punct : goal.fill_tree-returns-in_ok-push-in-Punct
fill_tree-returns-in_ok-push-in-Punct t c =
    let f = flat_tree_is c.args.tree.now in
    let u = ap out-TokenTree c.in-Punct.is ∙ outs-Punct c.in-Punct.field-0 in
    rw (f, u) (first_of (search (rules, u), grind (arith, common_steps, u)))

pub fill_tree-returns-in_ok-push-in-Literal : goal.fill_tree-returns-in_ok-push-in-Literal
fill_tree-returns-in_ok-push-in-Literal t c =
    let f = flat_tree_is c.args.tree.now in
    let u = ap out-TokenTree c.in-Literal.is ∙ outs-Literal c.in-Literal.field-0 in
    rw (f, u) (first_of (search (rules, u), grind (arith, common_steps, u)))

pub fill_tree-returns-in_ok-push-in-Group-2 : goal.fill_tree-returns-in_ok-push-in-Group-2
fill_tree-returns-in_ok-push-in-Group-2 t c =
    let g = c.in-Group.group in
    let old = c.args.entries.now.items in
    let filled = c.fill_trees.new.entries.items in
    let inner = flat_stream (out-Group g).content.0 in
    let e0 = c.of-entry.result in
    let e1 = c.of.result in
    let e2 = c.end.result in
    let u : out-TokenTree c.args.tree.now ≡ o.Group g = ap out-TokenTree c.in-Group.is ∙ outs-Group g in
    let p : c.push.new.self.items ≡ old ++ e0 ∷ [] = search rules in
    let s : flat_stream c.trees.result.now ≡ inner = ap flat_stream (c.trees.ensures ∙ c.stream.ensures) in
    let h : map saw filled ≡ map saw (old ++ e0 ∷ []) ++ inner =
    c.in_ok-fill_trees-in-Group.ensures ∙ ap (λ x. map saw x ++ flat_stream c.trees.result.now) p ∙ ap (λ x. map saw (old ++ e0 ∷ []) ++ x) s in
    let at : c.len-at.result ≡ length old = search rules in
    let len : c.len.result ≡ length filled = search rules in
    let new : c.push-in-Group.new.self.items ≡ set filled c.len-at.result e1 ++ e2 ∷ [] = search rules in
    let count : c.len.result - c.len-at.result - 1 ≡ length inner = rw (at, len) (group_count old filled e0 e1 e2 inner h) in
    let seen : saw e1 ≡ saw_delimiter (delimiter_of g) (span_of g) (content_of g) (length inner) =
    c.of.ensures ∙ ap (saw_layer (c.len.result - c.len-at.result - 1)) u ∙ ap (saw_delimiter (delimiter_of g) (span_of g) (content_of g)) count in
    let whole : flat_tree c.args.tree.now ≡ saw_delimiter (delimiter_of g) (span_of g) (content_of g) (length inner) ∷ (inner ++ saw_leave ∷ []) =
    flat_tree_is c.args.tree.now ∙ ap tree_flat u ∙ flat_group_is g in
    ap (λ x. map saw x) new ∙ ap (λ i. map saw (set filled i e1 ++ e2 ∷ [])) at
    ∙ group_filled old filled e0 e1 e2 inner h
    ∙ ap (λ x. map saw old ++ (saw e1 ∷ (inner ++ x ∷ []))) c.end.ensures
    ∙ ap (λ x. map saw old ++ (x ∷ (inner ++ saw_leave ∷ []))) seen ∙ ap (λ x. map saw old ++ x) (sym whole)
