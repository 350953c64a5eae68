use Rattle.std.specs.Prelude.{Decides}
use Rattle.std.proofs.Common.{◌≡◌, false, map, take, length, refl, ap, sym, ◌∙◌, rules, arith, subst}
use Rattle.std.proofs.lemmas.Grind.{common_steps}
use Rattle.token_core.proofs.Rows.{take_all}
use Rattle.token_core.specs.Trees.{delimiter_of, content_of}
use Rattle.token_core.specs.Same.{bare_tree, bare_stream}
use Rattle.token_core.proofs.Bares.{group_ident, group_punct, group_literal, same_group, other_delimiter, same_content, other_length, other_tree, all_same}
use Rattle.token_core.proofs.tree.+same.Goals as goal

pub is_group-returns-in-Ident : goal.is_group-returns-in-Ident
is_group-returns-in-Ident t c = group_ident _ _ c.in-Ident.field-0 c.in-Ident.is

pub is_group-returns-in-Punct : goal.is_group-returns-in-Punct
is_group-returns-in-Punct t c = group_punct _ _ c.in-Punct.field-0 c.in-Punct.is

pub is_group-returns-in-Literal : goal.is_group-returns-in-Literal
is_group-returns-in-Literal t c = group_literal _ _ c.in-Literal.field-0 c.in-Literal.is

pub is_group-returns-in-Group : goal.is_group-returns-in-Group
is_group-returns-in-Group t c = same_group _ _ _ _ c.in-Group.is c.same_group.ensures

pub same_group-returns-then-ne : goal.same_group-returns-then-ne
same_group-returns-then-ne t c =
    let h : delimiter_of c.args.group.now ≡ delimiter_of c.args.other.now → ⊥ = first_of (search rules, grind (arith, common_steps)) in
    other_delimiter _ _ h

pub same_group-returns : goal.same_group-returns
same_group-returns t c =
    let h : delimiter_of c.args.group.now ≡ delimiter_of c.args.other.now = first_of (search rules, grind (arith, common_steps)) in
    let a = c.trees.ensures ∙ c.stream.ensures in
    let b = c.trees-2.ensures ∙ c.stream-2.ensures in
    let d = subst (λ z. Decides c.same_trees.result (bare_stream z ≡ bare_stream c.trees-2.result.now)) a c.same_trees.ensures in
    same_content c.args.group.now c.args.other.now _ h (subst (λ z. Decides c.same_trees.result (bare_stream (content_of c.args.group.now) ≡ bare_stream z)) b d)

pub same_trees-returns-then-trees-others : goal.same_trees-returns-then-trees-others
same_trees-returns-then-trees-others t c =
    let h : length c.args.trees.now ≡ length c.args.others.now → ⊥ = λ e. absurd (omega (arith, e)) in
    other_length _ _ h

pub same_trees-returns-then-not-same_tree : goal.same_trees-returns-then-not-same_tree
same_trees-returns-then-not-same_tree t c =
    let b : c.same_tree.result ≡ false = first_of (search rules, grind (arith, common_steps)) in
    let d = subst (λ r. Decides r (bare_tree c.tree-item.result ≡ bare_tree c.index-others-at.result)) b c.same_tree.ensures in
    other_tree _ _ _ _ c.loop-tree.tree-index c.loop-tree.at _ _ refl refl c.loop-tree.invariant.place (omega arith) c.tree-item.is c.index-others-at.is d

pub same_trees-returns : goal.same_trees-returns
same_trees-returns t c =
    let i : take c.loop-tree.tree-index c.args.trees.now ≡ c.args.trees.now = take_all _ _ (omega arith) in
    let o : take c.loop-tree.tree-index c.args.others.now ≡ c.args.others.now = take_all _ _ (omega arith) in
    all_same _ _ (ap (map bare_tree) (sym i) ∙ c.loop-tree.invariant.same ∙ ap (map bare_tree) o)
