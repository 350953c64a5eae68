use Rattle.std.proofs.Common.{◌∷◌, ◌++◌, sym, ap, ◌∙◌}
use Rattle.token_core.specs.declared.tree.TokenTree.{out-TokenTree}
use Rattle.token_core.specs.declared.tree.TokenTree.TheVariants.{outs-Ident, outs-Punct, outs-Literal}
use Rattle.token_core.specs.Entries.{saw_layer}
use Rattle.token_core.specs.Positions.{item, tree_items, entries_items}
use Rattle.token_core.proofs.Positions.{ident_items, punct_items, literal_items}
use Rattle.token_core.proofs.Places.{tree_past, nested_past}
use Rattle.token_core.proofs.cursor.past_tree.Goals as goal

pub returns-in-Ident : goal.returns-in-Ident
returns-in-Ident c =
    let i = c.in-Ident.field-0 in
    let l = entries_items c.args.more.now in
    ap (λ z. item (saw_layer c.args.n z) ∷ l) (ap out-TokenTree c.in-Ident.is ∙ outs-Ident i) ∙ ap (λ z. z ++ l) (sym (ident_items i)) ∙ ap (λ z. tree_items z ++ l) (sym c.in-Ident.is)

pub returns-in-Punct : goal.returns-in-Punct
returns-in-Punct c =
    let p = c.in-Punct.field-0 in
    let l = entries_items c.args.more.now in
    ap (λ z. item (saw_layer c.args.n z) ∷ l) (ap out-TokenTree c.in-Punct.is ∙ outs-Punct p) ∙ ap (λ z. z ++ l) (sym (punct_items p)) ∙ ap (λ z. tree_items z ++ l) (sym c.in-Punct.is)

pub returns-in-Literal : goal.returns-in-Literal
returns-in-Literal c =
    let k = c.in-Literal.field-0 in
    let l = entries_items c.args.more.now in
    ap (λ z. item (saw_layer c.args.n z) ∷ l) (ap out-TokenTree c.in-Literal.is ∙ outs-Literal k) ∙ ap (λ z. z ++ l) (sym (literal_items k)) ∙ ap (λ z. tree_items z ++ l) (sym c.in-Literal.is)

pub invariant_of-result : goal.invariant_of-result
invariant_of-result c = nested_past c.args.tree.now c.in-Group.field-0 c.args.n c.args.more.now _ c.in-Group.is c.requires c.around.ensures.after

pub returns-in-Group : goal.returns-in-Group
returns-in-Group c = tree_past c.args.tree.now c.in-Group.field-0 c.args.n c.args.more.now _ c.in-Group.is c.requires c.around.ensures.after
