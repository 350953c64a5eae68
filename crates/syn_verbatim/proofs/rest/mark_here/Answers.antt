use Rattle.std.proofs.Common.{◌∙◌, sym, ap}
use Rattle.token_core.specs.Positions.{has_tree}
use Rattle.syn_verbatim.proofs.Steps.{tree-mark, tree-there}
use Rattle.syn_verbatim.proofs.rest.mark_here.Goals as goal

pub returns-in-Some : goal.returns-in-Some
returns-in-Some c =
    let now = c.args.input.now in
    c.as_mark.ensures ∙ tree-mark now.rest now.scope.after c.requires.something c.requires.visible c.in-Some.tree.now c.in-Some.field-0-1 (sym c.outside.ensures ∙ c.in-Some.ensures)

pub returns-in-None : goal.returns-in-None
returns-in-None c =
    let now = c.args.input.now in
    absurd (tree-there now.rest now.scope.after c.requires.something c.requires.visible (ap has_tree (sym c.outside.ensures) ∙ c.in-None.ensures))
