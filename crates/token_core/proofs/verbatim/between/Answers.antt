use Rattle.std.proofs.Common.{◌≡◌, ◌++◌, false, sym, ap, ◌∙◌, append-nil, rules}
use Rattle.token_core.specs.Cut.{trees_between}
use Rattle.token_core.specs.Trees.{trees}
use Rattle.token_core.specs.Positions.{is_before}
use Rattle.token_core.proofs.Cuts.{between_same, between_trees}
use Rattle.token_core.proofs.verbatim.between.Goals as goal

pub returns : goal.returns
returns c =
    let b : is_before c.parts.cursor c.args.end.now ≡ false = search rules in
    let e = between_same c.parts.cursor c.args.end.now b in
    let w : trees c.parts.tokens ≡ trees_between c.args.begin.now c.args.end.now = sym (append-nil (trees c.parts.tokens)) ∙ ap (λ z. trees c.parts.tokens ++ z) (sym e) ∙ sym c.parts.invariant.told in
    record {
      trees = w;
      whole = λ l q. w ∙ between_trees l c.args.begin.now c.args.end.now q;
    }
