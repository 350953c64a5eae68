use Rattle.std.proofs.Common.{◌≡◌, ◌+◌, ◌∷◌, [], ◌++◌, drop, sym, ap, ◌∙◌, subst, arith}
use Rattle.token_core.specs.declared.tree.TokenTree.TheVariants as t
use Rattle.token_core.specs.Prints.{puncts, Extends}
use Rattle.token_core.specs.Spans.{none}
use Rattle.token_core.proofs.Puts.{first_spacing, first_span, is_joint, is_alone, is_span, no_span, next_punct, put_next, extends_append}
use Rattle.token_core.proofs.token.put_puncts.Goals as goal
use Rattle.token_core.proofs.token.put_puncts.Goals.{then-at-chars, else-at-chars, then-at-spans, else-at-spans}

pub chars-preserved : goal.chars-preserved
chars-preserved c =
    let i = c.chars.at in
    let cs = c.args.chars.now in
    let ss = c.args.spans.now in
    let old = c.args.out.now in
    let x = t.Punct c.new.result in
    let j : c.if-at-chars.spacing ≡ first_spacing (drop (i + 1) cs) = elim c.if-at-chars.branch [
      | then-at-chars w ↦ w.spacing-is ∙ is_joint (i + 1) cs w.if-at-chars.true
      | else-at-chars w ↦ w.spacing-is ∙ is_alone (i + 1) cs w.if-at-chars.false
    ] in
    let a : c.if-at-spans.span ≡ first_span (drop i ss) = elim c.if-at-spans.branch [
      | then-at-spans w ↦ w.span-is ∙ is_span i ss none w.if-at-spans.true
      | else-at-spans w ↦ w.span-is ∙ w.none-span.ensures ∙ no_span i ss w.if-at-spans.false
    ] in
    let e = next_punct i cs ss c.index-chars-at.result c.if-at-chars.spacing c.if-at-spans.span c.chars-test.true c.index-chars-at.is j a in
    let is = e ∙ ap (λ z. t.Punct z ∷ puncts (drop (i + 1) cs) (drop (i + 1) ss)) (sym c.new.ensures) in
    let n : c.push.new.self ≡ c.chars.out ++ x ∷ [] = c.in_ok-push.ensures.ok in
    record {
      in_range = omega (arith, c.chars-test.true);
      told = put_next i cs ss x old c.chars.out c.push.new.self (puncts cs ss) is c.chars.invariant.told n;
      kept = subst (λ z. Extends old z) (sym n) (extends_append old c.chars.out (x ∷ []) c.chars.invariant.kept);
    }
