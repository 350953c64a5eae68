-- Const arguments in their normal form print the same.
use Rattle.std.proofs.Common.{◌≡◌, Bool, true, false, List, [], ◌∷◌, cond, refl, sym, ◌∙◌, ap, subst}
use Rattle.token_core.specs.declared.tree.Delimiter.TheVariants.{Brace}
use Rattle.token_core.specs.Prints as p
use Rattle.token_core.specs.Prints.{Print}
use Rattle.token_core.specs.Spans.{none, delim_span}
use Rattle.token_core.specs.Trees.{stream_of_trees}
use Rattle.syn_path.specs.declared.supplied.Place.{Place}
use Rattle.syn_path.specs.declared.supplied.Place.TheVariants.{Block}
use Rattle.syn_attr.specs.declared.attr.Meta.{Meta}
use Rattle.syn_attr.specs.declared.attr.Meta.TheOpen as o
use Rattle.syn_attr.specs.declared.attr.MetaNameValue.{MetaNameValue}
use Rattle.syn_path.specs.path.Paths.{ModPath}
use Rattle.syn_attr.specs.declared.expr.Expr.{Expr, out-Expr, roll-Expr, roll-out-Expr}
use Rattle.syn_attr.specs.declared.expr.Expr.TheVariants as e
use Rattle.syn_attr.specs.declared.expr.ExprRange.{ExprRange}
use Rattle.syn_attr.specs.attr.Attrs.{Attribute, expr_path_of}
use Rattle.syn_attr.specs.laws.Alone.{const_alone, const_braced, alone-Lit, alone-Path, alone-Const, alone-Macro, alone-Range, alone-Block, alone-Other}
use Rattle.syn_attr.specs.attr.Normal as attr
use Rattle.syn_attr.specs.attr.Printing.{value}
use Rattle.syn_attr.proofs.attr_laws.Normal.{value_same, at_place_same}
use Rattle.syn_attr.specs.laws.Prints.{normal-Lit, normal-Path as normal-ExprPath, normal-Const as normal-ExprConst, normal-Macro, normal-Range, normal-Block, normal_place}
use Rattle.syn_attr.specs.attr.Consts.{is_word, stands_alone, const_argument, normal_const_argument}

pub ruleset alone = (alone-Lit, alone-Path, alone-Const, alone-Macro, alone-Range, alone-Block, alone-Other)

pub ruleset consts = (const_alone, const_braced)

pub true_false : {R : Type 0} → true ≡ false → R
true_false e = elim (subst (λ (b : Bool). cond b (Unit {0}) ⊥) e tt) [ ]

module _ {X : Type 0} (nx : Place → X → X) (px : Place → X → Print) (same : (w : Place) (x : X) → px w (nx w x) ≡ px w x) where
  -- what stands alone does so in its normal form
  word_kept : (l : List (Attribute X)) (q : ModPath) → is_word (expr_path_of (attr.attributes nx l) q) ≡ is_word (expr_path_of l q)
  word_kept [] q = refl
  word_kept (a ∷ l) q = refl

  abbrev Kept : Expr X → Type 0
  Kept x = stands_alone (normal_const_argument nx x) ≡ stands_alone x

  alone_layer_kept : (y : o.Expr-F X (Meta X) (Expr X) (MetaNameValue X) (ExprRange X)) → Kept (roll-Expr X y)
  alone_layer_kept (o.Lit x) =
      subst Kept (sym (e.rolls-Lit x)) (ap stands_alone (ap (λ z. attr.place_layer nx Block z (attr.value nx (e.Lit x))) (e.outs-Lit x) ∙ normal-Lit nx x) ∙ alone-Lit (attr.literal nx x) ∙ sym (alone-Lit x))
  alone_layer_kept (o.Expr::Path x) =
      subst Kept (sym (e.rolls-Path x)) (ap stands_alone (ap (λ z. attr.place_layer nx Block z (attr.value nx (e.Path x))) (e.outs-Path x) ∙ normal-ExprPath nx x) ∙ alone-Path (attr.expr_path nx x) ∙ word_kept x.attrs x.path ∙ sym (alone-Path x))
  alone_layer_kept (o.Const x) =
      subst Kept (sym (e.rolls-Const x)) (ap stands_alone (ap (λ z. attr.place_layer nx Block z (attr.value nx (e.Const x))) (e.outs-Const x) ∙ normal-ExprConst nx x) ∙ alone-Const (attr.expr_const nx x) ∙ sym (alone-Const x))
  alone_layer_kept (o.Macro x) =
      subst Kept (sym (e.rolls-Macro x)) (ap stands_alone (ap (λ z. attr.place_layer nx Block z (attr.value nx (e.Macro x))) (e.outs-Macro x) ∙ normal-Macro nx x) ∙ alone-Macro (attr.expr_macro nx x) ∙ sym (alone-Macro x))
  alone_layer_kept (o.Range x) =
      subst Kept (sym (e.rolls-Range x)) (ap stands_alone (ap (λ z. attr.place_layer nx Block z (attr.value nx (e.Range x))) (e.outs-Range x) ∙ normal-Range nx x) ∙ alone-Range (attr.range nx x) ∙ sym (alone-Range x))
  alone_layer_kept (o.Block x) =
      subst Kept (sym (e.rolls-Block x)) (ap stands_alone (ap (λ z. attr.place_layer nx Block z (attr.value nx (e.Block x))) (e.outs-Block x) ∙ normal-Block nx x) ∙ alone-Block (attr.block nx x) ∙ sym (alone-Block x))
  alone_layer_kept (o.Other x) = subst Kept (sym (e.rolls-Other x)) (ap stands_alone (normal_place nx Block x) ∙ alone-Other (nx Block x) ∙ sym (alone-Other x))

  alone_kept : (x : Expr X) → stands_alone (normal_const_argument nx x) ≡ stands_alone x
  alone_kept x = subst Kept (roll-out-Expr X x) (alone_layer_kept (out-Expr X x))

  -- where it does, it isn't a supplied subtree
  abbrev KeptValue : Expr X → Type 0
  KeptValue x = stands_alone x ≡ true → value px (normal_const_argument nx x) ≡ value px x

  value_layer_kept : (y : o.Expr-F X (Meta X) (Expr X) (MetaNameValue X) (ExprRange X)) → KeptValue (roll-Expr X y)
  value_layer_kept (o.Lit x) = subst KeptValue (sym (e.rolls-Lit x)) (λ h. ap (value px) (ap (λ z. attr.place_layer nx Block z (attr.value nx (e.Lit x))) (e.outs-Lit x)) ∙ value_same nx px same (e.Lit x))
  value_layer_kept (o.Expr::Path x) = subst KeptValue (sym (e.rolls-Path x)) (λ h. ap (value px) (ap (λ z. attr.place_layer nx Block z (attr.value nx (e.Path x))) (e.outs-Path x)) ∙ value_same nx px same (e.Path x))
  value_layer_kept (o.Block x) = subst KeptValue (sym (e.rolls-Block x)) (λ h. ap (value px) (ap (λ z. attr.place_layer nx Block z (attr.value nx (e.Block x))) (e.outs-Block x)) ∙ value_same nx px same (e.Block x))
  value_layer_kept (o.Const x) = subst KeptValue (sym (e.rolls-Const x)) (λ h. true_false (sym h ∙ alone-Const x))
  value_layer_kept (o.Macro x) = subst KeptValue (sym (e.rolls-Macro x)) (λ h. true_false (sym h ∙ alone-Macro x))
  value_layer_kept (o.Range x) = subst KeptValue (sym (e.rolls-Range x)) (λ h. true_false (sym h ∙ alone-Range x))
  value_layer_kept (o.Other x) = subst KeptValue (sym (e.rolls-Other x)) (λ h. true_false (sym h ∙ alone-Other x))

  value_kept : (x : Expr X) → stands_alone x ≡ true → value px (normal_const_argument nx x) ≡ value px x
  value_kept x = subst KeptValue (roll-out-Expr X x) (value_layer_kept (out-Expr X x))

  const_by : (x : Expr X) (b : Bool) → stands_alone x ≡ b → const_argument px (normal_const_argument nx x) ≡ const_argument px x
  const_by x true h = const_alone px (normal_const_argument nx x) (alone_kept x ∙ h) ∙ value_kept x h ∙ sym (const_alone px x h)
  const_by x false h =
      const_braced px (normal_const_argument nx x) (alone_kept x ∙ h) ∙ ap (λ z. p.group Brace (stream_of_trees z) (delim_span none none)) (at_place_same nx px same Block x) ∙ sym (const_braced px x h)

  pub const_argument_same : (x : Expr X) → const_argument px (normal_const_argument nx x) ≡ const_argument px x
  const_argument_same x = const_by x (stands_alone x) refl
