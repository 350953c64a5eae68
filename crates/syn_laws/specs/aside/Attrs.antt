-- Attributes and expressions without their spans, by what a supplied subtree is without its own.
use Rattle.std.specs.Prelude.{List, map}
use Rattle.token_core.specs.Same.{bare_stream}
use Rattle.syn_attr.specs.declared.attr.AttrStyle.{AttrStyle}
use Rattle.syn_attr.specs.declared.attr.AttrStyle.TheVariants as y
use Rattle.syn_attr.specs.declared.attr.Meta.{Meta}
use Rattle.syn_attr.specs.declared.attr.Meta.TheVariants as m
use Rattle.syn_attr.specs.declared.attr.Meta.TheOpen as o
use Rattle.syn_attr.specs.declared.attr.Meta.TheFolds.{fold-Meta, fold-Expr, fold-ExprRange, fold-MetaNameValue}
use Rattle.syn_attr.specs.declared.attr.MetaList.{MetaList}
use Rattle.syn_attr.specs.declared.attr.MetaNameValue.{MetaNameValue}
use Rattle.syn_attr.specs.declared.expr.Expr.{Expr}
use Rattle.syn_attr.specs.declared.expr.Expr.TheVariants as e
use Rattle.syn_attr.specs.declared.expr.ExprConstOf.{ExprConstOf}
use Rattle.syn_attr.specs.declared.expr.ExprLitOf.{ExprLitOf}
use Rattle.syn_attr.specs.declared.expr.ExprRange.{ExprRange}
use Rattle.syn_attr.specs.attr.Attrs.{Attribute, list_of, name_value_of, range_of, lit_of, expr_path_of, const_of, expr_macro_of, block_of, attribute_of}
use Rattle.syn_path.specs.aside.Paths.{mod_path, delimiter, mac}
use Rattle.syn_path.specs.aside.Tokens.{mark, word, lit, limits_of, bracket, brace}

abbrev pub style : AttrStyle → AttrStyle
style y.Outer = y.Outer
style (y.Inner b) = y.Inner (mark b)

abbrev pub list : MetaList → MetaList
list x = list_of (mod_path x.path) (delimiter x.delimiter, bare_stream x.tokens)

module _ {X : Type 0} (subtree : X → X) where
  -- attributes whose metas are so
  abbrev pub attribute_by : Attribute X → Attribute X
  attribute_by a = attribute_of (mark a.pound_token) (style a.style) (bracket a.bracket_token) a.meta

  abbrev pub attributes_by : List (Attribute X) → List (Attribute X)
  attributes_by = map attribute_by

  abbrev pub meta_step : o.Meta-F X (Meta X) (Expr X) (MetaNameValue X) (ExprRange X) → Meta X
  meta_step (o.Meta::Path x) = m.Path (mod_path x)
  meta_step (o.List x) = m.List (list x)
  meta_step (o.NameValue x) = m.NameValue x

  abbrev pub expr_step : o.Expr-F X (Meta X) (Expr X) (MetaNameValue X) (ExprRange X) → Expr X
  expr_step (o.Lit x) = e.Lit (lit_of (attributes_by x.attrs) (lit x.lit))
  expr_step (o.Expr::Path x) = e.Path (expr_path_of (attributes_by x.attrs) (mod_path x.path))
  expr_step (o.Const x) = e.Const (const_of (attributes_by x.attrs) (word x.const_token) (brace x.brace_token) (subtree x.body))
  expr_step (o.Macro x) = e.Macro (expr_macro_of (attributes_by x.attrs) (mac x.mac))
  expr_step (o.Range x) = e.Range x
  expr_step (o.Block x) = e.Block (block_of (attributes_by x.attrs) (brace x.brace_token) (subtree x.body))
  expr_step (o.Other x) = e.Other (subtree x)

  abbrev pub range_step : o.ExprRange-F X (Meta X) (Expr X) (MetaNameValue X) (ExprRange X) → ExprRange X
  range_step x = range_of (attributes_by x.attrs) x.start (limits_of x.limits) x.end

  abbrev pub name_value_step : o.MetaNameValue-F X (Meta X) (Expr X) (MetaNameValue X) (ExprRange X) → MetaNameValue X
  name_value_step x = name_value_of (mod_path x.path) (mark x.eq_token) x.value

  unfoldable pub meta : Meta X → Meta X
  meta = fold-Meta X (Meta X) (Expr X) (MetaNameValue X) (ExprRange X) meta_step expr_step name_value_step range_step

  unfoldable pub value : Expr X → Expr X
  value = fold-Expr X (Meta X) (Expr X) (MetaNameValue X) (ExprRange X) meta_step expr_step name_value_step range_step

  unfoldable pub range : ExprRange X → ExprRange X
  range = fold-ExprRange X (Meta X) (Expr X) (MetaNameValue X) (ExprRange X) meta_step expr_step name_value_step range_step

  unfoldable pub name_value : MetaNameValue X → MetaNameValue X
  name_value = fold-MetaNameValue X (Meta X) (Expr X) (MetaNameValue X) (ExprRange X) meta_step expr_step name_value_step range_step

  abbrev pub attribute : Attribute X → Attribute X
  attribute a = attribute_of (mark a.pound_token) (style a.style) (bracket a.bracket_token) (meta a.meta)

  abbrev pub attributes : List (Attribute X) → List (Attribute X)
  attributes = map attribute

  -- parts of patterns
  abbrev pub expr_lit : ExprLitOf (Attribute X) → ExprLitOf (Attribute X)
  expr_lit x = lit_of (attributes x.attrs) (lit x.lit)

  abbrev pub expr_const : ExprConstOf (Attribute X) X → ExprConstOf (Attribute X) X
  expr_const x = const_of (attributes x.attrs) (word x.const_token) (brace x.brace_token) (subtree x.body)
