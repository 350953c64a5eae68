-- What the laws of patterns name of attributes and expressions.
pub use Rattle.syn_attr.specs.attr.Attrs.{expr_macro_of, lit_of}
pub use Rattle.syn_attr.specs.attr.Consts.{normal_values_of, values_of}
pub use Rattle.syn_attr.specs.attr.Reading.{outer}
pub use Rattle.syn_attr.specs.declared.expr.Expr.{Expr}
pub use Rattle.syn_attr.specs.declared.expr.ExprConstOf.{ExprConstOf}
