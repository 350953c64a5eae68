-- What the traits say of attributes and of expressions over a supplied subtree: over what it reads, spells, has as its normal form and prints in each place.
use Rattle.syn_path.specs.Traits.{Attributes, Expressions, Subtree}
use Rattle.syn_attr.specs.attr.Attrs.{Attribute as Attr}
use Rattle.syn_attr.specs.attr.Consts.{normal_values_of, outer, values_of}
use Rattle.syn_attr.specs.laws.Lengths.{lens, spells_len}
use Rattle.syn_attr.specs.attr.Normal as normal
use Rattle.syn_attr.specs.attr.Reading as reading
use Rattle.syn_attr.specs.attr.Spelling.{AreAll, IsOuter, IsConst, IsConstDefault}
use Rattle.syn_attr.specs.declared.expr.Expr.{Expr}

module _ {X : Type 0} (sub : Subtree X) where
  abbrev pub attributes : Attributes (Attr X)
  attributes = record { shown = outer sub.prints; normal = normal.attributes sub.normal; reads = reading.outer sub.reads; spells = λ clear. AreAll (IsOuter sub.spells clear) }

  abbrev pub expressions : Expressions (Expr X)
  expressions = record {
    reads = record { len = lens sub.reads; const_argument = reading.const_argument sub.reads };
    spells = record { len = spells_len sub.spells; const_argument = λ clear. IsConst sub.spells; const_default = λ clear. IsConstDefault sub.spells };
    normal = normal_values_of sub.normal;
    values = values_of sub.prints;
  }
