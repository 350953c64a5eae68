-- The normal form of an item: that of each part.
use Rattle.std.specs.Prelude.{map}
use Rattle.token_core.specs.Fronted.{Fronting}
use Rattle.item_small.specs.declared.item.BodyOf.{BodyOf}
use Rattle.item_small.specs.declared.item.BodyOf.TheVariants as b
use Rattle.item_small.specs.declared.item.FieldOf.{FieldOf}
use Rattle.item_small.specs.declared.item.ItemOf.{ItemOf}
use Rattle.item_small.specs.item.Trees.{Fields, field_of, item_of}

module _ {A T : Type 0} (a : Fronting A) (t : Fronting T) where
  abbrev pub field : FieldOf A T → FieldOf A T
  field x = field_of (a.grammar.normal x.attrs) x.ident x.colon_token (t.grammar.normal x.ty)

  abbrev pub fields : Fields A T → Fields A T
  fields v = (map field v.0, v.1)

  abbrev pub body : BodyOf A T → BodyOf A T
  body (b.Named s v) = b.Named s (fields v)
  body (b.Unit q) = b.Unit q

module _ {A G W T : Type 0} (a : Fronting A) (g : Fronting G) (w : Fronting W) (t : Fronting T) where
  abbrev pub item : ItemOf A G W T → ItemOf A G W T
  item x = item_of (a.grammar.normal x.attrs) x.struct_token x.ident (g.grammar.normal x.generics) (w.grammar.normal x.where_clause) (body a t x.body)
