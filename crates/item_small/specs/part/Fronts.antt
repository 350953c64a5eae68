-- What the parts of a struct spell on the front of a list, over attributes and expressions.
use Rattle.std.specs.Prelude.{List, Option, not}
use Rattle.token_core.specs.Fronted.{Fronting}
use Rattle.token_core.specs.Tokens as token
use Rattle.token_core.specs.Toks.{done}
use Rattle.syn_path.specs.Traits.{Attributes, Expressions}
use Rattle.syn_forms.specs.declared.places.TypePlace.TheVariants.{Plus}
use Rattle.syn_ty.specs.ty.Frontings as types
use Rattle.syn_ty.specs.ty.Trees.{TypeTree}
use Rattle.syn_generics.specs.declared.generics.GenericsOf.{GenericsOf}
use Rattle.syn_generics.specs.declared.generics.WhereClauseOf.{WhereClauseOf}
use Rattle.syn_generics.specs.generics.Promises as clauses
use Rattle.item_small.specs.declared.item.ItemOf.{ItemOf}
use Rattle.item_small.specs.item.Promises as items

-- attributes, before what does not begin with `#`
abbrev pub attributes : {A : Type 0} → Attributes A → Fronting (List A)
attributes attrs = record {
  grammar = record { spells = λ clear x l. attrs.spells clear x l done; normal = attrs.normal; print = attrs.shown; plain = λ x. Unit {0}; reader = attrs.reads };
  begins = attrs.spells;
  follows = λ k. not (token.sees_pound k);
  plain = λ x k. Unit {0};
}

-- a struct over attributes and expressions
abbrev pub Item : Type 0 → Type 0 → Type 0
Item A E = ItemOf (List A) (GenericsOf A E) (Option (WhereClauseOf A E)) (TypeTree A E)

module _ {A E : Type 0} (attrs : Attributes A) (exprs : Expressions E) where
  abbrev pub generics : Fronting (GenericsOf A E)
  generics = clauses.generics_front attrs exprs

  abbrev pub clause : Fronting (Option (WhereClauseOf A E))
  clause = clauses.optional_where_clause_front attrs exprs

  abbrev pub ty : Fronting (TypeTree A E)
  ty = types.ty attrs exprs Plus

  abbrev pub item : Fronting (Item A E)
  item = items.item (attributes attrs) generics clause ty
