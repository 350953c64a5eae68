-- Generics and where clauses by their parts, and the parameters of one kind.
use Rattle.std.specs.Prelude.{List, [], ◌∷◌, Option, Some, None}
use Rattle.token_core.specs.declared.lifetime.Lifetime.{Lifetime}
use Rattle.token_core.specs.Loops.{Many}
use Rattle.syn_generics.specs.declared.generics.GenericsOf.{GenericsOf}
use Rattle.syn_generics.specs.declared.generics.WhereClauseOf.{WhereClauseOf}
use Rattle.syn_generics.specs.declared.generics.WherePredicateOf.{WherePredicateOf}
use Rattle.syn_generics.specs.declared.generics.PredicateLifetimeOf.{PredicateLifetimeOf}
use Rattle.syn_generics.specs.declared.generics.PredicateTypeOf.{PredicateTypeOf}
use Rattle.syn_ty.specs.declared.generics.GenericParamOf.{out-GenericParamOf}
use Rattle.syn_ty.specs.declared.generics.GenericParamOf.TheOpen as g
use Rattle.syn_ty.specs.declared.generics.LifetimeParamOf.{LifetimeParamOf}
use Rattle.syn_ty.specs.ty.Trees.{Layer, GenericParam, TypeParam, ConstParam, BoundLifetimes, TypeParamBound, TypeTree}
use Rattle.token_core.specs.Tokens.{Colon, Comma, Plus}
use Rattle.token_core.specs.Tokens as token
use Rattle.syn_ty.specs.generics.Params.{word_nowhere}

abbrev pub predicate_lifetime_of : {A : Type 0} → List A → Lifetime → Colon → Many Lifetime Plus → PredicateLifetimeOf A
predicate_lifetime_of a l c b = record { attrs = a; lifetime = l; colon_token = c; bounds = b }

module _ {A E : Type 0} where
  abbrev pub where_clause_of : token.Where → Many (WherePredicateOf A E) Comma → WhereClauseOf A E
  where_clause_of w v = record { where_token = w; predicates = v }

  abbrev pub predicate_type_of : List A → Option (BoundLifetimes A E) → TypeTree A E → Colon → Many (TypeParamBound A E) Plus → PredicateTypeOf A E
  predicate_type_of a l t c b = record { attrs = a; lifetimes = l; bounded_ty = t; colon_token = c; bounds = b }

  abbrev pub generics_of : Option token.Lt → Many (GenericParam A E) Comma → Option token.Gt → Option (WhereClauseOf A E) → GenericsOf A E
  generics_of l v g w = record { lt_token = l; params = v; gt_token = g; where_clause = w }

  -- no parameters and no where clause
  abbrev pub empty : GenericsOf A E
  empty = generics_of None ([], []) None None

  -- a where clause that stands nowhere, without predicates
  abbrev pub empty_clause : WhereClauseOf A E
  empty_clause = where_clause_of word_nowhere ([], [])

  -- ---- the parameters of one kind, in order

  abbrev pub lifetime_layer : Layer g.GenericParamOf-F A E → Option (LifetimeParamOf A)
  lifetime_layer (g.GenericParamOf::Lifetime x) = Some x
  lifetime_layer (g.GenericParamOf::Type x) = None
  lifetime_layer (g.GenericParamOf::Const x) = None

  abbrev pub type_layer : Layer g.GenericParamOf-F A E → Option (TypeParam A E)
  type_layer (g.GenericParamOf::Lifetime x) = None
  type_layer (g.GenericParamOf::Type x) = Some x
  type_layer (g.GenericParamOf::Const x) = None

  abbrev pub const_layer : Layer g.GenericParamOf-F A E → Option (ConstParam A E)
  const_layer (g.GenericParamOf::Lifetime x) = None
  const_layer (g.GenericParamOf::Type x) = None
  const_layer (g.GenericParamOf::Const x) = Some x

  abbrev pub as_lifetime : GenericParam A E → Option (LifetimeParamOf A)
  as_lifetime x = lifetime_layer (out-GenericParamOf A E x)

  abbrev pub as_type : GenericParam A E → Option (TypeParam A E)
  as_type x = type_layer (out-GenericParamOf A E x)

  abbrev pub as_const : GenericParam A E → Option (ConstParam A E)
  as_const x = const_layer (out-GenericParamOf A E x)

-- what a test answers of each member of a list, where it answers something
abbrev pub kept_by : {B : Type 0} → Option B → List B → List B
kept_by None l = l
kept_by (Some x) l = x ∷ l

abbrev pub only : {A B : Type 0} → (A → Option B) → List A → List B
only f [] = []
only f (x ∷ l) = kept_by (f x) (only f l)
