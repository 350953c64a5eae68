-- Generics, where clauses and predicates without their spans.
use Rattle.std.specs.Prelude.{List, option_map}
use Rattle.syn_generics.specs.declared.generics.GenericsOf.{GenericsOf}
use Rattle.syn_generics.specs.declared.generics.PredicateLifetimeOf.{PredicateLifetimeOf}
use Rattle.syn_generics.specs.declared.generics.PredicateTypeOf.{PredicateTypeOf}
use Rattle.syn_generics.specs.declared.generics.WhereClauseOf.{WhereClauseOf}
use Rattle.syn_generics.specs.declared.generics.WherePredicateOf.{WherePredicateOf}
use Rattle.syn_generics.specs.declared.generics.WherePredicateOf.TheVariants as w
use Rattle.syn_generics.specs.generics.Params.{generics_of, predicate_lifetime_of, predicate_type_of, where_clause_of}
use Rattle.syn_path.specs.aside.Tokens.{mark, word, lifetime, many}
use Rattle.syn_laws.specs.aside.Types as types

-- by what attributes and expressions are without their spans
module _ {A E : Type 0} (attrs : List A → List A) (value : E → E) where
  abbrev pub predicate_lifetime : PredicateLifetimeOf A → PredicateLifetimeOf A
  predicate_lifetime x = predicate_lifetime_of (attrs x.attrs) (lifetime x.lifetime) (mark x.colon_token) (many lifetime mark x.bounds)

  abbrev pub predicate_type : PredicateTypeOf A E → PredicateTypeOf A E
  predicate_type x =
      predicate_type_of (attrs x.attrs) (option_map (types.bound_lifetimes attrs value) x.lifetimes) (types.ty attrs value x.bounded_ty) (mark x.colon_token) (many (types.bound attrs value) mark x.bounds)

  abbrev pub predicate : WherePredicateOf A E → WherePredicateOf A E
  predicate (w.Lifetime x) = w.Lifetime (predicate_lifetime x)
  predicate (w.«Type» x) = w.«Type» (predicate_type x)

  abbrev pub where_clause : WhereClauseOf A E → WhereClauseOf A E
  where_clause x = where_clause_of (word x.where_token) (many predicate mark x.predicates)

  abbrev pub generics : GenericsOf A E → GenericsOf A E
  generics x = generics_of (option_map mark x.lt_token) (many (types.param attrs value) mark x.params) (option_map mark x.gt_token) (option_map where_clause x.where_clause)
