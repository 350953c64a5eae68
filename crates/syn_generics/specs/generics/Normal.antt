-- The normal form of generics: lifetimes first, with a comma where others follow; no `<>` without parameters and no where clause without predicates.
-- That of parameters and bounds stands with that of types.
use Rattle.std.specs.Prelude.{List, [], ◌∷◌, Option, Some, None}
use Rattle.syn_generics.specs.declared.generics.GenericsOf.{GenericsOf}
use Rattle.syn_generics.specs.declared.generics.WhereClauseOf.{WhereClauseOf}
use Rattle.syn_generics.specs.declared.generics.WherePredicateOf.{WherePredicateOf}
use Rattle.syn_generics.specs.declared.generics.WherePredicateOf.TheVariants as w
use Rattle.syn_generics.specs.declared.generics.PredicateLifetimeOf.{PredicateLifetimeOf}
use Rattle.syn_generics.specs.declared.generics.PredicateTypeOf.{PredicateTypeOf}
use Rattle.syn_ty.specs.ty.Normal.{ty, param, bound}
use Rattle.syn_ty.specs.generics.Members.{sort}
use Rattle.syn_path.specs.Values.{NormalValues}
use Rattle.syn_ty.specs.generics.NormalShapes.{binder_by, many}
use Rattle.syn_ty.specs.generics.Params.{is_lifetime}
use Rattle.syn_generics.specs.generics.Params.{where_clause_of, predicate_lifetime_of, predicate_type_of, generics_of}

module _ {A E : Type 0} (attrs : List A → List A) (values : NormalValues E) where
  abbrev pub predicate_lifetime : PredicateLifetimeOf A → PredicateLifetimeOf A
  predicate_lifetime x = predicate_lifetime_of (attrs x.attrs) x.lifetime x.colon_token x.bounds

  abbrev pub predicate_type : PredicateTypeOf A E → PredicateTypeOf A E
  predicate_type x = predicate_type_of (attrs x.attrs) (binder_by (param attrs values) x.lifetimes) (ty attrs values x.bounded_ty) x.colon_token (many (bound attrs values) x.bounds)

  abbrev pub predicate : WherePredicateOf A E → WherePredicateOf A E
  predicate (w.Lifetime x) = w.Lifetime (predicate_lifetime x)
  predicate (w.«Type» x) = w.«Type» (predicate_type x)

  abbrev pub where_clause : WhereClauseOf A E → WhereClauseOf A E
  where_clause x = where_clause_of x.where_token (many predicate x.predicates)

  abbrev pub where_given : {N : Type 0} → List N → WhereClauseOf A E → Option (WhereClauseOf A E)
  where_given [] x = None
  where_given (a ∷ all) x = Some (where_clause x)

  -- none without predicates
  abbrev pub where_option : Option (WhereClauseOf A E) → Option (WhereClauseOf A E)
  where_option None = None
  where_option (Some x) = where_given x.predicates.0 x

  abbrev pub with_params : {N : Type 0} → List N → GenericsOf A E → GenericsOf A E
  with_params [] x = generics_of None ([], []) None (where_option x.where_clause)
  with_params (a ∷ all) x = generics_of x.lt_token (sort is_lifetime (many (param attrs values) x.params)) x.gt_token (where_option x.where_clause)

  abbrev pub generics : GenericsOf A E → GenericsOf A E
  generics x = with_params x.params.0 x
