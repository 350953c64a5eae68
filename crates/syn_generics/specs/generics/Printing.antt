-- What generics print.
use Rattle.std.specs.Prelude.{List, [], ◌∷◌, ◌++◌}
use Rattle.token_core.specs.Lifetimes as lifetimes
use Rattle.token_core.specs.Lists.{joined}
use Rattle.token_core.specs.Loops.{Many}
use Rattle.token_core.specs.Prints as p
use Rattle.token_core.specs.Prints.{Print}
use Rattle.syn_generics.specs.declared.generics.GenericsOf.{GenericsOf}
use Rattle.syn_generics.specs.declared.generics.WhereClauseOf.{WhereClauseOf}
use Rattle.syn_generics.specs.declared.generics.WherePredicateOf.{WherePredicateOf}
use Rattle.syn_generics.specs.declared.generics.WherePredicateOf.TheVariants as w
use Rattle.syn_generics.specs.declared.generics.PredicateLifetimeOf.{PredicateLifetimeOf}
use Rattle.syn_generics.specs.declared.generics.PredicateTypeOf.{PredicateTypeOf}
use Rattle.syn_ty.specs.ty.Printing.{ty, param, bounds_joined}
use Rattle.syn_ty.specs.generics.Members.{sorted}
use Rattle.syn_ty.specs.generics.Params.{Comma, is_lifetime}
use Rattle.syn_path.specs.Values.{Values}
use Rattle.syn_generics.specs.generics.Shapes.{between}
use Rattle.syn_ty.specs.generics.Shapes.{binder_by, lifetimes_joined}

-- a colon is kept in predicates
abbrev pub predicate_lifetime_by : {A : Type 0} → (List A → Print) → PredicateLifetimeOf A → Print
predicate_lifetime_by attrs x = attrs x.attrs ++ (lifetimes.print x.lifetime ++ (p.mark x.colon_token ++ lifetimes_joined x.bounds))

-- what attributes and expressions print is given
module _ {A E : Type 0} (attrs : List A → Print) (values : Values E) where
  abbrev pub predicate_lifetime : PredicateLifetimeOf A → Print
  predicate_lifetime = predicate_lifetime_by attrs

  abbrev pub predicate_type : PredicateTypeOf A E → Print
  predicate_type x = attrs x.attrs ++ (binder_by (param attrs values) x.lifetimes ++ (ty attrs values x.bounded_ty ++ (p.mark x.colon_token ++ bounds_joined attrs values x.bounds)))

  abbrev pub predicate : WherePredicateOf A E → Print
  predicate (w.Lifetime x) = predicate_lifetime x
  predicate (w.«Type» x) = predicate_type x

  abbrev pub predicates_after : Print → Many (WherePredicateOf A E) Comma → Print
  predicates_after start ([], marks) = []
  predicates_after start (x ∷ all, marks) = start ++ joined predicate p.mark (x ∷ all) marks

  -- nothing without predicates
  abbrev pub where_clause : WhereClauseOf A E → Print
  where_clause x = predicates_after (p.word x.where_token) x.predicates

  -- the where clause stands elsewhere
  abbrev pub generics : GenericsOf A E → Print
  generics x = between x.lt_token x.gt_token x.params.0 (sorted is_lifetime (param attrs values) x.params)
