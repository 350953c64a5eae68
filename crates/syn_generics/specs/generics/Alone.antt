-- Generics, predicates and where clauses by themselves: what each holds is read by the knot, further on than it began.
use Rattle.std.specs.Prelude.{List, Option}
use Rattle.syn_forms.specs.declared.places.TypePlace.TheVariants.{Bounded}
use Rattle.syn_forms.specs.nested.Below.{ahead, held}
use Rattle.syn_path.specs.Values.{ReadValues}
use Rattle.syn_generics.specs.declared.generics.GenericsOf.{GenericsOf}
use Rattle.syn_generics.specs.declared.generics.WhereClauseOf.{WhereClauseOf}
use Rattle.syn_generics.specs.declared.generics.WherePredicateOf.{WherePredicateOf}
use Rattle.syn_generics.specs.generics.Declared as declared
use Rattle.syn_ty.specs.ty.Knot.{single, ty}
use Rattle.token_core.specs.Reads.{Reader, optional}
use Rattle.token_core.specs.Tokens.{sees_where}

module _ {A E : Type 0} (attrs : Reader (List A)) (values : ReadValues E) where
  unfoldable pub generics : Reader (GenericsOf A E)
  generics = single attrs values declared.generics

  unfoldable pub predicate : Reader (WherePredicateOf A E)
  predicate = single attrs values (declared.predicate attrs (ty attrs values Bounded))

  -- it has one place
  abbrev pub predicate_in : Unit {0} → Reader (WherePredicateOf A E)
  predicate_in place = predicate

  unfoldable pub where_clause : Reader (WhereClauseOf A E)
  where_clause = λ s. declared.where_clause (held predicate_in (ahead s) tt) s

  unfoldable pub optional_where_clause : Reader (Option (WhereClauseOf A E))
  optional_where_clause = optional sees_where where_clause
