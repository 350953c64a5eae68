-- What each reader of this layer takes on the front of a list: a tree of some height.
use Rattle.std.specs.Prelude.{Bool, List, Option}
use Rattle.token_core.specs.Toks.{Toks}
use Rattle.syn_path.specs.Values.{SpelledValues}
use Rattle.syn_generics.specs.declared.generics.GenericsOf.{GenericsOf}
use Rattle.syn_generics.specs.declared.generics.WhereClauseOf.{WhereClauseOf}
use Rattle.syn_generics.specs.declared.generics.WherePredicateOf.{WherePredicateOf}
use Rattle.syn_generics.specs.generics.Clauses.{IsPredicate, IsWhereClause}
use Rattle.syn_generics.specs.generics.Parameters.{AreGenerics}
use Rattle.syn_ty.specs.ty.Spelling.{IsOptional}
use Rattle.syn_ty.specs.ty.Fronts.{Front}

module _ {A E : Type 0} (attrs : Bool → List A → Toks → Toks → Type 0) (values : SpelledValues E) where
  abbrev pub generics : GenericsOf A E → Toks → Toks → Type 0
  generics = Front attrs values (AreGenerics)

  abbrev pub where_clause : WhereClauseOf A E → Toks → Toks → Type 0
  where_clause = Front attrs values (IsWhereClause)

  abbrev pub optional_where_clause : Option (WhereClauseOf A E) → Toks → Toks → Type 0
  optional_where_clause = Front attrs values (λ part how. IsOptional (IsWhereClause part how))

  abbrev pub predicate : WherePredicateOf A E → Toks → Toks → Type 0
  predicate = Front attrs values (IsPredicate)
