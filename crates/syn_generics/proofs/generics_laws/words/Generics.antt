-- What the laws of generics name of generics and where clauses.
pub use Rattle.syn_generics.specs.declared.generics.GenericsOf.{GenericsOf}
pub use Rattle.syn_generics.specs.declared.generics.PredicateLifetimeOf.{PredicateLifetimeOf}
pub use Rattle.syn_generics.specs.declared.generics.PredicateTypeOf.{PredicateTypeOf}
pub use Rattle.syn_generics.specs.declared.generics.WhereClauseOf.{WhereClauseOf}
pub use Rattle.syn_generics.specs.declared.generics.WherePredicateOf.{WherePredicateOf}
pub use Rattle.syn_generics.specs.generics.Clauses.{IsPredicate, IsWhereClause, a_lifetime_predicate, AreBoundsOf, bounds_of, a_type_predicate, a_type_predicate_for, of_lifetime, of_type, a_where_clause, IsLifetimePredicate, IsTypePredicate}
pub use Rattle.syn_generics.specs.generics.Declared.{lifetime_after}
unfoldable pub use Rattle.syn_generics.specs.generics.Declared.{predicate_bounds, type_after, predicate_after, sees_first_param, sees_generics, sees_lifetime_predicate, generics}
pub use Rattle.syn_generics.specs.generics.Parameters.{AreGenerics, no_generics, some_generics}
pub use Rattle.syn_generics.specs.generics.Params.{predicate_type_of, predicate_lifetime_of, generics_of, where_clause_of, empty}
pub use Rattle.syn_generics.specs.generics.Shapes.{between}
pub use Rattle.syn_generics.specs.generics.Views.{stripped, names, after_sep, turbofish, between_as}
