-- What the laws of generics name of places and forms over what they hold.
pub use Rattle.syn_forms.specs.declared.places.ParamPlace.TheVariants.{Binder, Generics}
pub use Rattle.syn_forms.specs.declared.places.TypePlace.TheVariants.{Bounded, Plus}
pub use Rattle.syn_forms.specs.nested.Below.{ahead}
unfoldable pub use Rattle.syn_forms.specs.nested.Below.{held}
pub use Rattle.syn_forms.specs.predicates.Reading.{LifetimePredicate, predicates_to}
unfoldable pub use Rattle.syn_forms.specs.predicates.Reading.{ends_predicate, ends_lifetime_predicate}
