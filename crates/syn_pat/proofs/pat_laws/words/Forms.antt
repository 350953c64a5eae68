-- What the laws of patterns name of forms and their places.
pub use Rattle.syn_forms.specs.declared.places.TypePlace.TheVariants.{Plus}
pub use Rattle.syn_forms.specs.lists.Reading.{at_end, before_end}
unfoldable pub use Rattle.syn_forms.specs.lists.Reading.{list_from}
pub use Rattle.syn_forms.specs.nested.Below.{ahead}
unfoldable pub use Rattle.syn_forms.specs.paths.Reading.{goes_on}
pub use Rattle.syn_forms.specs.tokens.Reading.{comma, mutable}
pub use Rattle.syn_forms.specs.verbatim.Reading.{position}
