-- What the laws of types name of forms and their places.
pub use Rattle.syn_forms.specs.declared.groups.ParenContent.{ParenContent}
pub use Rattle.syn_forms.specs.declared.places.BoundPlace.{BoundPlace}
pub use Rattle.syn_forms.specs.declared.places.BoundPlace.TheVariants.{Object, Opaque, Parameter}
pub use Rattle.syn_forms.specs.declared.places.ParamPlace.{ParamPlace}
pub use Rattle.syn_forms.specs.declared.places.ParamPlace.TheVariants.{Binder}
pub use Rattle.syn_forms.specs.declared.places.TypePlace.{TypePlace}
pub use Rattle.syn_forms.specs.declared.places.TypePlace.TheVariants.{NoPlus, Plus}
pub use Rattle.syn_forms.specs.declared.tokens.PointerMutability.{PointerMutability}
pub use Rattle.syn_forms.specs.groups.Reading.{in_brackets, in_invisible, in_parens}
unfoldable pub use Rattle.syn_forms.specs.inputs.Reading.{sees_mut_self, sees_name}
pub use Rattle.syn_forms.specs.lists.Reading.{bounds_from, bounds_to, list, plus_follows, stops_bound}
unfoldable pub use Rattle.syn_forms.specs.lists.Reading.{list_from, more_elements, sees_bound}
pub use Rattle.syn_forms.specs.nested.Below.{ahead, below}
pub use Rattle.syn_forms.specs.paths.Reading.{is_bare_word, is_named_word, last_with, longer, sees_arguments, with_arguments}
unfoldable pub use Rattle.syn_forms.specs.paths.Reading.{goes_on, sees_turbofish}
pub use Rattle.syn_forms.specs.places.Reading.{allows_const, allows_plus}
pub use Rattle.syn_forms.specs.tokens.Reading.{comma, question, sees_gt}
pub use Rattle.syn_forms.specs.tokens.Spelling.{IsMutability, a_const, a_mut}
pub use Rattle.syn_forms.specs.verbatim.Reading.{outside, position, refuse_since}
unfoldable pub use Rattle.syn_forms.specs.verbatim.Reading.{since}
