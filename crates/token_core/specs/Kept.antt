-- The list that is kept, its own or shared, and its delimiter.
use Rattle.std.specs.Prelude.{List}
use Rattle.token_core.specs.declared.content.Keep.{Keep}
use Rattle.token_core.specs.declared.content.Keep.TheVariants.{Own, Shared}
use Rattle.token_core.specs.declared.tree.Delimiter.{Delimiter}

abbrev pub list_of : {X : Type 0} → Keep X → List X
list_of (Own d l) = l
list_of (Shared d l) = l

abbrev pub delimiter_of : {X : Type 0} → Keep X → Delimiter
delimiter_of (Own d l) = d
delimiter_of (Shared d l) = d
