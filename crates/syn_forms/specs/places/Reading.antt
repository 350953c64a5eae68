-- What a tree may take where it stands.
use Rattle.std.specs.Prelude.{Bool, true, false}
use Rattle.syn_forms.specs.declared.places.BoundPlace.{BoundPlace}
use Rattle.syn_forms.specs.declared.places.BoundPlace.TheVariants.{Object, Parameter, Opaque}
use Rattle.syn_forms.specs.declared.places.TypePlace.{TypePlace}
use Rattle.syn_forms.specs.declared.places.TypePlace.TheVariants.{Plus, NoPlus, Bounded}

-- a `+` after a type goes on with it
abbrev pub allows_plus : TypePlace → Bool
allows_plus Plus = true
allows_plus NoPlus = false
allows_plus Bounded = true

-- a bound may be `const` or `[const]`
abbrev pub allows_const : BoundPlace → Bool
allows_const Object = false
allows_const Parameter = true
allows_const Opaque = true

-- a bound may be `use<..>`
abbrev pub allows_capture : BoundPlace → Bool
allows_capture Object = false
allows_capture Parameter = false
allows_capture Opaque = true
