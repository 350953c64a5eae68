-- The points of the knot: what a read may go back to, each in its place.
use Rattle.syn_forms.specs.declared.places.BoundPlace.{BoundPlace}
use Rattle.syn_forms.specs.declared.places.ParamPlace.{ParamPlace}
use Rattle.syn_forms.specs.declared.places.TypePlace.{TypePlace}
use Rattle.syn_ty.specs.ty.Trees.{GenericArgument, GenericParam, PathArguments, TypeParamBound, TypeTree}
use Rattle.token_core.specs.Reads.{Reader}

-- types, bounds and parameters in a place; an argument in angle brackets; the arguments of a segment, in angle brackets
pub data Point : Type 0 where
  a_type : TypePlace → Point
  a_bound : BoundPlace → Point
  a_param : ParamPlace → Point
  an_argument : Point
  some_arguments : Point

-- what is read there
abbrev pub Tree : Type 0 → Type 0 → Point → Type 0
Tree A E (a_type place) = TypeTree A E
Tree A E (a_bound place) = TypeParamBound A E
Tree A E (a_param place) = GenericParam A E
Tree A E an_argument = GenericArgument A E
Tree A E some_arguments = PathArguments A E

-- a reader for each point
abbrev pub Readers : Type 0 → Type 0 → Type 0
Readers A E = (q : Point) → Reader (Tree A E q)
