-- What stands around the parameters of generics.
use Rattle.std.specs.Prelude.{List, [], ◌∷◌, ◌++◌, Option}
use Rattle.token_core.specs.Prints.{Print}
use Rattle.token_core.specs.Tokens as token
use Rattle.syn_ty.specs.generics.Shapes.{or_default}

-- parameters between `<` and `>`; nothing without parameters
abbrev pub between : {A : Type 0} → Option token.Lt → Option token.Gt → List A → Print → Print
between lt gt [] l = []
between lt gt (x ∷ all) l = or_default lt ++ (l ++ or_default gt)
