-- What nodes print.
use Rattle.std.specs.Prelude.{List}
use Rattle.token_core.specs.Lifetimes as lifetimes
use Rattle.token_core.specs.Prints.{Print}
use Rattle.syn_path.specs.path.Shapes.{mod_path}
use Rattle.syn_path.specs.Values.{Values}
use Rattle.syn_ty.specs.path.Printing.{path}
use Rattle.syn_ty.specs.path.Shapes.{as_written}
use Rattle.syn_ty.specs.ty.Printing as printing
use Rattle.syn_walk.specs.declared.walk.NodeOf.{NodeOf}
use Rattle.syn_walk.specs.declared.walk.NodeOf.TheVariants as n

-- by what attributes and expressions print
abbrev pub printed : {A E : Type 0} → (List A → Print) → Values E → NodeOf A E → Print
printed attrs values (n.«Type» t) = printing.ty attrs values t.now
printed attrs values (n.Path p) = path attrs values as_written p.now
printed attrs values (n.MacroPath p) = mod_path p.now
printed attrs values (n.Lifetime l) = lifetimes.print l.now
