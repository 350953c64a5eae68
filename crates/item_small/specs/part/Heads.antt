-- What the head of an implementation for a struct prints.
use Rattle.std.specs.Prelude.{List}
use Rattle.token_core.specs.Prints as p
use Rattle.token_core.specs.Prints.{Print}
use Rattle.syn_path.specs.declared.path.PathStyle.TheVariants.{AsWritten}
use Rattle.syn_path.specs.Values.{Values}
use Rattle.syn_ty.specs.path.Printing as paths
use Rattle.syn_ty.specs.ty.Trees.{Path}
use Rattle.syn_generics.specs.generics.Printing as clauses
use Rattle.syn_generics.specs.generics.Views as views
use Rattle.item_small.specs.item.Printing.{head}
use Rattle.item_small.specs.part.Fronts.{Item}

-- `impl`, the parameters without their defaults, the path, `for`, the name with the names of the parameters, the where clause of the struct, and empty braces
abbrev pub impl_head : {A E : Type 0} → (List A → Print) → Values E → Item A E → Path A E → Print
impl_head attrs values x path =
    head (clauses.generics attrs values (views.stripped x.generics)) (paths.path attrs values AsWritten path) x.ident (views.names x.generics) (p.optional (clauses.where_clause attrs values) x.where_clause)
