-- The views of generics for an implementation: the parameters without their defaults, and their names.
use Rattle.std.specs.Prelude.{List, [], ◌∷◌, ◌++◌, None, map}
use Rattle.token_core.specs.Prints as p
use Rattle.token_core.specs.Prints.{Print}
use Rattle.token_core.specs.Spans.{none}
use Rattle.syn_generics.specs.declared.generics.GenericsOf.{GenericsOf}
use Rattle.syn_ty.specs.declared.generics.Style.{Style}
use Rattle.syn_ty.specs.generics.Members.{sorted}
use Rattle.syn_ty.specs.generics.Params.{is_lifetime}
use Rattle.syn_generics.specs.generics.Params.{generics_of}
use Rattle.syn_path.specs.Values.{Values}
use Rattle.syn_generics.specs.generics.Shapes.{between}
use Rattle.syn_ty.specs.ty.Trees.{GenericParam}
use Rattle.syn_ty.specs.generics.Views.{strip, name, shown}

module _ {A E : Type 0} where
  -- generics without defaults and where clause
  abbrev pub stripped : GenericsOf A E → GenericsOf A E
  stripped x = generics_of x.lt_token (map strip x.params.0, x.params.1) x.gt_token None

  -- each parameter's name with its comma, lifetimes first; nothing without parameters
  abbrev pub names : GenericsOf A E → Print
  names x = between x.lt_token x.gt_token x.params.0 (sorted is_lifetime name x.params)

  abbrev pub after_sep : List (GenericParam A E) → Print → Print
  after_sep [] l = []
  after_sep (x ∷ all) l = p.mark {n = 1} {l = 2} (record { spans = none ∷ none ∷ [] }) ++ l

  -- `::` and the names; nothing without parameters
  abbrev pub turbofish : GenericsOf A E → Print
  turbofish x = after_sep x.params.0 (names x)

module _ {A E : Type 0} (attrs : List A → Print) (values : Values E) where
  -- lifetimes first, between `<` and `>`; nothing without parameters
  abbrev pub between_as : Style → GenericsOf A E → Print
  between_as style x = between x.lt_token x.gt_token x.params.0 (sorted is_lifetime (shown attrs values style) x.params)
