-- What each reader that a run knows reads, prints and promises.
use Rattle.std.specs.Prelude.{◌≡◌, List, [], Ok}
use Rattle.token_core.specs.Trees.{TokenStream, trees}
use Rattle.token_core.specs.Prints.{Print}
use Rattle.token_core.specs.Reads.{Reader as R}
use Rattle.token_core.specs.Stream.{Stream}
use Rattle.syn_pat.specs.pat.Pats as pats
use Rattle.syn_pat.specs.pat.Promises as pat_promises
use Rattle.syn_path.specs.declared.mac.Macro as mac
use Rattle.syn_path.specs.declared.supplied.Place.{Place}
use Rattle.syn_attr.specs.declared.attr.Meta as meta
use Rattle.syn_attr.specs.declared.attr.MetaList as meta_list
use Rattle.syn_attr.specs.declared.attr.MetaNameValue as name_value
use Rattle.syn_forms.specs.declared.tokens.PointerMutability as mutability
use Rattle.syn_forms.specs.tokens.Grammars as tokens
use Rattle.syn_attr.specs.attr.Attrs.{Attribute}
use Rattle.syn_attr.specs.attr.Grammars as attrs
use Rattle.syn_attr.specs.attr.Printing as attr_printing
use Rattle.syn_attr.specs.attr.Traits as given
use Rattle.syn_attr.specs.declared.expr.Expr.{Expr}
use Rattle.syn_path.specs.Traits.{Attributes, Expressions, Subtree}
use Rattle.syn_path.specs.mac.Grammars as macs
use Rattle.syn_path.specs.path.Grammars as paths
use Rattle.syn_ty.specs.path.Paths as path
use Rattle.syn_run.specs.declared.readers.Reader.{Reader}
use Rattle.syn_run.specs.declared.readers.Reader.TheVariants.{Macro, ModStyle, Meta, MetaList, MetaNameValue, Outer, Inner, PointerMutability, Types, Paths, Generics, Items, Patterns}
use Rattle.syn_run.specs.declared.readers.PatternReader.{PatternReader}
use Rattle.syn_run.specs.declared.readers.PatternReader.TheVariants as q
use Rattle.syn_readers.specs.Readers.{Category, of_grammar, TypesTree, PathsTree, GenericsTree, types_category, paths_category, generics_category}
use Rattle.syn_run.specs.Items.{ItemsTree, items_category}

-- the trees of a reader of patterns, over a supplied subtree
abbrev pub PatternsTree : Type 0 → PatternReader → Type 0
PatternsTree X (q.In place) = pats.Pat X
PatternsTree X q.Guarded = pats.Pat X
PatternsTree X q.Typed = pats.PatType X

module _ {X : Type 0} (sub : Subtree X) where
  abbrev pub patterns_category : (r : PatternReader) → Category (PatternsTree X r)
  patterns_category (q.In place) = of_grammar (pat_promises.pat sub place)
  patterns_category q.Guarded = of_grammar (pat_promises.guarded sub)
  patterns_category q.Typed = of_grammar (pat_promises.typed sub)

-- what a reader of patterns shows: the print of the tree that its read answers
abbrev pub shows : {A : Type 0} → R A → (A → Print) → Stream → TokenStream → Stream → Type 0
shows {A = A} read print s out new = (a : A) × (read s ≡ Ok (a, new)) × (trees out ≡ print a)

-- the trees of a reader, over a supplied subtree
abbrev pub Tree : Type 0 → Reader → Type 0
Tree X Macro = mac.Macro
Tree X ModStyle = path.ModPath
Tree X Meta = meta.Meta X
Tree X MetaList = meta_list.MetaList
Tree X MetaNameValue = name_value.MetaNameValue X
Tree X Outer = List (Attribute X)
Tree X Inner = List (Attribute X)
Tree X PointerMutability = mutability.PointerMutability
Tree X (Types r) = TypesTree (Attribute X) (Expr X) r
Tree X (Paths r) = PathsTree (Attribute X) (Expr X) r
Tree X (Generics r) = GenericsTree (Attribute X) (Expr X) r
Tree X (Items r) = ItemsTree (Attribute X) (Expr X) r
Tree X (Patterns r) = PatternsTree X r

-- what attributes print, one after the other
abbrev pub attributes : {X : Type 0} → (Place → X → Print) → List (Attribute X) → Print
attributes = attr_printing.attributes

module _ {X : Type 0} (sub : Subtree X) where
  -- attributes and expressions in types
  abbrev pub attributes_in : Attributes (Attribute X)
  attributes_in = given.attributes sub

  abbrev pub expressions_in : Expressions (Expr X)
  expressions_in = given.expressions sub

  -- what a reader reads, prints and promises
  abbrev pub category : (r : Reader) → Category (Tree X r)
  category Macro = of_grammar macs.mac
  category ModStyle = of_grammar (paths.mod_style path.nothing (λ a. []))
  category Meta = of_grammar (attrs.meta sub)
  category MetaList = of_grammar attrs.list
  category MetaNameValue = of_grammar (attrs.name_value sub)
  category Outer = of_grammar (attrs.outer sub)
  category Inner = of_grammar (attrs.inner sub)
  category PointerMutability = of_grammar tokens.mutability
  category (Types r) = types_category attributes_in expressions_in r
  category (Paths r) = paths_category attributes_in expressions_in r
  category (Generics r) = generics_category attributes_in expressions_in r
  category (Items r) = items_category attributes_in expressions_in r
  category (Patterns r) = patterns_category sub r
