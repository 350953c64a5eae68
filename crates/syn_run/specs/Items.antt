-- The readers of items.
use Rattle.std.specs.Prelude.{List, codes}
use Rattle.token_core.specs.Prints.{Print}
use Rattle.token_core.specs.Spans.{none}
use Rattle.token_core.specs.Trees.{ident}
use Rattle.syn_path.specs.Traits.{Attributes, Expressions}
use Rattle.syn_path.specs.Values.{Values}
use Rattle.syn_ty.specs.path.Paths.{lone, no_arguments, segment_of}
use Rattle.syn_ty.specs.ty.Trees.{Path}
use Rattle.syn_readers.specs.Readers.{Category, of_grammar, of_view}
use Rattle.item_small.specs.part.Fronts as parts
use Rattle.item_small.specs.part.Fronts.{Item}
use Rattle.item_small.specs.part.Heads.{impl_head}
use Rattle.syn_run.specs.declared.items.ItemReader.{ItemReader}
use Rattle.syn_run.specs.declared.items.ItemReader.TheVariants as i

-- the path `Marker`, which stands nowhere
abbrev pub marker : {A E : Type 0} → Path A E
marker = lone (segment_of no_arguments (ident (codes "Marker") none))

-- the head of an implementation of `Marker` for a struct
abbrev pub marker_head : {A E : Type 0} → (List A → Print) → Values E → Item A E → Print
marker_head attrs values x = impl_head attrs values x marker

-- the trees of a reader of items, over attributes and expressions
abbrev pub ItemsTree : Type 0 → Type 0 → ItemReader → Type 0
ItemsTree A E i.Struct = Item A E
ItemsTree A E i.Head = Item A E

module _ {A E : Type 0} (attrs : Attributes A) (exprs : Expressions E) where
  abbrev pub items_category : (r : ItemReader) → Category (ItemsTree A E r)
  items_category i.Struct = of_grammar (parts.item attrs exprs).grammar
  items_category i.Head = of_view (parts.item attrs exprs).grammar (marker_head attrs.shown exprs.values)
