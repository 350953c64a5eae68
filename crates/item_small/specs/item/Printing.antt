-- What an item prints: its parts in their order.
use Rattle.std.specs.Prelude.{[], ◌++◌}
use Rattle.token_core.specs.declared.tree.Delimiter.TheVariants.{Brace}
use Rattle.token_core.specs.declared.tree.Ident.{Ident}
use Rattle.token_core.specs.declared.word.Word.{Word}
use Rattle.token_core.specs.Fronted.{Fronting}
use Rattle.token_core.specs.Lists.{joined}
use Rattle.token_core.specs.Marks.{word_of}
use Rattle.token_core.specs.Prints as p
use Rattle.token_core.specs.Prints.{Print}
use Rattle.token_core.specs.Spans.{delim_span, none}
use Rattle.item_small.specs.declared.item.BodyOf.{BodyOf}
use Rattle.item_small.specs.declared.item.BodyOf.TheVariants as b
use Rattle.item_small.specs.declared.item.FieldOf.{FieldOf}
use Rattle.item_small.specs.declared.item.ItemOf.{ItemOf}
use Rattle.item_small.specs.item.Trees.{Fields}

module _ {A T : Type 0} (a : Fronting A) (t : Fronting T) where
  abbrev pub field : FieldOf A T → Print
  field x = a.grammar.print x.attrs ++ (p.ident x.ident ++ (p.mark x.colon_token ++ t.grammar.print x.ty))

  abbrev pub fields : Fields A T → Print
  fields v = joined field p.mark v.0 v.1

  abbrev pub body : BodyOf A T → Print
  body (b.Named s v) = p.group Brace (fields v) s.span
  body (b.Unit q) = p.mark q

module _ {A G W T : Type 0} (a : Fronting A) (g : Fronting G) (w : Fronting W) (t : Fronting T) where
  abbrev pub item : ItemOf A G W T → Print
  item x = a.grammar.print x.attrs ++ (p.word x.struct_token ++ (p.ident x.ident ++ (g.grammar.print x.generics ++ (w.grammar.print x.where_clause ++ body a t x.body))))

-- `impl`, which stands nowhere
abbrev pub impl_word : Word 12
impl_word = word_of 12 none

-- `for`, which stands nowhere
abbrev pub for_word : Word 10
for_word = word_of 10 none

-- `for`, a name with its arguments, a where clause, and empty braces, which stand nowhere
abbrev pub target : Ident → Print → Print → Print
target name arguments clause = p.word for_word ++ (p.ident name ++ (arguments ++ (clause ++ p.group Brace [] (delim_span none none))))

-- The head of an implementation: `impl`, generics, a path, and what it is for. It is given what the parts print.
abbrev pub head : Print → Print → Ident → Print → Print → Print
head generics path name arguments clause = p.word impl_word ++ (generics ++ (path ++ target name arguments clause))
