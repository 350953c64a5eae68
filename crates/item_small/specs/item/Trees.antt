-- Items by their parts.
use Rattle.token_core.specs.declared.mark.Mark.{Mark}
use Rattle.token_core.specs.declared.tree.Ident.{Ident}
use Rattle.token_core.specs.declared.word.Word.{Word}
use Rattle.token_core.specs.Loops.{Many}
use Rattle.item_small.specs.declared.item.BodyOf.{BodyOf}
use Rattle.item_small.specs.declared.item.FieldOf.{FieldOf}
use Rattle.item_small.specs.declared.item.ItemOf.{ItemOf}

-- `struct`
abbrev pub Struct : Type 0
Struct = Word 43

-- `;`
abbrev pub Semi : Type 0
Semi = Mark 24 1

-- `:`
abbrev pub Colon : Type 0
Colon = Mark 7 1

-- `,`
abbrev pub Comma : Type 0
Comma = Mark 4 1

-- fields with commas between them, and perhaps one after the last
abbrev pub Fields : Type 0 → Type 0 → Type 0
Fields A T = Many (FieldOf A T) Comma

abbrev pub field_of : {A T : Type 0} → A → Ident → Colon → T → FieldOf A T
field_of x i c y = record { attrs = x; ident = i; colon_token = c; ty = y }

abbrev pub item_of : {A G W T : Type 0} → A → Struct → Ident → G → W → BodyOf A T → ItemOf A G W T
item_of x s i y z b = record { attrs = x; struct_token = s; ident = i; generics = y; where_clause = z; body = b }
