-- How an item is read.
use Rattle.std.specs.Prelude.{if◌then◌else◌, Err, codes}
use Rattle.token_core.specs.declared.tree.Delimiter.TheVariants.{Brace}
use Rattle.token_core.specs.declared.tree.Ident.{Ident}
use Rattle.token_core.specs.Groups.{brace, brace_name}
use Rattle.token_core.specs.Loops.{terminated}
use Rattle.token_core.specs.Marks as marks
use Rattle.token_core.specs.Reads.{Reader, ◌>>=◌, pure, peek, is_done, is_ident, ident_name, read_word, sees_group, in_group, expected}
use Rattle.token_core.specs.Tokens as token
use Rattle.token_core.specs.Toks.{Bytes}
use Rattle.item_small.specs.declared.item.BodyOf.{BodyOf}
use Rattle.item_small.specs.declared.item.BodyOf.TheVariants as b
use Rattle.item_small.specs.declared.item.FieldOf.{FieldOf}
use Rattle.item_small.specs.declared.item.ItemOf.{ItemOf}
use Rattle.item_small.specs.item.Trees.{Struct, Semi, Colon, Comma, Fields, field_of, item_of}

abbrev pub name : Reader Ident
name = read_word is_ident ident_name

abbrev pub struct_word : Reader Struct
struct_word = marks.read_named 43

abbrev pub comma : Reader Comma
comma = marks.read 4 1

abbrev pub colon : Reader Colon
colon = marks.read 7 1

abbrev pub semi : Reader Semi
semi = marks.read 24 1

abbrev pub body_name : Bytes
body_name = codes "curly braces or `;`"

module _ {A T : Type 0} (a : Reader A) (t : Reader T) where
  unfoldable pub field : Reader (FieldOf A T)
  field = do
    x ← a
    i ← name
    c ← colon
    y ← t
    pure (field_of x i c y)

  -- up to the end of the braces
  abbrev pub fields : Reader (Fields A T)
  fields = terminated is_done field comma

  abbrev pub named : Reader (BodyOf A T)
  named = do
    v ← in_group Brace brace_name fields
    pure (b.Named (brace v.0) v.1)

  abbrev pub unit : Reader (BodyOf A T)
  unit = do
    q ← semi
    pure (b.Unit q)

  abbrev pub no_body : Reader (BodyOf A T)
  no_body = λ s. Err (expected body_name s)

  unfoldable pub body : Reader (BodyOf A T)
  body = do
    braces ← peek (sees_group Brace)
    if braces then named else (do
      ends ← peek token.sees_semi
      if ends then unit else no_body)

module _ {A G W T : Type 0} (a : Reader A) (g : Reader G) (w : Reader W) (t : Reader T) where
  unfoldable pub item : Reader (ItemOf A G W T)
  item = do
    x ← a
    s ← struct_word
    i ← name
    y ← g
    z ← w
    v ← body a t
    pure (item_of x s i y z v)
