-- Identifiers with commas between them, up to the end of a stream: the smallest list, and how it is read and spelt.
use Rattle.std.specs.Prelude.{◌≡◌, Bool, true, List}
use Rattle.token_core.specs.declared.mark.Mark.{Mark}
use Rattle.token_core.specs.declared.tree.Ident.{Ident}
use Rattle.token_core.specs.Toks.{Toks, word}
use Rattle.token_core.specs.Marks as marks
use Rattle.token_core.specs.Reads.{Reader, is_done, is_ident, ident_name, read_word}
use Rattle.token_core.specs.Loops.{Many, terminated}
use Rattle.token_core.specs.Listed.{AreListed, Anywhere}
use Rattle.token_core.specs.Spellings.{IsMark}

abbrev pub Comma : Type 0
Comma = Mark 4 1

abbrev pub name : Reader Ident
name = read_word is_ident ident_name

abbrev pub comma : Reader Comma
comma = marks.read 4 1

abbrev pub names : Reader (Many Ident Comma)
names = terminated is_done name comma

pub data IsName : Bool → Ident → Toks → Toks → Type 0 where
  a_name : {b : Bool} {i : Ident} {r : Toks} → is_ident i.text ≡ true → IsName b i (word i r) r

abbrev pub AreNames : Bool → List Ident → List Comma → Toks → Toks → Type 0
AreNames clear xs ps l r = AreListed IsName (IsMark clear) Anywhere true xs ps l r
