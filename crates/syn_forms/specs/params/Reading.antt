-- Parameters after their attributes, over the reads of the types, bounds and values that they hold.
use Rattle.std.specs.Prelude.{Bool, ◌||◌, [], Option, Some, None}
use Rattle.token_core.specs.declared.lifetime.Lifetime.{Lifetime}
use Rattle.token_core.specs.declared.tree.Ident.{Ident}
use Rattle.token_core.specs.Lifetimes.{read_lifetime}
use Rattle.token_core.specs.Loops.{Many}
use Rattle.token_core.specs.Reads.{Reader, ◌>>=◌, pure, optional, is_done, is_ident, ident_name, read_word}
use Rattle.token_core.specs.Toks.{Toks}
use Rattle.syn_forms.specs.lists.Reading.{bounds_to}
use Rattle.token_core.specs.Tokens as token

-- where the bounds of a parameter end: at the end, `,` or `>`, those of a type parameter at `=` too
unfoldable pub ends_lifetime : Toks → Bool
ends_lifetime l = is_done l || (token.sees_comma l || token.sees_gt l)

unfoldable pub ends_type : Toks → Bool
ends_type l = is_done l || (token.sees_comma l || (token.sees_gt l || token.sees_equals l))

module _ {B : Type 0} (ends : Toks → Bool) (bound : Reader B) where
  -- bounds stand after a `:` alone
  abbrev pub bounds_after : Option token.Colon → Reader (Many B token.Plus)
  bounds_after None = pure ([], [])
  bounds_after (Some c) = bounds_to bound ends

module _ {A : Type 0} (value : Reader A) where
  -- `=` and a default
  unfoldable pub given : Reader (token.Equals × A)
  given = do
    e ← token.equals
    x ← value
    pure (e, x)

  abbrev pub default_of : Reader (Option (token.Equals × A))
  default_of = optional token.sees_equals given

-- `'a: 'b + 'c`
abbrev pub LifetimeParts : Type 0
LifetimeParts = Lifetime × Option token.Colon × Many Lifetime token.Plus

unfoldable pub lifetime_parts : Reader LifetimeParts
lifetime_parts = do
  l ← read_lifetime
  c ← optional token.sees_colon token.colon
  b ← bounds_after ends_lifetime read_lifetime c
  pure (l, c, b)

-- `T: A + B = C`
abbrev pub TypeParts : Type 0 → Type 0 → Type 0
TypeParts B T = Ident × Option token.Colon × Many B token.Plus × Option (token.Equals × T)

module _ {B T : Type 0} (bound : Reader B) (typ : Reader T) where
  unfoldable pub type_parts : Reader (TypeParts B T)
  type_parts = do
    i ← read_word is_ident ident_name
    c ← optional token.sees_colon token.colon
    b ← bounds_after ends_type bound c
    d ← default_of typ
    pure (i, c, b, d)

-- `const N: T = 1`
abbrev pub ConstParts : Type 0 → Type 0 → Type 0
ConstParts T E = token.Const × Ident × token.Colon × T × Option (token.Equals × E)

module _ {T E : Type 0} (typ : Reader T) (value : Reader E) where
  unfoldable pub const_parts : Reader (ConstParts T E)
  const_parts = do
    w ← token.const_word
    i ← read_word is_ident ident_name
    c ← token.colon
    t ← typ
    d ← default_of value
    pure (w, i, c, t, d)
