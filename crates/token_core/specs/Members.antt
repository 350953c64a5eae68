-- Members of structs and tuples: what reads of them answer, and what they print.
use Rattle.std.specs.Prelude.{ℕ, Bool, true, false, ◌==◌, ◌&&◌, ◌||◌, ◌+◌, ◌*◌, nat_le, if◌then◌else◌, [], ◌∷◌, drop, Option, Some, None, Ok, Err, codes}
use Rattle.std.specs.Char.{digit_value, is_digit}
use Rattle.std.specs.Fmt.{decimal}
use Rattle.std.specs.Option.{unwrap_or}
use Rattle.token_core.specs.declared.span.Span.{Span}
use Rattle.token_core.specs.declared.tree.LitKind.{LitKind}
use Rattle.token_core.specs.declared.tree.LitKind.TheVariants.{Str, ByteStr, CStr, Byte, Char, Int, Float}
use Rattle.token_core.specs.declared.tree.Literal.{Literal}
use Rattle.token_core.specs.declared.tree.TokenTree.TheVariants as t
use Rattle.token_core.specs.declared.member.Index.{Index}
use Rattle.token_core.specs.declared.member.Member.{Member}
use Rattle.token_core.specs.declared.member.Member.TheVariants as m
use Rattle.token_core.specs.Toks.{Bytes, Toks}
use Rattle.token_core.specs.Prints.{Print, ident}
use Rattle.token_core.specs.Stream.{Stream}
use Rattle.token_core.specs.Trees as trees
use Rattle.token_core.specs.Lits.{next_lit}
use Rattle.token_core.specs.Reads.{Reader, Outcome, ◌>>=◌, peek, ◌<$>◌, past, expected, read_word, sees_word, is_ident, ident_name}

abbrev pub index : ℕ → Span → Index
index n s = record { index = n; span = s }

-- ---- the number that an Int literal writes

-- digits of a base, and `_`, after those that wrote a number; none where there is no digit, or anything else
abbrev pub number_after : ℕ → Option ℕ → Bytes → Option ℕ
number_after base n [] = n
number_after base n (c ∷ cs) = if c == 95 || is_digit c base then number_after base (if c == 95 then n else Some (unwrap_or n 0 * base + digit_value c)) cs else None

abbrev pub no_number : Option ℕ
no_number = None

abbrev pub fit : ℕ → Option ℕ
fit n = if nat_le n 4294967295 then Some n else None

abbrev pub fitting : Option ℕ → Option ℕ
fitting None = None
fitting (Some n) = fit n

-- one digit more
abbrev pub put_digit : ℕ → ℕ → ℕ → Option ℕ
put_digit base n c = if is_digit c base then fit (n * base + digit_value c) else None

-- the text begins with `0` and this letter
abbrev pub begins : ℕ → Bytes → Bool
begins b [] = false
begins b (z ∷ []) = false
begins b (z ∷ c ∷ cs) = (z == 48) && (c == b)

-- the number that the text of an Int literal without suffix writes: after `0x`, `0o` or `0b` in that base, else in base 10
abbrev pub number : Bytes → Option ℕ
number t =
    if begins 120 t then number_after 16 None (drop 2 t) else (
    if begins 111 t then number_after 8 None (drop 2 t) else (
    if begins 98 t then number_after 2 None (drop 2 t) else number_after 10 None t))

-- the same, if it is at most 4,294,967,295
unfoldable pub value : Bytes → Option ℕ
value t = fitting (number t)

-- ---- reads

abbrev pub is_int : LitKind → Bool
is_int Int = true
is_int Float = false
is_int Str = false
is_int ByteStr = false
is_int CStr = false
is_int Byte = false
is_int Char = false

abbrev pub int_name : Bytes
int_name = codes "integer literal"

abbrev pub index_name : Bytes
index_name = codes "unsuffixed integer of at most 32 bits"

abbrev pub index_if : Stream → Literal × Toks → Option ℕ → Outcome Index
index_if s p None = Err (expected index_name s)
index_if s p (Some n) = Ok (index n p.0.span, past s p.1 p.0.span)

abbrev pub index_at : Stream → Option (Literal × Toks) → Outcome Index
index_at s None = Err (expected int_name s)
index_at s (Some p) = if is_int p.0.kind then index_if s p (value p.0.text) else Err (expected int_name s)

-- an Int literal without suffix, of a value of at most 4,294,967,295
unfoldable pub read_index : Reader Index
read_index s = index_at s (next_lit s.rest)

abbrev pub int_meets : Option (Literal × Toks) → Bool
int_meets None = false
int_meets (Some p) = is_int p.0.kind

unfoldable pub sees_int : Toks → Bool
sees_int l = int_meets (next_lit l)

abbrev pub member_name : Bytes
member_name = codes "identifier or integer"

abbrev pub no_member : Reader Member
no_member s = Err (expected member_name s)

-- an `Ident`, or an index where an Int literal stands
unfoldable pub read_member : Reader Member
read_member = do
  named ← peek (sees_word is_ident)
  if named then m.Named <$> read_word is_ident ident_name else (do
    unnamed ← peek sees_int
    if unnamed then m.Unnamed <$> read_index else no_member)

-- ---- prints

abbrev pub print_index : Index → Print
print_index i = t.Literal (trees.literal Int (decimal i.index) i.span) ∷ []

abbrev pub print : Member → Print
print (m.Named i) = ident i
print (m.Unnamed i) = print_index i
