-- Literals as values: what reads of them answer, and what they print.
use Rattle.std.specs.Prelude.{Bool, true, false, ◌==◌, if◌then◌else◌, [], ◌∷◌, Option, Some, None, is_some, codes}
use Rattle.std.specs.Str.{bytes_eq}
use Rattle.token_core.specs.declared.span.Span.{Span}
use Rattle.token_core.specs.declared.tree.LitKind.{LitKind}
use Rattle.token_core.specs.declared.tree.LitKind.TheVariants.{Str, ByteStr, CStr, Byte, Char, Int, Float}
use Rattle.token_core.specs.declared.tree.Ident.{Ident}
use Rattle.token_core.specs.declared.tree.Literal.{Literal}
use Rattle.token_core.specs.declared.tree.Punct.{Punct}
use Rattle.token_core.specs.declared.tree.Spacing.TheVariants.{Alone}
use Rattle.token_core.specs.declared.tree.TokenTree.TheVariants as t
use Rattle.token_core.specs.declared.lit.Lit.{Lit}
use Rattle.token_core.specs.declared.lit.Lit.TheVariants as v
use Rattle.token_core.specs.declared.lit.LitBool.{LitBool}
use Rattle.token_core.specs.declared.lit.LitSort.{LitSort}
use Rattle.token_core.specs.declared.lit.LitSort.TheVariants as sort
use Rattle.token_core.specs.declared.lit.LitStr.{LitStr}
use Rattle.token_core.specs.declared.lit.Found.{Found}
use Rattle.token_core.specs.declared.lit.Found.TheVariants as f
use Rattle.token_core.specs.Negatives.{Negative}
use Rattle.token_core.specs.Toks.{Bytes, Toks, done, word, mark, lit, group, enter, leave}
use Rattle.token_core.specs.Front.{front}
use Rattle.token_core.specs.Prints.{Print}
use Rattle.token_core.specs.Spans.{span}
use Rattle.token_core.specs.Trees as trees
use Rattle.token_core.specs.Reads.{Reader, as_lit, goes_on, expected}

-- ---- parts

abbrev pub negative : Span → Literal → Negative
negative m n = record { minus = m; number = n }

abbrev pub lit_bool : Bool → Span → LitBool
lit_bool b s = record { value = b; span = s }

abbrev pub lit_str : Bytes → Span → LitStr
lit_str t s = record { text = t; span = s }

abbrev pub true_text : Bytes
true_text = codes "true"

abbrev pub false_text : Bytes
false_text = codes "false"

abbrev pub bool_text : Bool → Bytes
bool_text true = true_text
bool_text false = false_text

abbrev pub sort_of : Lit → LitSort
sort_of (v.Literal l) = sort.Literal l.kind
sort_of (v.Bool b) = sort.Bool
sort_of (v.Negative n) = sort.Literal n.number.kind

abbrev pub text_of : Lit → Bytes
text_of (v.Literal l) = l.text
text_of (v.Bool b) = bool_text b.value
text_of (v.Negative n) = 45 ∷ n.number.text

-- from the minus to the number
abbrev pub span_of : Lit → Span
span_of (v.Literal l) = l.span
span_of (v.Bool b) = b.span
span_of (v.Negative n) = span n.minus.lo n.number.span.hi

-- the span of its last tree
abbrev pub end_of : Lit → Span
end_of (v.Literal l) = l.span
end_of (v.Bool b) = b.span
end_of (v.Negative n) = n.number.span

abbrev pub is_number : LitKind → Bool
is_number Int = true
is_number Float = true
is_number Str = false
is_number ByteStr = false
is_number CStr = false
is_number Byte = false
is_number Char = false

abbrev pub is_str : LitKind → Bool
is_str Str = true
is_str ByteStr = false
is_str CStr = false
is_str Byte = false
is_str Char = false
is_str Int = false
is_str Float = false

-- ---- reads

abbrev pub past_bool : Ident → Toks → Option (Lit × Toks)
past_bool i k = if bytes_eq i.text true_text then Some (v.Bool (lit_bool true i.span), k) else (if bytes_eq i.text false_text then Some (v.Bool (lit_bool false i.span), k) else None)

abbrev pub past_number : Span → Option (Literal × Toks) → Option (Lit × Toks)
past_number m None = None
past_number m (Some p) = if is_number p.0.kind then Some (v.Negative (negative m p.0), p.1) else None

abbrev pub next_lit : Toks → Option (Literal × Toks)
next_lit l = as_lit (front l)

abbrev pub past_minus : Punct → Toks → Option (Lit × Toks)
past_minus p k = if p.ch == 45 then past_number p.span (next_lit k) else None

abbrev pub lit_at : Toks → Option (Lit × Toks)
lit_at done = None
lit_at (word i k) = past_bool i k
lit_at (mark p k) = past_minus p k
lit_at (lit l k) = Some (v.Literal l, k)
lit_at (group d s c k) = None
lit_at (enter s k) = None
lit_at (leave k) = None

-- the literal at the front, and what follows it: a literal tree, `true` or `false`, or a minus and a number
abbrev pub past_lit : Toks → Option (Lit × Toks)
past_lit l = lit_at (front l)

unfoldable pub sees_lit : Toks → Bool
sees_lit l = is_some (past_lit l)

abbrev pub lit_name : Bytes
lit_name = codes "literal"

unfoldable pub read_lit : Reader Lit
read_lit s = goes_on end_of (expected lit_name s) s (past_lit s.rest)

-- what stands in a buffer, as the literal
abbrev pub found : Found → Lit
found (f.Literal l) = v.Literal l.now
found (f.Bool b) = v.Bool b
found (f.Negative m n) = v.Negative (negative m n.now)

-- ---- string literals

abbrev pub str_of : Option (Literal × Toks) → Option (LitStr × Toks)
str_of None = None
str_of (Some p) = if is_str p.0.kind then Some (lit_str p.0.text p.0.span, p.1) else None

abbrev pub past_str : Toks → Option (LitStr × Toks)
past_str l = str_of (next_lit l)

unfoldable pub sees_str : Toks → Bool
sees_str l = is_some (past_str l)

abbrev pub str_name : Bytes
str_name = codes "string literal"

unfoldable pub read_str : Reader LitStr
read_str s = goes_on (λ x. x.span) (expected str_name s) s (past_str s.rest)

-- ---- prints

abbrev pub print : Lit → Print
print (v.Literal l) = t.Literal l ∷ []
print (v.Bool b) = t.Ident (trees.ident (bool_text b.value) b.span) ∷ []
print (v.Negative n) = t.Punct (trees.punct 45 Alone n.minus) ∷ (t.Literal n.number ∷ [])

abbrev pub print_str : LitStr → Print
print_str x = t.Literal (trees.literal Str x.text x.span) ∷ []
