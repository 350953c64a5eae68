-- The piece that is found at the front of a text.
use Rattle.std.specs.Prelude.{◌≡◌, ℕ, ◌+◌, ◌-◌, Bool, false, not, ◌&&◌, ◌||◌, ◌==◌, if◌then◌else◌, [], ◌∷◌, ◌++◌, drop, encode_utf8_all, chars, Option, Some, None, Result, Ok, Err, MatchOption, MatchResult}
use Rattle.std.specs.Borrow.{Bor}
use Rattle.std.specs.Char.{is_ascii_digit, is_ascii_hexdigit}
use Rattle.token_core.specs.declared.error.ErrorKind.{ErrorKind}
use Rattle.token_core.specs.declared.error.ErrorKind.TheVariants.{UnknownToken, UnterminatedToken, DocComment, MalformedNumber}
use Rattle.token_core.specs.declared.tree.Delimiter.TheVariants.{Parenthesis, Brace, Bracket, None as Invisible}
use Rattle.token_core.specs.declared.tree.LitKind.{LitKind}
use Rattle.token_core.specs.declared.tree.LitKind.TheVariants.{Str, ByteStr, CStr, Byte, Char, Int, Float}
use Rattle.token_core.specs.Toks.{Bytes}
use Rattle.token_text.specs.declared.class.Class.{Class}
use Rattle.token_text.specs.declared.class.Class.TheVariants.{Continue, Binary, Octal, Decimal, Hexadecimal, NoQuote, NoLineFeed}
use Rattle.token_text.specs.declared.piece.Closing.{Closing}
use Rattle.token_text.specs.declared.piece.Closing.TheVariants.{DoubleQuote, Hashes, Quote}
use Rattle.token_text.specs.declared.piece.Docs.{Docs}
use Rattle.token_text.specs.declared.piece.Docs.TheVariants.{Refuse, Read}
use Rattle.token_text.specs.declared.piece.Form.{Form}
use Rattle.token_text.specs.declared.piece.Form.TheVariants.{Line, Block}
use Rattle.token_text.specs.declared.piece.Leaf.TheVariants.{Blank, Doc, Word, Lifetime, Literal, Mark}
use Rattle.token_text.specs.declared.piece.Piece.{Piece}
use Rattle.token_text.specs.declared.piece.Piece.TheVariants.{Leaf, Open, Close}
use Rattle.token_text.specs.Characters.{Text, upto, begins_with, is_blank, is_mark, is_letter, is_start, after_run, starts}
use Rattle.token_text.specs.Pieces.{has_raw_form, is_char, begins_char, has_hashes, after_sign, is_e, spacing, is_line_doc, is_block_doc, style_of, has_lone_return}

-- what follows this character
abbrev pub after_char : ℕ → Text → Option Text
after_char d [] = None
after_char d (c ∷ cs) = if c == d then Some cs else None

-- what follows the blank at the front
abbrev pub after_blank : Text → Option Text
after_blank [] = None
after_blank (c ∷ cs) = if is_blank c then Some cs else None

-- ---- words

unfoldable pub word : Text → Option Text
word [] = None
word (c ∷ cs) = if is_start c then Some (after_run Continue cs) else None

-- what follows `r#`
abbrev pub raw_mark : Text → Option Text
raw_mark [] = None
raw_mark (a ∷ []) = None
raw_mark (a ∷ b ∷ cs) = if a == 114 && b == 35 then Some cs else None

abbrev pub word_after : Option Text → Option Text
word_after None = None
word_after (Some cs) = word cs

unfoldable pub raw_word : Text → Option Text
raw_word cs = word_after (raw_mark cs)

abbrev pub raw_or_plain : Text → Option Text → Option Text
raw_or_plain cs None = word cs
raw_or_plain cs (Some rest) = if has_raw_form (encode_utf8_all (upto cs rest)) then Some rest else None

-- a word, raw or not
unfoldable pub any_word : Text → Option Text
any_word cs = raw_or_plain cs (raw_word cs)

-- ---- what has a beginning and an end

-- after as many `#`, `#` up to 255 in all and `"`
unfoldable pub hashes : ℕ → Text → Option (ℕ × Text)
hashes n [] = None
hashes n (c ∷ cs) = if c == 34 then Some (n, cs) else (if c == 35 && not (n == 255) then hashes (n + 1) cs else None)

-- the kind of a literal, how it ends, and what follows its beginning
abbrev pub Opening : Type 0
Opening = LitKind × Closing × Text

abbrev pub opened : LitKind → Closing → Text → Option Opening
opened k how cs = Some (k, how, cs)

abbrev pub with_hashes : LitKind → Option (ℕ × Text) → Option Opening
with_hashes k None = None
with_hashes k (Some x) = opened k (Hashes x.0) x.1

abbrev pub with_char : LitKind → Text → Option Opening
with_char k cs = if begins_char cs then opened k Quote cs else None

-- after `b` or `c`
abbrev pub string_after : LitKind → Text → Option Opening
string_after k [] = None
string_after k (c ∷ cs) = if c == 34 then opened k DoubleQuote cs else (if c == 114 then with_hashes k (hashes 0 cs) else None)

abbrev pub after_b : Text → Option Opening
after_b [] = None
after_b (c ∷ cs) = if c == 39 then with_char Byte cs else string_after ByteStr (c ∷ cs)

unfoldable pub opening : Text → Option Opening
opening [] = None
opening (c ∷ cs) =
    if c == 34 then opened Str DoubleQuote cs
    else (if c == 39 then with_char Char cs
    else (if c == 114 then with_hashes Str (hashes 0 cs)
    else (if c == 98 then after_b cs
    else (if c == 99 then string_after CStr cs else None))))

-- up to `"`, where the next character doesn't count if it is escaped
unfoldable pub quoted : Bool → Text → Option Text
quoted escaped [] = None
quoted escaped (c ∷ cs) = if not escaped && c == 34 then Some cs else quoted (not escaped && c == 92) cs

unfoldable pub hashed : ℕ → Text → Option Text
hashed n [] = None
hashed n (c ∷ cs) = if c == 34 && has_hashes n cs then Some (drop n cs) else hashed n cs

abbrev pub escaped_char : Text → Option Text
escaped_char [] = None
escaped_char (c ∷ cs) = after_char 39 (after_run NoQuote cs)

unfoldable pub one_char : Text → Option Text
one_char [] = None
one_char (c ∷ cs) = if c == 92 then escaped_char cs else (if c == 39 then None else after_char 39 cs)

unfoldable pub closed : Closing → Text → Option Text
closed DoubleQuote cs = quoted false cs
closed (Hashes n) cs = hashed n cs
closed Quote cs = one_char cs

-- an identifier directly after a literal is its suffix
unfoldable pub after_suffix : Text → Text
after_suffix cs = if begins_with is_letter cs then after_run Continue cs else cs

-- ---- comments

abbrev pub begins_star_or_slash : Text → Bool
begins_star_or_slash = begins_with (λ d. d == 42 || d == 47)

-- up to the end of a comment that is in as many others
unfoldable pub comment : ℕ → Text → Option Text
comment n [] = None
comment n (a ∷ []) = None
comment n (a ∷ b ∷ cs) =
    if a == 47 && b == 42 then comment (n + 1) cs
    else (if a == 42 && b == 47 then (if n == 0 then Some cs else comment (n - 1) cs) else comment n (b ∷ cs))

-- ---- numbers

abbrev pub Numeral : Type 0
Numeral = Result (LitKind × Text) ErrorKind

-- after a 0: the base of what follows, and that
unfoldable pub base : Text → Option (Class × Text)
base [] = None
base (c ∷ cs) =
    if c == 120 && starts is_ascii_hexdigit cs then Some (Hexadecimal, cs)
    else (if c == 111 && starts is_ascii_digit cs then Some (Octal, cs)
    else (if c == 98 && starts is_ascii_digit cs then Some (Binary, cs) else None))

unfoldable pub based : Text → Numeral
based rest = if begins_with is_ascii_digit rest then Err MalformedNumber else Ok (Int, rest)

abbrev pub exponent_digits : Text → Numeral
exponent_digits cs = if starts is_ascii_digit cs then Ok (Float, after_run Decimal cs) else Err MalformedNumber

unfoldable pub exponent : LitKind → Text → Numeral
exponent k [] = Ok (k, [])
exponent k (c ∷ cs) = if is_e c then exponent_digits (after_sign cs) else Ok (k, c ∷ cs)

abbrev pub unless_more : Option Text → Option Text
unless_more None = None
unless_more (Some cs) = if begins_with (λ d. d == 46 || is_start d) cs then None else Some cs

-- after a point that belongs to a number
unfoldable pub point : Text → Option Text
point cs = unless_more (after_char 46 cs)

abbrev pub fraction_by : Text → Option Text → Numeral
fraction_by cs None = exponent Int cs
fraction_by cs (Some rest) = exponent Float (after_run Decimal rest)

unfoldable pub fraction : Text → Numeral
fraction cs = fraction_by cs (point cs)

-- after the first digit
abbrev pub decimal : Text → Numeral
decimal cs = fraction (after_run Decimal cs)

abbrev pub based_or_decimal : Text → Option (Class × Text) → Numeral
based_or_decimal cs None = decimal cs
based_or_decimal cs (Some x) = based (after_run x.0 x.1)

-- after its first digit
unfoldable pub number : ℕ → Text → Numeral
number c cs = if c == 48 then based_or_decimal cs (base cs) else decimal cs

-- ---- the longest piece at the front, or why there is none

-- a piece, and what follows it
abbrev pub Look : Type 0
Look = Result (Piece × Text) ErrorKind

abbrev pub ends : Piece → Option Text → Look
ends p None = Err UnterminatedToken
ends p (Some rest) = Ok (p, rest)

abbrev pub literal_piece : LitKind → Piece
literal_piece k = Leaf (Literal k)

abbrev pub lifetime_piece : Piece
lifetime_piece = Leaf Lifetime

abbrev pub literal : LitKind → Option Text → Look
literal k None = Err UnterminatedToken
literal k (Some rest) = Ok (literal_piece k, after_suffix rest)

abbrev pub numeral : Numeral → Look
numeral (Ok x) = Ok (literal_piece x.0, after_suffix x.1)
numeral (Err e) = Err e

abbrev pub known : Piece → Option Text → Look
known p None = Err UnknownToken
known p (Some rest) = Ok (p, rest)

abbrev pub mark_piece : ℕ → Text → Piece
mark_piece c rest = Leaf (Mark c (spacing rest))

abbrev pub marked : ℕ → Text → Look
marked c rest = Ok (mark_piece c rest, rest)

-- a comment of documentation up to `rest`, which may have no carriage return by itself in these characters
abbrev pub doc_in : Form → Text → Text → Text → Look
doc_in f cs rest w = if has_lone_return w then Err UnknownToken else Ok (Leaf (Doc (style_of cs) f), rest)

abbrev pub line_doc_to : Text → Text → Look
line_doc_to cs rest = doc_in Line cs rest (upto cs (drop 1 rest))

unfoldable pub line_doc : Docs → Text → Look
line_doc Refuse cs = Err DocComment
line_doc Read cs = line_doc_to cs (after_run NoLineFeed cs)

abbrev pub block_doc_to : Text → Option Text → Look
block_doc_to cs None = Err UnterminatedToken
block_doc_to cs (Some rest) = doc_in Block cs rest (upto cs rest)

unfoldable pub block_doc : Docs → Text → Look
block_doc Refuse cs = Err DocComment
block_doc Read cs = block_doc_to cs (comment 0 cs)

-- after `//`
unfoldable pub line_comment : Docs → Text → Look
line_comment docs cs = if is_line_doc cs then line_doc docs cs else Ok (Leaf Blank, after_run NoLineFeed cs)

-- after `/*`
unfoldable pub block_comment : Docs → Text → Look
block_comment docs cs = if is_block_doc cs then block_doc docs cs else ends (Leaf Blank) (comment 0 cs)

-- after `/`
unfoldable pub slash : Docs → Text → Look
slash docs [] = marked 47 []
slash docs (c ∷ cs) = if c == 47 then line_comment docs cs else (if c == 42 then block_comment docs cs else marked 47 (c ∷ cs))

-- after `\`
unfoldable pub backslash : Text → Look
backslash [] = Err UnknownToken
backslash (c ∷ cs) = if c == 40 then Ok (Open Invisible, cs) else (if c == 41 then Ok (Close Invisible, cs) else Err UnknownToken)

unfoldable pub single : ℕ → Text → Result Piece ErrorKind
single c rest =
    if is_blank c then Ok (Leaf Blank)
    else (if c == 40 then Ok (Open Parenthesis)
    else (if c == 41 then Ok (Close Parenthesis)
    else (if c == 91 then Ok (Open Bracket)
    else (if c == 93 then Ok (Close Bracket)
    else (if c == 123 then Ok (Open Brace)
    else (if c == 125 then Ok (Close Brace)
    else (if is_mark c then Ok (mark_piece c rest) else Err UnknownToken)))))))

abbrev pub before : Text → Result Piece ErrorKind → Look
before rest (Ok p) = Ok (p, rest)
before rest (Err e) = Err e

abbrev pub word_or_single : ℕ → Text → Option Text → Look
word_or_single c cs None = before cs (single c cs)
word_or_single c cs (Some rest) = Ok (Leaf Word, rest)

-- a number, a word or what is one character long
unfoldable pub plain : ℕ → Text → Look
plain c cs =
    if c == 98 && begins_with (is_char 39) cs then Err UnknownToken
    else (if is_ascii_digit c then numeral (number c cs) else word_or_single c cs (any_word (c ∷ cs)))

unfoldable pub unopened : Docs → ℕ → Text → Look
unopened docs c cs =
    if c == 47 then slash docs cs
    else (if c == 39 then known lifetime_piece (any_word cs)
    else (if c == 92 then backslash cs else plain c cs))

abbrev pub other : Docs → Text → Look
other docs [] = Err UnknownToken
other docs (c ∷ cs) = unopened docs c cs

abbrev pub opened_or_other : Docs → Text → Option Opening → Look
opened_or_other docs cs None = other docs cs
opened_or_other docs cs (Some x) = literal x.0 (closed x.1 x.2)

unfoldable pub look : Docs → Text → Look
look docs cs = opened_or_other docs cs (opening cs)

-- a piece, its characters, and the text after it
pub record Found : Type 0 where
  pub piece : Piece
  pub spelled : Text
  pub rest : Text

abbrev pub found : Piece → Text → Text → Found
found p w rest = record { piece = p; spelled = w; rest = rest }

abbrev pub found_in : Text → Look → Result Found ErrorKind
found_in cs (Ok x) = Ok (found x.0 (upto cs x.1) x.1)
found_in cs (Err e) = Err e

unfoldable pub front : Docs → Text → Result Found ErrorKind
front docs cs = found_in cs (look docs cs)

-- ---- what the functions that look for pieces answer

-- `rest` is an end of the text
pub record Past (text rest : Bytes) : Type 0 where
  pub front : Text
  pub split : text ≡ encode_utf8_all front ++ rest
  pub whole : chars text ≡ front ++ chars rest

-- what follows was found, and is an end of the text
abbrev pub Finds : Option Text → Bytes → Option (Bor Bytes) → Type 0
Finds o text r = MatchOption r (o ≡ None) (λ rest. (o ≡ Some (chars rest.now)) × Past text rest.now)

abbrev pub FindsBy : {A : Type 0} → Option (A × Text) → Bytes → Option (A × Bor Bytes) → Type 0
FindsBy o text r = MatchOption r (o ≡ None) (λ x. (o ≡ Some (x.0, chars x.1.now)) × Past text x.1.now)

abbrev pub FindsOpening : Option Opening → Bytes → Option (LitKind × Closing × Bor Bytes) → Type 0
FindsOpening o text r = MatchOption r (o ≡ None) (λ x. (o ≡ Some (x.0, x.1, chars x.2.now)) × Past text x.2.now)

abbrev pub Tells : {A : Type 0} → Result (A × Text) ErrorKind → Bytes → Result (A × Bor Bytes) ErrorKind → Type 0
Tells o text r = MatchResult r (λ x. (o ≡ Ok (x.0, chars x.1.now)) × Past text x.1.now) (λ e. o ≡ Err e)
