-- What a string literal holds, by the rules of Rust: its characters as they stand or by escapes, each with its place, and what is malformed in it.
-- Characters stand as numbers: 10 a line feed, 13 a carriage return, 34 `"`, 35 `#`, 92 `\`, 95 `_`, 123 `{`, 125 `}`.
use Rattle.std.specs.Prelude.{◌≡◌, ℕ, ◌+◌, ◌*◌, Bool, true, false, ◌&&◌, ◌||◌, ◌==◌, nat_lt, nat_le, if◌then◌else◌, List, [], ◌∷◌, ◌++◌, length, map, drop, replicate, codes, encode_utf8, encode_utf8_all, chars, Option, Some, None, MatchOption, ◌<◌, ◌≤◌}
use Rattle.std.specs.Char.{digit_value, is_digit, is_ascii_hexdigit}
use Rattle.token_core.specs.declared.lit.LitStr.{LitStr}
use Rattle.token_core.specs.declared.span.Span.{Span}
use Rattle.token_core.specs.declared.tree.LitKind.TheVariants.{Str}
use Rattle.token_core.specs.Refusal.{Refusal, custom}
use Rattle.token_core.specs.Spans.{span}
use Rattle.token_core.specs.Toks.{Bytes}
use Rattle.std.specs.Borrow.{Bor}
use Rattle.token_text.specs.declared.class.Class.TheVariants.{Blank, Hexadecimal}
use Rattle.token_text.specs.declared.piece.Closing.{Closing}
use Rattle.token_text.specs.declared.piece.Closing.TheVariants.{DoubleQuote, Hashes, Quote}
use Rattle.token_text.specs.Characters.{Text, size, upto, begins_with, after_run}
use Rattle.token_text.specs.Front.{Opening, Past, after_char, after_suffix, opening}
use Rattle.token_text.specs.Pieces.{has_hashes}

-- ---- what one character, escape or end of a line stands for

-- a character that is held, or none, and what follows
abbrev pub Shown : Type 0
Shown = Option ℕ × Text

abbrev pub shows : ℕ → Text → Option Shown
shows c cs = Some (Some c, cs)

-- after a backslash: `n`, `r`, `t`, `0`, and what stands for itself: `\`, `'` and `"`
unfoldable pub letter : ℕ → Option ℕ
letter c =
    if c == 110 then Some 10
    else (if c == 114 then Some 13
    else (if c == 116 then Some 9
    else (if c == 48 then Some 0
    else (if (c == 92 || c == 39) || c == 34 then Some c else None))))

-- the character of two hexadecimal digits, up to 7F
unfoldable pub of_two : ℕ → ℕ → Option ℕ
of_two a b = if is_digit a 8 && is_digit b 16 then Some (digit_value a * 16 + digit_value b) else None

abbrev pub shown_if : Option ℕ → Text → Option Shown
shown_if None cs = None
shown_if (Some c) cs = shows c cs

-- after `\x`: two such digits
unfoldable pub by_two : Text → Option Shown
by_two [] = None
by_two (a ∷ []) = None
by_two (a ∷ b ∷ cs) = shown_if (of_two a b) cs

-- the hexadecimal digits of a text
abbrev pub digits : Text → Text
digits [] = []
digits (c ∷ cs) = if is_digit c 16 then c ∷ digits cs else digits cs

-- the number that goes on with these digits
abbrev pub number : ℕ → Text → ℕ
number n [] = n
number n (c ∷ cs) = number (n * 16 + digit_value c) cs

-- the number of a character: up to 10FFFF, and no surrogate
abbrev pub is_scalar : ℕ → Bool
is_scalar n = nat_lt n 55296 || (nat_le 57344 n && nat_lt n 1114112)

-- one to six digits, of which the first stands first, whose number is that of a character
unfoldable pub is_number : Text → Bool
is_number w = begins_with is_ascii_hexdigit w && nat_le (length (digits w)) 6 && is_scalar (number 0 (digits w))

abbrev pub numbered : Text → Option Text → Option Shown
numbered w None = None
numbered w (Some cs) = if is_number w then shows (number 0 (digits w)) cs else None

-- a number of up to six digits, or none where there are more
abbrev pub NumberOf : Text → Option ℕ → Type 0
NumberOf ds r = MatchOption r (6 < length ds) (λ n. (length ds ≤ 6) × (n ≡ number 0 ds))

-- hexadecimal digits, with `_` among them, and `}`
unfoldable pub braced : Text → Option Shown
braced cs = numbered (upto cs (after_run Hexadecimal cs)) (after_char 125 (after_run Hexadecimal cs))

-- after `\u`: such digits in braces
abbrev pub by_number : Option Text → Option Shown
by_number None = None
by_number (Some cs) = braced cs

-- after a line feed that a backslash goes before: all blanks are passed over
abbrev pub broken : Option Text → Option Shown
broken None = None
broken (Some cs) = Some (None, after_run Blank cs)

-- after a backslash
unfoldable pub escaped : Text → Option Shown
escaped [] = None
escaped (c ∷ cs) =
    if c == 120 then by_two cs
    else (if c == 117 then by_number (after_char 123 cs)
    else (if c == 10 then Some (None, after_run Blank cs)
    else (if c == 13 then broken (after_char 10 cs) else shown_if (letter c) cs)))

-- how many `#` belong to the closing quote
abbrev pub hashes_of : Closing → ℕ
hashes_of DoubleQuote = 0
hashes_of (Hashes n) = n
hashes_of Quote = 0

-- a raw string has no escapes
abbrev pub has_escapes : Closing → Bool
has_escapes DoubleQuote = true
has_escapes (Hashes n) = false
has_escapes Quote = true

abbrev pub past_hashes : ℕ → Option Text → Option Text
past_hashes n None = None
past_hashes n (Some cs) = if has_hashes n cs then Some (drop n cs) else None

-- what follows the closing quote
unfoldable pub after_closing : Closing → Text → Option Text
after_closing how cs = past_hashes (hashes_of how) (after_char 34 cs)

-- after a carriage return, which stands before a line feed alone: they are one line feed
abbrev pub line_end : Option Text → Option Shown
line_end None = None
line_end (Some cs) = shows 10 cs

-- after a backslash
abbrev pub backslash : Closing → Text → Option Shown
backslash how cs = if has_escapes how then escaped cs else shows 92 cs

-- a character, an escape or the end of a line
unfoldable pub unit : Closing → Text → Option Shown
unit how [] = None
unit how (c ∷ cs) = if c == 13 then line_end (after_char 10 cs) else (if c == 92 then backslash how cs else shows c cs)

abbrev pub unless_closed : Option Text → Option Shown → Option Shown
unless_closed (Some cs) o = None
unless_closed None o = o

-- the same at the front of what a string holds, where it doesn't end
unfoldable pub shown : Closing → Text → Option Shown
shown how cs = unless_closed (after_closing how cs) (unit how cs)

-- ---- places

-- A place in a literal's text: where that literal stands in a text it is the place there, and else the literal's.
unfoldable pub inside : LitStr → ℕ → ℕ → Span
inside s a b = if s.span.lo + length s.text == s.span.hi then span (s.span.lo + a) (s.span.lo + b) else s.span

-- how many bytes of the literal's text stand before these characters, which end it
abbrev pub offset : LitStr → Text → ℕ
offset s cs = size (upto (chars s.text) cs)

-- from where these characters begin, which end the literal's text, to where those do
abbrev pub between : LitStr → Text → Text → Span
between s cs ds = inside s (offset s cs) (offset s ds)

-- ---- what the literal holds

-- a character, and where it stands
pub record Held : Type 0 where
  pub ch : ℕ
  pub place : Span

abbrev pub held : ℕ → Span → Held
held c s = record { ch = c; place = s }

-- from its first characters to the last: what they hold
pub data Holds (s : LitStr) (how : Closing) : Text → List Held → Text → Type 0 where
  nothing : {cs : Text} → Holds s how cs [] cs
  a_char : {c : ℕ} {cs ds rest : Text} {l : List Held} → shown how cs ≡ Some (Some c, ds) → Holds s how ds l rest → Holds s how cs (held c (between s cs ds) ∷ l) rest
  a_break : {cs ds rest : Text} {l : List Held} → shown how cs ≡ Some (None, ds) → Holds s how ds l rest → Holds s how cs l rest

-- the characters that it holds, where its closing quote stands, and its suffix
pub record Content : Type 0 where
  pub held : List Held
  pub closing : Span
  pub suffix : Text

-- the literal begins as a string, and holds this up to `rest`
pub record Reaches (s : LitStr) (how : Closing) (l : List Held) (rest : Text) : Type 0 where
  pub body : Text
  pub opens : opening (chars s.text) ≡ Some (Str, how, body)
  pub holds : Holds s how body l rest

-- the literal is a string with this content
pub record IsString (s : LitStr) (c : Content) : Type 0 where
  pub how : Closing
  pub end : Text
  pub reaches : Reaches s how c.held end
  pub closes : after_closing how end ≡ Some c.suffix
  pub suffix : after_suffix c.suffix ≡ []
  pub closing : c.closing ≡ between s end c.suffix

-- the text of these characters
abbrev pub text_of : List Held → Bytes
text_of l = encode_utf8_all (map (λ x. x.ch) l)

-- of each byte of that text the place of its character
abbrev pub places_of : List Held → List Span
places_of [] = []
places_of (x ∷ l) = replicate (length (encode_utf8 x.ch)) x.place ++ places_of l

-- The text that the literal holds.
abbrev pub HasValue : LitStr → Bytes → Type 0
HasValue s v = (c : Content) × IsString s c × (v ≡ text_of c.held)

-- ---- why it is none

abbrev pub no_string : LitStr → Refusal
no_string s = custom s.span s.span (codes "expected string literal")

-- after a backslash and this character
unfoldable pub escape_text : ℕ → Bytes
escape_text c =
    if c == 120 then codes "expected two hexadecimal digits up to 7F after `\\x`"
    else (if c == 117 then codes "expected the number of a character in braces after `\\u`" else codes "unknown escape")

abbrev pub at_place : Span → Bytes → Refusal
at_place p t = custom p p t

-- an escape that begins at `from`, of which this follows the backslash
abbrev pub bad_escape : LitStr → Text → Text → Refusal
bad_escape s from [] = no_string s
bad_escape s from (d ∷ cs) = at_place (between s from cs) (escape_text d)

-- at what neither stands in a string nor ends it: a lone carriage return, or the backslash of an escape, with the character after it
unfoldable pub stuck : LitStr → Text → Refusal
stuck s [] = no_string s
stuck s (c ∷ cs) = if c == 13 then at_place (between s (c ∷ cs) cs) (codes "carriage return without a line feed") else bad_escape s (c ∷ cs) cs

-- the literal is no string, for this reason
pub data Malformed (s : LitStr) : Refusal → Type 0 where
  -- it doesn't begin as one
  unopened : ((how : Closing) (body : Text) → opening (chars s.text) ≡ Some (Str, how, body) → ⊥) → Malformed s (no_string s)
  -- something in it holds nothing, and is no end
  inner : {how : Closing} {l : List Held} {rest : Text} → Reaches s how l rest → shown how rest ≡ None → after_closing how rest ≡ None → Malformed s (stuck s rest)
  -- more than a suffix follows its end
  more : {how : Closing} {l : List Held} {rest ds : Text} → Reaches s how l rest → after_closing how rest ≡ Some ds → ¬ (after_suffix ds ≡ []) → Malformed s (no_string s)

-- ---- what the functions that take a string apart answer

-- a string begins here, and ends so, and this follows its beginning
abbrev pub FindsString : Option Opening → Bytes → Option (Closing × Bor Bytes) → Type 0
FindsString o text r = MatchOption r ((how : Closing) (body : Text) → o ≡ Some (Str, how, body) → ⊥) (λ x. (o ≡ Some (Str, x.0, chars x.1.now)) × Past text x.1.now)

-- From `body` to `rest` the string holds characters, of which these are the text and the places.
pub record Taken (s : LitStr) (how : Closing) (body : Text) (rest : Bytes) (text : Bytes) (places : List Span) : Type 0 where
  pub held : List Held
  pub holds : Holds s how body held (chars rest)
  pub text_is : text ≡ text_of held
  pub places_are : places ≡ places_of held

-- a character that was found, if one was, is put in
abbrev pub Adds : Option ℕ → Span → Bytes → List Span → Bytes → List Span → Type 0
Adds None place text places new_text new_places = (new_text ≡ text) × (new_places ≡ places)
Adds (Some c) place text places new_text new_places = (new_text ≡ text ++ encode_utf8 c) × (new_places ≡ places ++ replicate (length (encode_utf8 c)) place)

-- What was found out of the literal: its content, by the text, the places of its bytes, the place of the closing quote and the suffix.
pub record Found (s : LitStr) (text : Bytes) (places : List Span) (closing : Span) (suffix : Text) : Type 0 where
  pub content : Content
  pub is_string : IsString s content
  pub text_is : text ≡ text_of content.held
  pub places_are : places ≡ places_of content.held
  pub closing_is : closing ≡ content.closing
  pub suffix_is : suffix ≡ content.suffix
