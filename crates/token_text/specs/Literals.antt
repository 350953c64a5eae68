-- What words, literals and comments are, rule by rule: of a text, and of what follows them in it.
-- Characters stand as numbers: 34 `"`, 35 `#`, 39 `'`, 42 `*`, 46 `.`, 47 `/`, 48 `0`, 92 `\`, 98 `b`, 99 `c`, 111 `o`, 114 `r`, 120 `x`.
use Rattle.std.specs.Prelude.{◌≡◌, ℕ, zero, suc, ◌≤◌, Bool, true, false, not, ◌&&◌, ◌||◌, ◌==◌, ◌++◌, [], ◌∷◌, codes, drop, encode_utf8_all}
use Rattle.std.specs.Char.{is_ascii_digit, is_ascii_hexdigit}
use Rattle.token_core.specs.declared.tree.LitKind.{LitKind}
use Rattle.token_core.specs.declared.tree.LitKind.TheVariants.{Str, ByteStr, CStr, Byte, Char, Int, Float}
use Rattle.token_text.specs.declared.class.Class.{Class}
use Rattle.token_text.specs.declared.class.Class.TheVariants.{Continue, Binary, Octal, Decimal, Hexadecimal, NoQuote}
use Rattle.token_text.specs.declared.piece.Closing.{Closing}
use Rattle.token_text.specs.declared.piece.Closing.TheVariants.{DoubleQuote, Hashes, Quote}
use Rattle.token_text.specs.Characters.{Text, upto, begins_with, is_letter, is_start, passes, starts}
use Rattle.token_text.specs.Pieces.{has_hashes, begins_char, after_sign, is_e, has_raw_form}

-- all characters of the class that stand here
pub data Run (p : Class) : Text → Text → Type 0 where
  run_ends : {cs : Text} → begins_with (passes p) cs ≡ false → Run p cs cs
  run_goes : {c : ℕ} {cs rest : Text} → passes p c ≡ true → Run p cs rest → Run p (c ∷ cs) rest

-- ---- words

-- a character that may start a word, and then such as continue it
pub data IsWord : Text → Text → Type 0 where
  a_word : {c : ℕ} {cs rest : Text} → is_start c ≡ true → Run Continue cs rest → IsWord (c ∷ cs) rest

-- `r#` and the start of a word
abbrev pub BeginsRaw : Text → Type 0
BeginsRaw cs = (body : Text) × (cs ≡ codes "r#" ++ body) × (begins_with is_start body ≡ true)

-- a word as it stands, unless a raw one begins with it; or `r#` and a word that has a raw form
pub data IsAnyWord : Text → Text → Type 0 where
  plain : {cs rest : Text} → ¬ BeginsRaw cs → IsWord cs rest → IsAnyWord cs rest
  raw : {cs rest : Text} → IsWord cs rest → has_raw_form (encode_utf8_all (upto (114 ∷ 35 ∷ cs) rest)) ≡ true → IsAnyWord (114 ∷ 35 ∷ cs) rest

-- ---- how literals begin

-- as many `#`, and `"`
pub data AreHashes : ℕ → Text → Text → Type 0 where
  no_hash : {cs : Text} → AreHashes zero (34 ∷ cs) cs
  a_hash : {n : ℕ} {cs rest : Text} → AreHashes n cs rest → AreHashes (suc n) (35 ∷ cs) rest

-- A literal of this kind begins here, and ends so, after the text that follows its beginning.
pub data Opens : LitKind → Closing → Text → Text → Type 0 where
  string : {cs : Text} → Opens Str DoubleQuote (34 ∷ cs) cs
  byte_string : {cs : Text} → Opens ByteStr DoubleQuote (98 ∷ 34 ∷ cs) cs
  c_string : {cs : Text} → Opens CStr DoubleQuote (99 ∷ 34 ∷ cs) cs
  raw_string : {n : ℕ} {cs ds : Text} → n ≤ 255 → AreHashes n cs ds → Opens Str (Hashes n) (114 ∷ cs) ds
  raw_byte_string : {n : ℕ} {cs ds : Text} → n ≤ 255 → AreHashes n cs ds → Opens ByteStr (Hashes n) (98 ∷ 114 ∷ cs) ds
  raw_c_string : {n : ℕ} {cs ds : Text} → n ≤ 255 → AreHashes n cs ds → Opens CStr (Hashes n) (99 ∷ 114 ∷ cs) ds
  char : {cs : Text} → begins_char cs ≡ true → Opens Char Quote (39 ∷ cs) cs
  byte : {cs : Text} → begins_char cs ≡ true → Opens Byte Quote (98 ∷ 39 ∷ cs) cs

-- ---- how they end

-- up to the next `"` that isn't escaped by a backslash
pub data IsQuoted : Text → Text → Type 0 where
  double_quote : {rest : Text} → IsQuoted (34 ∷ rest) rest
  escape : {c : ℕ} {cs rest : Text} → IsQuoted cs rest → IsQuoted (92 ∷ c ∷ cs) rest
  other : {c : ℕ} {cs rest : Text} → (c == 34) ≡ false → (c == 92) ≡ false → IsQuoted cs rest → IsQuoted (c ∷ cs) rest

-- up to the next `"` that as many `#` follow
pub data IsHashed (n : ℕ) : Text → Text → Type 0 where
  here : {cs : Text} → has_hashes n cs ≡ true → IsHashed n (34 ∷ cs) (drop n cs)
  later : {c : ℕ} {cs rest : Text} → (c == 34 && has_hashes n cs) ≡ false → IsHashed n cs rest → IsHashed n (c ∷ cs) rest

-- a backslash, and up to the next `'` after the escaped character; or one other character and `'`
pub data IsChar : Text → Text → Type 0 where
  escaped : {c : ℕ} {cs rest : Text} → Run NoQuote cs (39 ∷ rest) → IsChar (92 ∷ c ∷ cs) rest
  one : {c : ℕ} {rest : Text} → (c == 92) ≡ false → (c == 39) ≡ false → IsChar (c ∷ 39 ∷ rest) rest

abbrev pub Closes : Closing → Text → Text → Type 0
Closes DoubleQuote = IsQuoted
Closes (Hashes n) = IsHashed n
Closes Quote = IsChar

-- an identifier that begins with a letter, or nothing where none stands
pub data IsSuffix : Text → Text → Type 0 where
  none : {cs : Text} → begins_with is_letter cs ≡ false → IsSuffix cs cs
  suffix : {cs rest : Text} → begins_with is_letter cs ≡ true → Run Continue cs rest → IsSuffix cs rest

-- ---- numbers

-- `0x`, `0o` or `0b`, the digits and `_` that go on in this base, and what follows the two characters, where a digit stands after any `_`
pub data IsBase : Class → Text → Text → Type 0 where
  hexadecimal : {cs : Text} → starts is_ascii_hexdigit cs ≡ true → IsBase Hexadecimal (48 ∷ 120 ∷ cs) cs
  octal : {cs : Text} → starts is_ascii_digit cs ≡ true → IsBase Octal (48 ∷ 111 ∷ cs) cs
  binary : {cs : Text} → starts is_ascii_digit cs ≡ true → IsBase Binary (48 ∷ 98 ∷ cs) cs

abbrev pub HasBase : Text → Type 0
HasBase cs = (b : Class) × (ds : Text) × IsBase b cs ds

-- a digit and then digits and `_`, unless another base begins so
pub data IsDecimal : Text → Text → Type 0 where
  digits : {c : ℕ} {cs rest : Text} → is_ascii_digit c ≡ true → ¬ HasBase (c ∷ cs) → Run Decimal cs rest → IsDecimal (c ∷ cs) rest

-- a point that belongs to a number: neither another point, nor `_` or a letter follows
abbrev pub begins_fraction : Text → Bool
begins_fraction [] = false
begins_fraction (c ∷ cs) = c == 46 && not (begins_with (λ d. d == 46 || is_start d) cs)

-- such a point, and digits and `_`
pub data IsFraction : LitKind → Text → Text → Type 0 where
  whole : {cs : Text} → begins_fraction cs ≡ false → IsFraction Int cs cs
  fraction : {cs rest : Text} → begins_fraction (46 ∷ cs) ≡ true → Run Decimal cs rest → IsFraction Float (46 ∷ cs) rest

-- `e` or `E`, a sign that may stand or not, and digits and `_`, where a digit stands after any `_`
pub data IsExponent : LitKind → LitKind → Text → Text → Type 0 where
  absent : {k : LitKind} {cs : Text} → begins_with is_e cs ≡ false → IsExponent k k cs cs
  exponent : {k : LitKind} {c : ℕ} {cs rest : Text} → is_e c ≡ true → starts is_ascii_digit (after_sign cs) ≡ true → Run Decimal (after_sign cs) rest →
      IsExponent k Float (c ∷ cs) rest

-- a number, without its suffix
pub data IsNumber : LitKind → Text → Text → Type 0 where
  of_base : {b : Class} {cs ds rest : Text} → IsBase b cs ds → Run b ds rest → begins_with is_ascii_digit rest ≡ false → IsNumber Int cs rest
  decimal : {j k : LitKind} {cs ds es rest : Text} → IsDecimal cs ds → IsFraction j ds es → IsExponent j k es rest → IsNumber k cs rest

-- a number of another base that a decimal digit outside the base follows, or an `e` without digits
pub data IsMalformed : Text → Type 0 where
  outside : {b : Class} {cs ds rest : Text} → IsBase b cs ds → Run b ds rest → begins_with is_ascii_digit rest ≡ true → IsMalformed cs
  no_digit : {j : LitKind} {c : ℕ} {cs ds es : Text} → IsDecimal cs ds → IsFraction j ds (c ∷ es) → is_e c ≡ true → starts is_ascii_digit (after_sign es) ≡ false → IsMalformed cs

-- ---- comments

-- `/*` or `*/`
abbrev pub is_pair : Text → Bool
is_pair [] = false
is_pair (c ∷ cs) = (c == 47 && begins_with (λ d. d == 42) cs) || (c == 42 && begins_with (λ d. d == 47) cs)

-- up to the end of a comment that is in as many others
pub data IsComment : ℕ → Text → Text → Type 0 where
  ends : {rest : Text} → IsComment zero (42 ∷ 47 ∷ rest) rest
  inner_begins : {n : ℕ} {cs rest : Text} → IsComment (suc n) cs rest → IsComment n (47 ∷ 42 ∷ cs) rest
  inner_ends : {n : ℕ} {cs rest : Text} → IsComment n cs rest → IsComment (suc n) (42 ∷ 47 ∷ cs) rest
  goes_on : {n c : ℕ} {cs rest : Text} → is_pair (c ∷ cs) ≡ false → IsComment n cs rest → IsComment n (c ∷ cs) rest
