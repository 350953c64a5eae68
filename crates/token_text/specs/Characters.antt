-- Texts by their characters, and what the characters are to a text of Rust.
use Rattle.std.specs.Prelude.{ℕ, Bool, true, false, not, ◌&&◌, ◌||◌, ◌-◌, ◌==◌, if◌then◌else◌, List, [], ◌∷◌, length, take, codes, encode_utf8_all}
use Rattle.std.specs.Char.{is_ascii_alphabetic, is_ascii_digit, is_ascii_hexdigit}
use Rattle.std.specs.List.{list_any}
use Rattle.unicode_ident.specs.Ident.{is_xid_start, is_xid_continue}
use Rattle.token_text.specs.declared.class.Class.{Class}
use Rattle.token_text.specs.declared.class.Class.TheVariants.{Continue, Binary, Octal, Decimal, Hexadecimal, Underscore, NoQuote, NoLineFeed, Blank}

-- characters
abbrev pub Text : Type 0
Text = List ℕ

-- how many bytes characters take
abbrev pub size : Text → ℕ
size cs = length (encode_utf8_all cs)

-- the characters before `rest`, which is an end of cs
abbrev pub upto : Text → Text → Text
upto cs rest = take (length cs - length rest) cs

abbrev pub begins_with : (ℕ → Bool) → Text → Bool
begins_with p [] = false
begins_with p (c ∷ cs) = p c

abbrev pub is_nothing : Text → Bool
is_nothing [] = true
is_nothing (c ∷ cs) = false

abbrev pub is_blank : ℕ → Bool
is_blank c = list_any (λ d. d == c) (codes " \t\n\r")

-- a mark by itself
abbrev pub is_mark : ℕ → Bool
is_mark c = list_any (λ d. d == c) (codes "!#$%&*+,-./:;<=>?@^~|")

-- a mark but `/`, or a bracket: no longer piece begins with it
abbrev pub stands_alone : ℕ → Bool
stands_alone c = list_any (λ d. d == c) (codes "!#$%&()*+,-.:;<=>?@[]^{|}~")

-- a word begins with it, and nothing else does
abbrev pub starts_word : ℕ → Bool
starts_word c = (((is_ascii_alphabetic c || c == 95) && not (c == 98)) && not (c == 99)) && not (c == 114)

-- a suffix may begin so
unfoldable pub is_letter : ℕ → Bool
is_letter = is_xid_start

-- a word may begin so
unfoldable pub is_start : ℕ → Bool
is_start c = is_xid_start c || c == 95

-- a word may go on so
unfoldable pub is_continue : ℕ → Bool
is_continue = is_xid_continue

-- the characters that stand together: those of a word, digits of a base with `_` among them, what goes on up to a character, and blanks
unfoldable pub passes : Class → ℕ → Bool
passes Continue c = is_continue c
passes Binary c = (c == 48 || c == 49) || c == 95
passes Octal c = list_any (λ d. d == c) (codes "01234567_")
passes Decimal c = is_ascii_digit c || c == 95
passes Hexadecimal c = is_ascii_hexdigit c || c == 95
passes Underscore c = c == 95
passes NoQuote c = not (c == 39)
passes NoLineFeed c = not (c == 10)
passes Blank c = is_blank c

-- what follows the longest front of such characters
abbrev pub after_run : Class → Text → Text
after_run p [] = []
after_run p (c ∷ cs) = if passes p c then after_run p cs else c ∷ cs

-- after any `_` such a character stands
abbrev pub starts : (ℕ → Bool) → Text → Bool
starts p cs = begins_with p (after_run Underscore cs)
