-- The tokens that a stream may be tested for, by their numbers, and how refusals name them: the marks, the words, and the others.
use Rattle.std.specs.Prelude.{ℕ, ◌+◌, ◌-◌, List, [], ◌∷◌, get_or, codes, if◌then◌else◌, nat_lt}
use Rattle.token_core.specs.Toks.{Bytes}
use Rattle.token_core.specs.Keywords.{word_count}
use Rattle.token_core.specs.Marks.{mark_count, chars_of, text_of, quoted}

abbrev pub other_names : List Bytes
other_names =
    codes "identifier"
    ∷ codes "lifetime"
    ∷ codes "literal"
    ∷ codes "string literal"
    ∷ codes "parentheses"
    ∷ codes "curly braces"
    ∷ codes "square brackets"
    ∷ codes "invisible group"
    ∷ []

abbrev pub first_other : ℕ
first_other = 81

abbrev pub ident_number : ℕ
ident_number = first_other

abbrev pub lifetime_number : ℕ
lifetime_number = first_other + 1

abbrev pub lit_number : ℕ
lit_number = first_other + 2

abbrev pub lit_str_number : ℕ
lit_str_number = first_other + 3

abbrev pub paren_number : ℕ
paren_number = first_other + 4

abbrev pub brace_number : ℕ
brace_number = first_other + 5

abbrev pub bracket_number : ℕ
bracket_number = first_other + 6

abbrev pub invisible_number : ℕ
invisible_number = first_other + 7

-- a number that names none is between back quotes too
abbrev pub name_of : ℕ → Bytes
name_of n =
    if nat_lt n mark_count then quoted (chars_of n) else (
    if nat_lt n first_other then quoted (text_of (n - mark_count)) else get_or other_names (n - first_other) (quoted []))

-- how many tokens there are; all that have no name count as the last
abbrev pub token_count : ℕ
token_count = 90

abbrev pub nameless : ℕ
nameless = 89

abbrev pub mark_number : ℕ → ℕ
mark_number n = if nat_lt n mark_count then n else nameless

abbrev pub word_number : ℕ → ℕ
word_number n = if nat_lt n word_count then mark_count + n else nameless
