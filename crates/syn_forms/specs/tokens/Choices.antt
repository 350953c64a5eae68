-- Choices of tokens: what a refusal names where none of them follows.
use Rattle.std.specs.Prelude.{ℕ, List, Err}
use Rattle.token_core.specs.Looks.{unmet}
use Rattle.token_core.specs.Reads.{Reader, forked}
use Rattle.token_core.specs.TokenNames.{mark_number, word_number, ident_number, lifetime_number, paren_number, bracket_number}

-- ---- tokens by their numbers

abbrev pub a_bang : ℕ
a_bang = mark_number 0

abbrev pub a_sep : ℕ
a_sep = mark_number 1

abbrev pub a_lt : ℕ
a_lt = mark_number 2

abbrev pub a_gt : ℕ
a_gt = mark_number 3

abbrev pub a_comma : ℕ
a_comma = mark_number 4

abbrev pub an_and : ℕ
an_and = mark_number 5

abbrev pub a_star : ℕ
a_star = mark_number 26

abbrev pub a_self_type : ℕ
a_self_type = word_number 0

abbrev pub a_self_value : ℕ
a_self_value = word_number 1

abbrev pub a_super : ℕ
a_super = word_number 2

abbrev pub a_crate : ℕ
a_crate = word_number 3

abbrev pub a_const : ℕ
a_const = word_number 6

abbrev pub a_dyn : ℕ
a_dyn = word_number 7

abbrev pub an_extern : ℕ
an_extern = word_number 8

abbrev pub a_fn : ℕ
a_fn = word_number 9

abbrev pub a_for : ℕ
a_for = word_number 10

abbrev pub an_impl : ℕ
an_impl = word_number 12

abbrev pub an_unsafe : ℕ
an_unsafe = word_number 16

abbrev pub an_underscore : ℕ
an_underscore = word_number 19

abbrev pub an_ident : ℕ
an_ident = ident_number

abbrev pub a_lifetime : ℕ
a_lifetime = lifetime_number

abbrev pub a_paren : ℕ
a_paren = paren_number

abbrev pub a_bracket : ℕ
a_bracket = bracket_number

-- ---- refusals

-- none of these follows
abbrev pub none_of : {A : Type 0} → List ℕ → Reader A
none_of ns = λ s. Err (unmet (record { input = forked s; missing = ns }))
