-- Which way the functions on the front of a string go, and the numbers of characters.
use Rattle.std.proofs.Common.{◌≡◌, ℕ, suc, ◌<◌, ◌≤◌, ◌+◌, ◌-◌, ◌*◌, ◌^◌, List, [], ◌∷◌, ◌++◌, Bool, true, false, nat_lt, nat_le, ◌&&◌, Option, Some, None, MatchOption, IfSome, SomeIff, length, drop, replicate, chars, refl, sym, ap, ◌∙◌, arith, append_assoc, add-one}
use Rattle.std.proofs.lemmas.Bool.Decides.{nat_tests}
use Rattle.std.proofs.lemmas.Str.{chars-append}
use Rattle.std.proofs.Math.Nat.{pow-le-pow_right, pow-suc}
use Rattle.std.specs.Borrow.{Bor}
use Rattle.std.specs.Char.{digit_value, is_ascii_hexdigit, IsScalar, InScalarRange, OutOfScalarRange}
use Rattle.std.specs.Str.{IsUtf8}
use Rattle.token_core.specs.Toks.{Bytes}
use Rattle.token_text.specs.declared.class.Class.TheVariants.{Hexadecimal}
use Rattle.token_text.specs.declared.piece.Closing.{Closing}
use Rattle.token_text.specs.Characters.{Text, upto, begins_with, after_run}
use Rattle.token_text.specs.Front.{Past, Finds, FindsBy, after_char}
use Rattle.token_text.specs.Pieces.{has_hashes}
use Rattle.token_text.specs.Strings.{of_two, digits, number, is_scalar, is_number, numbered, braced, broken, escaped, hashes_of, line_end, backslash, unit, after_closing}
use Rattle.token_text.proofs.Pasts.{past_trans, past_le}
use Rattle.token_text.proofs.Words.{upto_front}

-- what was found in an end of the text was found in the text
pub finds_by_past : {A : Type 0} (o p : Option (A × Text)) (text rest : List ℕ) (r : Option (A × Bor Bytes)) → Past text rest → p ≡ o → FindsBy o rest r → FindsBy p text r
finds_by_past o p text rest None past e h = e ∙ h
finds_by_past o p text rest (Some x) past e h = (e ∙ h.0, past_trans past h.1)

pub shorter : {A : Type 0} (o : Option (A × Text)) (text rest : List ℕ) (r : Option (A × Bor Bytes)) → length rest < length text → FindsBy o rest r
    → IfSome r (λ x. length x.1.now < length text)
shorter o text rest None h f = tt
shorter o text rest (Some x) h f = omega (arith, past_le f.1)

-- ---- tests of digits

is_below : (a b : ℕ) → a < b → nat_lt a b ≡ true
is_below a b h = grind (arith, nat_tests)

is_not_below : (a b : ℕ) → ¬ (a < b) → nat_lt a b ≡ false
is_not_below a b h = grind (arith, nat_tests)

pub two_high : (a b : ℕ) → ¬ (digit_value a < 8) → of_two a b ≡ None
unfolding of_two
two_high a b h = rw (is_not_below (digit_value a) 8 h) refl

pub two_low : (a b : ℕ) → digit_value a < 8 → ¬ (digit_value b < 16) → of_two a b ≡ None
unfolding of_two
two_low a b h k = rw (is_below (digit_value a) 8 h, is_not_below (digit_value b) 16 k) refl

pub two_both : (a b : ℕ) → digit_value a < 8 → digit_value b < 16 → of_two a b ≡ Some (digit_value a * 16 + digit_value b)
unfolding of_two
two_both a b h k = rw (is_below (digit_value a) 8 h, is_below (digit_value b) 16 k) refl

pub ruleset two = (two_high, two_low, two_both)

-- ---- numbers, digit by digit

pub digits_none : (cs : Text) → cs ≡ [] → digits cs ≡ []
digits_none cs e = rw e refl

pub digits_some : (cs ds : Text) (c : ℕ) → cs ≡ c ∷ ds → digit_value c < 16 → digits cs ≡ c ∷ digits ds
digits_some cs ds c e h = rw (e, is_below (digit_value c) 16 h) refl

pub digits_over : (cs ds : Text) (c : ℕ) → cs ≡ c ∷ ds → ¬ (digit_value c < 16) → digits cs ≡ digits ds
digits_over cs ds c e h = rw (e, is_not_below (digit_value c) 16 h) refl

-- a number of fewer than six digits
pub is_small : (n k : ℕ) → n < 16 ^ k → k ≤ 5 → n < 1048576
is_small n k h le =
    let some : 0 < 16 = omega arith in
    let most : 16 ^ k ≤ 16 ^ 5 = pow-le-pow_right some le in
    omega (arith, most)

pub one_digit_more : (n k d : ℕ) → n < 16 ^ k → d < 16 → n * 16 + d < 16 ^ (k + 1)
one_digit_more n k d h small =
    let e : 16 ^ (k + 1) ≡ 16 ^ k * 16 = ap (λ m. 16 ^ m) (add-one k) ∙ pow-suc 16 k in
    rw e (omega arith)

pub ruleset digit = (digits_none, digits_some, digits_over, one_digit_more)

pub not_begun : (cs : Text) → cs ≡ [] → is_number cs ≡ false
unfolding is_number
not_begun cs e = rw e refl

pub no_first_digit : (cs ds : Text) (c : ℕ) → cs ≡ c ∷ ds → is_ascii_hexdigit c ≡ false → is_number cs ≡ false
unfolding is_number
no_first_digit cs ds c e h = rw (e, h) refl

-- the parts of the test, by their values
both_false : (a b c : Bool) → b ≡ false → ((a && b) && c) ≡ false
both_false true b c h = rw h refl
both_false false b c h = refl

pub too_many : (cs : Text) → 6 < length (digits cs) → is_number cs ≡ false
unfolding is_number
too_many cs h =
    let far : nat_le (length (digits cs)) 6 ≡ false = grind (arith, nat_tests) in
    both_false _ _ _ far

pub ruleset refused_number = (not_begun, no_first_digit, too_many)

in_range : (n : ℕ) → InScalarRange n → is_scalar n ≡ true
in_range n h = grind (arith, nat_tests)

out_of_range : (n : ℕ) → OutOfScalarRange n → is_scalar n ≡ false
out_of_range n h = grind (arith, nat_tests)

module _ (cs ds : Text) (c n : ℕ) (e : cs ≡ c ∷ ds) (first : is_ascii_hexdigit c ≡ true) (few : length (digits cs) ≤ 6) (is : n ≡ number 0 (digits cs)) where
  by_range : (b : Bool) → is_scalar n ≡ b → is_number cs ≡ b
  unfolding is_number
  by_range b h =
      let le : nat_le (length (digits cs)) 6 ≡ true = grind (arith, nat_tests) in
      let begins : begins_with is_ascii_hexdigit cs ≡ true = rw (e, first) refl in
      rw (begins, le, ← is, h) refl

  pub number_made : (r : Option ℕ) → MatchOption r (OutOfScalarRange n) (λ _. InScalarRange n) → SomeIff r (IsScalar n) n
      → MatchOption r (is_number cs ≡ false) (λ x. (is_number cs ≡ true) × (x ≡ number 0 (digits cs)))
  number_made None h k = by_range false (out_of_range n h)
  number_made (Some x) h k = (by_range true (in_range n h), k.1 ∙ is)

-- the text before an end of it, by its characters
upto_chars : (text w rest : List ℕ) → IsUtf8 w → text ≡ w ++ rest → upto (chars text) (chars rest) ≡ chars w
upto_chars text w rest u e = ap (λ t. upto t (chars rest)) (ap chars e ∙ chars-append w rest u) ∙ upto_front (chars w) (chars rest)

module _ (text w end : List ℕ) (u : IsUtf8 w) (e : text ≡ w ++ end) (run : chars end ≡ after_run Hexadecimal (chars text)) where
  pub braced_is : (o : Option Text) → after_char 125 (chars end) ≡ o → braced (chars text) ≡ numbered (chars w) o
  unfolding braced
  braced_is o h =
      let same : upto (chars text) (after_run Hexadecimal (chars text)) ≡ chars w = ap (upto (chars text)) (sym run) ∙ upto_chars text w end u e in
      let closed : after_char 125 (after_run Hexadecimal (chars text)) ≡ o = ap (after_char 125) (sym run) ∙ h in
      rw (same, closed) refl

-- ---- escapes

pub escaped_break : (cs ds : Text) (c : ℕ) → cs ≡ c ∷ ds → c ≡ 10 → escaped cs ≡ broken (after_char 10 cs)
unfolding escaped
escaped_break cs ds c e h = rw (e, h) refl

pub escaped_return : (cs ds : Text) (c : ℕ) → cs ≡ c ∷ ds → c ≡ 13 → escaped cs ≡ broken (after_char 10 ds)
unfolding escaped
escaped_return cs ds c e h = rw (e, h) refl

pub unit_return : (how : Closing) (cs ds : Text) (c : ℕ) → cs ≡ c ∷ ds → c ≡ 13 → unit how cs ≡ line_end (after_char 10 ds)
unfolding unit
unit_return how cs ds c e h = rw (e, h) refl

pub unit_backslash : (how : Closing) (cs ds : Text) (c : ℕ) → cs ≡ c ∷ ds → c ≡ 92 → unit how cs ≡ backslash how ds
unfolding unit
unit_backslash how cs ds c e h = rw (e, h) refl

pub closing_found : (how : Closing) (n : ℕ) (text rest : List ℕ) (r : Option (Bor Bytes)) → n ≡ hashes_of how → after_char 34 (chars text) ≡ Some (chars rest) → Past text rest
    → MatchOption r (has_hashes n (chars rest) ≡ false) (λ x. (has_hashes n (chars rest) ≡ true) × (chars x.now ≡ drop n (chars rest)) × Past rest x.now)
    → Finds (after_closing how (chars text)) text r
unfolding after_closing
closing_found how n text rest None is e past h = rw (e, ← is, h) refl
closing_found how n text rest (Some x) is e past h = (rw (e, ← is, h.0) (ap (λ t. Some t) (sym h.1)), past_trans past h.2)

pub one_more : {A : Type 0} (xs : List A) (x : A) (n : ℕ) → 0 < n → (xs ++ x ∷ []) ++ replicate (n - 1) x ≡ xs ++ replicate n x
one_more xs x n h =
    let e : n ≡ suc (n - 1) = omega arith in
    append_assoc xs (x ∷ []) (replicate (n - 1) x) ∙ ap (λ m. xs ++ replicate m x) (sym e)
