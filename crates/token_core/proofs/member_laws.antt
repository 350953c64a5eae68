-- The numbers that literals write, digit by digit.
use Rattle.std.specs.Char.{digit_value, is_digit}
use Rattle.std.specs.Prelude.{nat_le}
use Rattle.std.specs.Option.{unwrap_or}
use Rattle.std.proofs.Common.{◌≡◌, ℕ, zero, suc, ◌+◌, ◌*◌, ◌<◌, ◌≤◌, Bool, true, false, ◌==◌, ◌||◌, [], ◌∷◌, Option, Some, None, refl, ap, subst, if◌then◌else◌, arith}
use Rattle.std.proofs.lemmas.Bool.{leb-false, lt-leb}
use Rattle.token_core.specs.Toks.{Bytes}
use Rattle.token_core.specs.Members.{number_after, fit, fitting, put_digit}

fit_by : (n m : ℕ) (b : Bool) → nat_le n 4294967295 ≡ b → (if b then Some n else None) ≡ Some m → fit m ≡ Some m
fit_by n m true h e = let same : n ≡ m = cc in subst (λ z. fit z ≡ Some z) same (ap (λ (z : Bool). if z then Some n else None) h)
fit_by n m false h e = cc

pub fit-some : (n m : ℕ) → fit n ≡ Some m → fit m ≡ Some m
fit-some n m e = fit_by n m (nat_le n 4294967295) refl e

-- a number with one digit more fits
pub put-fits : (base n c m : ℕ) → put_digit base n c ≡ Some m → fitting (Some m) ≡ Some m
put-fits base n c m e = by_test (is_digit c base) e
  where
    by_test : (b : Bool) → (if b then fit (n * base + digit_value c) else None) ≡ Some m → fit m ≡ Some m
    by_test true e = fit-some (n * base + digit_value c) m e
    by_test false e = cc

large_by : (n : ℕ) (b : Bool) → nat_le n 4294967295 ≡ b → (if b then Some n else None) ≡ None → 4294967295 < n
large_by n true h e = cc
large_by n false h e = leb-false n 4294967295 h

large : (n : ℕ) → fit n ≡ None → 4294967295 < n
large n e = large_by n (nat_le n 4294967295) refl e

no_fit : (n : ℕ) → 4294967295 < n → fit n ≡ None
no_fit n h = ap (λ (z : Bool). if z then Some n else None) (lt-leb n 4294967295 h)

grows : (n base d : ℕ) → 1 ≤ base → n ≤ n * base + d
grows n zero d h = absurd (omega (arith, h))
grows n (suc b) d h = let k : n * suc b ≡ n * b + n = times n b in omega (arith, k)
  where
    times : (n b : ℕ) → n * suc b ≡ n * b + n
    times n b = grind arith

-- a number that is too large stays too large
too_large : (base n : ℕ) (cs : Bytes) → 1 ≤ base → fit n ≡ None → fitting (number_after base (Some n) cs) ≡ None
too_large base n [] h e = e
too_large base n (c ∷ cs) h e = by_test (c == 95) (is_digit c base) (too_large base n cs h e) (too_large base (n * base + digit_value c) cs h more)
  where
    more : fit (n * base + digit_value c) ≡ None
    more = let k = large n e in let g = grows n base (digit_value c) h in no_fit (n * base + digit_value c) (omega (arith, k, g))

    by_test : (u d : Bool) → fitting (number_after base (Some n) cs) ≡ None → fitting (number_after base (Some (n * base + digit_value c)) cs) ≡ None →
        fitting (if u || d then number_after base (if u then Some n else Some (n * base + digit_value c)) cs else None) ≡ None
    by_test true d x y = x
    by_test false true x y = y
    by_test false false x y = refl

-- where a digit can't be put, no number that fits is written
pub stuck : (base c : ℕ) (n : Option ℕ) (cs : Bytes) → 1 ≤ base → (c == 95) ≡ false → put_digit base (unwrap_or n 0) c ≡ None → fitting (number_after base n (c ∷ cs)) ≡ None
stuck base c n cs h u e = by_test (is_digit c base) (c == 95) u e
  where
    by_test : (d v : Bool) → v ≡ false → (if d then fit (unwrap_or n 0 * base + digit_value c) else None) ≡ None →
        fitting (if v || d then number_after base (if v then n else Some (unwrap_or n 0 * base + digit_value c)) cs else None) ≡ None
    by_test d true w e = cc
    by_test true false w e = too_large base (unwrap_or n 0 * base + digit_value c) cs h e
    by_test false false w e = refl

pub ruleset digits = (put-fits)
