-- Numbers: what is found is so by the rules, and only that.
use Rattle.std.proofs.Common.{◌≡◌, ℕ, Bool, true, false, cond, ◌&&◌, ◌||◌, ◌==◌, [], ◌∷◌, Option, Some, None, Ok, Err, refl, sym, ap, ◌∙◌, subst}
use Rattle.std.specs.Char.{is_ascii_digit, is_ascii_hexdigit}
use Rattle.token_core.specs.declared.error.ErrorKind.TheVariants.{MalformedNumber}
use Rattle.token_core.specs.declared.tree.LitKind.{LitKind}
use Rattle.token_core.specs.declared.tree.LitKind.TheVariants.{Int, Float}
use Rattle.token_text.specs.Pieces.{after_sign, is_e}
use Rattle.token_text.specs.declared.class.Class.{Class}
use Rattle.token_text.specs.declared.class.Class.TheVariants.{Binary, Octal, Decimal, Hexadecimal}
use Rattle.token_text.specs.Characters.{Text, begins_with, is_start, after_run, starts}
use Rattle.token_text.specs.Front.{base, Numeral, based, exponent, unless_more, point, fraction_by, fraction, decimal, based_or_decimal, number}
use Rattle.token_text.specs.Literals as rules
use Rattle.token_text.specs.Literals.{Run, IsBase, hexadecimal, octal, binary, HasBase, IsDecimal, digits, IsFraction, whole, begins_fraction, IsExponent, absent, IsNumber, of_base, IsMalformed, outside, no_digit}
use Rattle.token_text.proofs.CharacterLaws.{same_number, which, left, right}
use Rattle.token_text.proofs.LiteralLaws.{first_is, second_is}
use Rattle.token_text.proofs.RunLaws.{run_is, run_only}

-- ---- bases

abbrev BaseSaid : Text → Option (Class × Text) → Type 0
BaseSaid cs None = Unit {0}
BaseSaid cs (Some x) = IsBase x.0 cs x.1

base_said : (cs : Text) → BaseSaid (48 ∷ cs) (base cs)
unfolding base
base_said [] = tt
base_said (c ∷ cs) =
    let all = 48 ∷ c ∷ cs in
    which (BaseSaid all) (c == 120 && starts is_ascii_hexdigit cs)
    (λ e. second_is (λ t. IsBase Hexadecimal t cs) 48 c 120 cs (left _ _ e) (hexadecimal (right (c == 120) _ e))) (λ _.
    which (BaseSaid all) (c == 111 && starts is_ascii_digit cs)
    (λ e. second_is (λ t. IsBase Octal t cs) 48 c 111 cs (left _ _ e) (octal (right (c == 111) _ e))) (λ _.
    which (BaseSaid all) (c == 98 && starts is_ascii_digit cs)
    (λ e. second_is (λ t. IsBase Binary t cs) 48 c 98 cs (left _ _ e) (binary (right (c == 98) _ e))) (λ _. tt)))

-- the text after its first digit, and the base that begins with that
abbrev after_zero : ℕ → Text → Option (Class × Text)
after_zero c cs = cond (c == 48) (base cs) None

number_by : (c : ℕ) (cs : Text) → number c cs ≡ based_or_decimal cs (after_zero c cs)
unfolding number
number_by c cs =
    let P : Bool → Type 0 = λ b. cond b (based_or_decimal cs (base cs)) (decimal cs) ≡ based_or_decimal cs (cond b (base cs) None) in
    elim (c == 48) as P [ true ↦ refl | false ↦ refl ]

after_zero_said : (c : ℕ) (cs : Text) → BaseSaid (c ∷ cs) (after_zero c cs)
after_zero_said c cs = which (BaseSaid (c ∷ cs)) (c == 48) (λ e. first_is (λ t. BaseSaid t (base cs)) c 48 cs e (base_said cs)) (λ _. tt)

base_found : {b : Class} {cs ds : Text} → IsBase b cs ds → (es : Text) × (cs ≡ 48 ∷ es) × (base es ≡ Some (b, ds))
unfolding base
base_found (hexadecimal {cs = cs} h) = (120 ∷ cs, refl, rw h refl)
base_found (octal {cs = cs} h) = (111 ∷ cs, refl, rw h refl)
base_found (binary {cs = cs} h) = (98 ∷ cs, refl, rw h refl)

no_base_by : (c : ℕ) (cs : Text) (o : Option (Class × Text)) → BaseSaid (c ∷ cs) o → ¬ HasBase (c ∷ cs) → o ≡ None
no_base_by c cs None s n = refl
no_base_by c cs (Some x) s n = absurd (n (x.0, x.1, s))

no_base : (c : ℕ) (cs : Text) → ¬ HasBase (c ∷ cs) → after_zero c cs ≡ None
no_base c cs n = no_base_by c cs (after_zero c cs) (after_zero_said c cs) n

-- where no base was found, none begins
none_begins : (c : ℕ) (cs : Text) → after_zero c cs ≡ None → ¬ HasBase (c ∷ cs)
none_begins c cs h x =
    let f = base_found x.2 in
    let first : c ≡ 48 = cc in
    let others : cs ≡ f.0 = cc in
    let e : after_zero c cs ≡ Some (x.0, x.1) = rw (first, others) f.2 in
    let bad = sym h ∙ e in cc

-- ---- fractions and exponents

abbrev pub NumberSaid : Text → Numeral → Type 0
NumberSaid cs (Ok x) = IsNumber x.0 cs x.1
NumberSaid cs (Err k) = (k ≡ MalformedNumber) × IsMalformed cs

exponent_said : (j : LitKind) (cs ds es : Text) → IsDecimal cs ds → IsFraction j ds es → NumberSaid cs (exponent j es)
unfolding exponent
exponent_said j cs ds [] d f = rules.decimal d f (absent refl)
exponent_said j cs ds (c ∷ es) d f =
    which (NumberSaid cs) (is_e c) (λ e.
    which (NumberSaid cs) (starts is_ascii_digit (after_sign es))
    (λ h. rules.decimal d f (rules.exponent e h (run_is Decimal (after_sign es))))
    (λ h. (refl, no_digit d f e h)))
    (λ e. rules.decimal d f (absent e))

-- the way of a point
abbrev PointSaid : Text → Option Text → Type 0
PointSaid cs None = begins_fraction cs ≡ false
PointSaid cs (Some rest) = (cs ≡ 46 ∷ rest) × (begins_fraction cs ≡ true)

point_said : (cs : Text) → PointSaid cs (point cs)
unfolding point
point_said [] = refl
point_said (c ∷ cs) =
    let more = begins_with (λ d. d == 46 || is_start d) cs in
    let P : Bool → Type 0 = λ b. (c == 46) ≡ b → PointSaid (c ∷ cs) (unless_more (cond b (Some cs) None)) in
    let Q : Bool → Type 0 = λ b. more ≡ b → (c == 46) ≡ true → PointSaid (c ∷ cs) (cond b None (Some cs)) in
    let g : Q more = elim more as Q [
      | true ↦ λ h e. rw (e, h) refl
      | false ↦ λ h e. (ap (λ d. d ∷ cs) (same_number c 46 e), rw (e, h) refl)
    ] in
    let f : P (c == 46) = elim (c == 46) as P [ true ↦ λ e. g refl e | false ↦ λ e. rw e refl ] in f refl

fraction_found : (cs ds rest : Text) → (ds ≡ 46 ∷ rest) × (begins_fraction ds ≡ true) → IsFraction Float ds (after_run Decimal rest)
fraction_found cs ds rest h =
    subst (λ t. IsFraction Float t (after_run Decimal rest)) (sym h.0) (rules.fraction (ap begins_fraction (sym h.0) ∙ h.1) (run_is Decimal rest))

fraction_said_by : (cs ds : Text) (o : Option Text) → IsDecimal cs ds → PointSaid ds o → NumberSaid cs (fraction_by ds o)
fraction_said_by cs ds None d p = exponent_said Int cs ds ds d (whole p)
fraction_said_by cs ds (Some rest) d p = exponent_said Float cs ds (after_run Decimal rest) d (fraction_found cs ds rest p)

decimal_said : (cs ds : Text) → IsDecimal cs ds → NumberSaid cs (fraction ds)
unfolding fraction
decimal_said cs ds d = fraction_said_by cs ds (point ds) d (point_said ds)

based_said : (b : Class) (cs ds rest : Text) → IsBase b cs ds → Run b ds rest → NumberSaid cs (based rest)
unfolding based
based_said b cs ds rest h r =
    which (NumberSaid cs) (begins_with is_ascii_digit rest) (λ e. (refl, outside h r e)) (λ e. of_base h r e)

number_said_by : (c : ℕ) (cs : Text) (o : Option (Class × Text)) → is_ascii_digit c ≡ true → after_zero c cs ≡ o → BaseSaid (c ∷ cs) o
    → NumberSaid (c ∷ cs) (based_or_decimal cs o)
number_said_by c cs None h e s = decimal_said (c ∷ cs) (after_run Decimal cs) (digits h (none_begins c cs e) (run_is Decimal cs))
number_said_by c cs (Some x) h e s = based_said x.0 (c ∷ cs) x.1 (after_run x.0 x.1) s (run_is x.0 x.1)

pub number_said : (c : ℕ) (cs : Text) → is_ascii_digit c ≡ true → NumberSaid (c ∷ cs) (number c cs)
number_said c cs h = subst (NumberSaid (c ∷ cs)) (sym (number_by c cs)) (number_said_by c cs (after_zero c cs) h refl (after_zero_said c cs))

-- ---- only that

no_exponent : (j : LitKind) (cs : Text) → begins_with is_e cs ≡ false → exponent j cs ≡ Ok (j, cs)
unfolding exponent
no_exponent j [] h = refl
no_exponent j (c ∷ cs) h = rw h refl

exponent_only : {j k : LitKind} {cs rest : Text} → IsExponent j k cs rest → exponent j cs ≡ Ok (k, rest)
unfolding exponent
exponent_only {j} {k} {cs} (absent h) = no_exponent j cs h
exponent_only (rules.exponent e h r) = rw (e, h, run_only r) refl

exponent_bad : (j : LitKind) (c : ℕ) (es : Text) → is_e c ≡ true → starts is_ascii_digit (after_sign es) ≡ false → exponent j (c ∷ es) ≡ Err MalformedNumber
unfolding exponent
exponent_bad j c es e h = rw (e, h) refl

fraction_none : (cs : Text) (o : Option Text) → PointSaid cs o → begins_fraction cs ≡ false → o ≡ None
fraction_none cs None p h = refl
fraction_none cs (Some rest) p h = let bad = sym h ∙ p.1 in cc

fraction_some : (cs : Text) (o : Option Text) → PointSaid (46 ∷ cs) o → begins_fraction (46 ∷ cs) ≡ true → o ≡ Some cs
fraction_some cs None p h = let bad = sym p ∙ h in cc
fraction_some cs (Some rest) p h = let e = p.0 in cc

fraction_only : {j : LitKind} {cs rest : Text} → IsFraction j cs rest → fraction cs ≡ exponent j rest
unfolding fraction
fraction_only {j} {cs} (whole h) = ap (fraction_by cs) (fraction_none cs (point cs) (point_said cs) h)
fraction_only (rules.fraction {cs = cs} h r) =
    ap (fraction_by (46 ∷ cs)) (fraction_some cs (point (46 ∷ cs)) (point_said (46 ∷ cs)) h) ∙ ap (exponent Float) (run_only r)

-- a text after its first character
abbrev pub number_of : Text → Numeral
number_of [] = Ok (Int, [])
number_of (c ∷ cs) = number c cs

decimal_only : {cs ds : Text} → IsDecimal cs ds → number_of cs ≡ fraction ds
decimal_only (digits {c = c} {cs = cs} h n r) = number_by c cs ∙ ap (based_or_decimal cs) (no_base c cs n) ∙ ap fraction (run_only r)

base_only : {b : Class} {cs ds : Text} → IsBase b cs ds → number_of cs ≡ based (after_run b ds)
unfolding number base
base_only (hexadecimal h) = rw h refl
base_only (octal h) = rw h refl
base_only (binary h) = rw h refl

based_fine : (rest : Text) → begins_with is_ascii_digit rest ≡ false → based rest ≡ Ok (Int, rest)
unfolding based
based_fine rest h = rw h refl

based_bad : (rest : Text) → begins_with is_ascii_digit rest ≡ true → based rest ≡ Err MalformedNumber
unfolding based
based_bad rest h = rw h refl

pub number_only_of : {k : LitKind} {cs rest : Text} → IsNumber k cs rest → number_of cs ≡ Ok (k, rest)
number_only_of (of_base {rest = rest} b r h) = base_only b ∙ ap based (run_only r) ∙ based_fine rest h
number_only_of (rules.decimal d f e) = decimal_only d ∙ fraction_only f ∙ exponent_only e

pub malformed_of : {cs : Text} → IsMalformed cs → number_of cs ≡ Err MalformedNumber
malformed_of (outside {rest = rest} b r h) = base_only b ∙ ap based (run_only r) ∙ based_bad rest h
malformed_of (no_digit {j = j} {c = c} {es = es} d f e h) = decimal_only d ∙ fraction_only f ∙ exponent_bad j c es e h

-- a number begins with a digit
abbrev pub Digit : Text → Type 0
Digit cs = (c : ℕ) × (ds : Text) × (cs ≡ c ∷ ds) × (is_ascii_digit c ≡ true)

decimal_digit : {cs ds : Text} → IsDecimal cs ds → Digit cs
decimal_digit (digits {c = c} {cs = cs} h n r) = (c, cs, refl, h)

base_digit : {b : Class} {cs ds : Text} → IsBase b cs ds → Digit cs
base_digit (hexadecimal {cs = cs} h) = (48, 120 ∷ cs, refl, refl)
base_digit (octal {cs = cs} h) = (48, 111 ∷ cs, refl, refl)
base_digit (binary {cs = cs} h) = (48, 98 ∷ cs, refl, refl)

pub number_digit : {k : LitKind} {cs rest : Text} → IsNumber k cs rest → Digit cs
number_digit (of_base b r h) = base_digit b
number_digit (rules.decimal d f e) = decimal_digit d

pub malformed_digit : {cs : Text} → IsMalformed cs → Digit cs
malformed_digit (outside b r h) = base_digit b
malformed_digit (no_digit d f e h) = decimal_digit d
