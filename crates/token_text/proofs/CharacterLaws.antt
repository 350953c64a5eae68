-- Tests of characters.
use Rattle.std.proofs.Common.{◌≡◌, ℕ, ◌<◌, Bool, true, false, cond, not, ◌&&◌, ◌||◌, ◌==◌, nat_lt, List, [], ◌∷◌, codes, refl, sym, ap, ◌∙◌, subst, arith, lit<}
use Rattle.std.proofs.lemmas.Bool.Decides.{nat_tests}
use Rattle.std.specs.Char.{is_ascii_alphabetic, is_ascii_alphanumeric, is_ascii_digit}
use Rattle.std.specs.List.{list_any}
use Rattle.unicode_ident.proofs.IdentLemmas.{is_xid_start-ascii, is_xid_continue-ascii}
use Rattle.token_text.specs.Characters.{is_blank, is_mark, stands_alone, starts_word, is_letter, is_start, is_continue}

pub same_number : (d c : ℕ) → (d == c) ≡ true → d ≡ c
same_number d c h = grind (arith, nat_tests)

-- by a test, which way it goes
pub which : {A : Type 0} {x y : A} (P : A → Type 0) (b : Bool) → (b ≡ true → P x) → (b ≡ false → P y) → P (cond b x y)
which P true f g = f refl
which P false f g = g refl

pub left : (a b : Bool) → (a && b) ≡ true → a ≡ true
left true b h = refl
left false b h = cc

pub right : (a b : Bool) → (a && b) ≡ true → b ≡ true
right true b h = h
right false b h = cc

abbrev pub all_pass : (ℕ → Bool) → List ℕ → Bool
all_pass q [] = true
all_pass q (d ∷ ds) = q d && all_pass q ds

-- what every listed character passes, this one does
pub listed : (q : ℕ → Bool) (c : ℕ) (ds : List ℕ) → list_any (λ d. d == c) ds ≡ true → all_pass q ds ≡ true → q c ≡ true
listed q c [] h k = cc
listed q c (d ∷ ds) h k =
    let P : Bool → Type 0 = λ b. (b || list_any (λ e. e == c) ds) ≡ true → (d == c) ≡ b → q c ≡ true in
    let Q : Bool → Type 0 = λ b. (b && all_pass q ds) ≡ true → q d ≡ b → q c ≡ true in
    let f : P (d == c) = elim (d == c) as P [
      | true ↦ λ _ e. (let g : Q (q d) = elim (q d) as Q [ true ↦ λ _ t. subst (λ x. q x ≡ true) (same_number d c e) t | false ↦ λ bad _. cc ] in g k refl)
      | false ↦ λ rest _. (let g : Q (q d) = elim (q d) as Q [ true ↦ λ more _. listed q c ds rest more | false ↦ λ bad _. cc ] in g k refl)
    ] in
    f h refl

pub off : (b : Bool) → not b ≡ true → b ≡ false
off true h = cc
off false h = refl

-- of ASCII
pub letter_ascii : (c : ℕ) → c < 128 → is_ascii_alphabetic c ≡ is_letter c
unfolding is_letter
letter_ascii c h = sym (is_xid_start-ascii c h)

pub continue_ascii : (c : ℕ) → c < 128 → (is_ascii_alphanumeric c || (c == 95)) ≡ is_continue c
unfolding is_continue
continue_ascii c h = sym (is_xid_continue-ascii c h)

-- neither a letter nor `_`
abbrev pub no_letter : ℕ → Bool
no_letter c = nat_lt c 128 && not (is_ascii_alphabetic c || c == 95)

pub no_start : (c : ℕ) → no_letter c ≡ true → is_start c ≡ false
unfolding is_start
no_start c h =
    let small : c < 128 = grind (arith, nat_tests) in
    rw (is_xid_start-ascii c small) (off _ (grind (arith, nat_tests)))

-- what passes a test is no character that fails it
pub clash : (q : ℕ → Bool) (c d : ℕ) → q c ≡ true → q d ≡ false → (c == d) ≡ false
clash q c d h k =
    let P : Bool → Type 0 = λ b. (c == d) ≡ b → b ≡ false in
    let f : P (c == d) = elim (c == d) as P [
      | true ↦ λ e. (let bad = sym h ∙ ap q (same_number c d e) ∙ k in cc)
      | false ↦ λ _. refl
    ] in f refl

-- no longer piece begins with such a character
abbrev pub lone : ℕ → Bool
lone c = (no_letter c && not (list_any (λ d. d == c) (codes "\"'/\\"))) && not (is_ascii_digit c)

pub lone_starts : (c : ℕ) → lone c ≡ true → is_start c ≡ false
lone_starts c h = no_start c (left _ _ (left _ _ h))

pub lone_digit : (c : ℕ) → lone c ≡ true → is_ascii_digit c ≡ false
lone_digit c h = off (is_ascii_digit c) (right (no_letter c && not (list_any (λ d. d == c) (codes "\"'/\\"))) _ h)

pub blank_lone : (c : ℕ) → is_blank c ≡ true → lone c ≡ true
blank_lone c h = listed lone c (codes " \t\n\r") h refl

pub alone_lone : (c : ℕ) → stands_alone c ≡ true → lone c ≡ true
alone_lone c h = listed lone c (codes "!#$%&()*+,-.:;<=>?@[]^{|}~") h refl

or_right : (a b : Bool) → (a || b) ≡ true → a ≡ false → b ≡ true
or_right true b h e = cc
or_right false b h e = h

pub mark_lone : (c : ℕ) → is_mark c ≡ true → (c == 47) ≡ false → lone c ≡ true
mark_lone c h e = or_right (c == 47) (lone c) (listed (λ d. d == 47 || lone d) c (codes "!#$%&*+,-./:;<=>?@^~|") h refl) e

-- what begins a word is none of the others
pub start_clash : (c d : ℕ) → is_start c ≡ true → no_letter d ≡ true → (c == d) ≡ false
start_clash c d h k = clash is_start c d h (no_start d k)

digit_no_letter : (c : ℕ) → is_ascii_digit c ≡ true → no_letter c ≡ true
digit_no_letter c h = grind (arith, nat_tests)

pub no_digit_starts : (c : ℕ) → is_start c ≡ true → is_ascii_digit c ≡ false
no_digit_starts c h =
    let P : Bool → Type 0 = λ b. is_ascii_digit c ≡ b → b ≡ false in
    let f : P (is_ascii_digit c) = elim (is_ascii_digit c) as P [
      | true ↦ λ e. (let bad = sym h ∙ no_start c (digit_no_letter c e) in cc)
      | false ↦ λ _. refl
    ] in f refl

pub word_start : (c : ℕ) → starts_word c ≡ true → is_start c ≡ true
unfolding is_start
word_start c h =
    let e : (is_ascii_alphabetic c || c == 95) ≡ true = left _ _ (left _ _ (left _ _ h)) in
    let small : c < 128 = grind (arith, nat_tests) in
    rw (is_xid_start-ascii c small) e

pub start_r : is_start 114 ≡ true
unfolding is_start
start_r = rw (is_xid_start-ascii 114 (lit< tt)) refl
