-- The blank at the front of a text, by its first byte.
use Rattle.std.proofs.Common.{◌≡◌, ℕ, ◌<◌, Bool, true, false, cond, nat_lt, List, [], ◌∷◌, ◌++◌, codes, chars, get_or, drop, encode_utf8, encode_utf8_all, Some, None, refl, sym, ap, ◌∙◌, subst, arith}
use Rattle.std.specs.Prelude.{IsUtf8}
use Rattle.std.specs.List.{slice_get}
use Rattle.std.specs.Str.{IsCharBoundary}
use Rattle.std.proofs.lemmas.Bool.Decides.{nat_tests}
use Rattle.std.proofs.lemmas.Option.{slice_get_within, get_or_from_slice_get}
use Rattle.std.proofs.lemmas.Str.{IsCharBoundary-after_ascii, encode_ascii, chars_past_char, chars_from_encodes, chars-nil, byte_from_char}
use Rattle.token_text.specs.Characters.{is_blank}
use Rattle.token_text.specs.Front.{Past, after_blank}
use Rattle.token_text.proofs.CharacterLaws.{listed}
use Rattle.token_text.proofs.Pasts.{past_first}

-- a blank is one byte
small : (c : ℕ) → is_blank c ≡ true → c < 128
small c h = let t : nat_lt c 128 ≡ true = listed (λ d. nat_lt d 128) c (codes " \t\n\r") h refl in grind (arith, nat_tests)

first_is : (bs : List ℕ) (b : ℕ) → slice_get bs 0 ≡ Some b → bs ≡ b ∷ drop 1 bs
first_is [] b h = cc
first_is (a ∷ bs) b h = let e : a ≡ b = cc in ap (λ d. d ∷ bs) e

module _ (bs : List ℕ) (b : ℕ) (u : IsUtf8 bs) (h : slice_get bs 0 ≡ Some b) where
  byte : get_or bs 0 0 ≡ b
  byte = get_or_from_slice_get bs 0 b 0 h

  -- the text may be cut after it
  pub blank_cut : is_blank b ≡ true → IsCharBoundary bs 1
  blank_cut k = IsCharBoundary-after_ascii bs 0 u (slice_get_within bs 0 b h) (subst (λ d. d < 128) (sym byte) (small b k))

  pub blank_found : is_blank b ≡ true → (rest : List ℕ) → rest ≡ drop 1 bs → (after_blank (chars bs) ≡ Some (chars rest)) × Past bs rest
  blank_found k rest r =
      let e : bs ≡ encode_utf8 b ++ rest = first_is bs b h ∙ ap (λ t. b ∷ t) (sym r) ∙ ap (λ t. t ++ rest) (sym (encode_ascii b (small b k))) in
      let all : chars bs ≡ b ∷ chars rest = chars_past_char bs rest b u e in (rw (all, k) refl, past_first bs rest b all e)

  no_blank_of : (cs : List ℕ) → encode_utf8_all cs ≡ bs → is_blank b ≡ false → after_blank cs ≡ None
  no_blank_of [] e k = refl
  no_blank_of (c ∷ cs) e k =
      let P : Bool → Type 0 = λ t. is_blank c ≡ t → cond t (Some cs) None ≡ None in
      let f : P (is_blank c) = elim (is_blank c) as P [
        | true ↦ λ g. (let same : b ≡ c = sym byte ∙ byte_from_char bs (encode_utf8_all cs) c (sym e) (small c g) in
            let bad = sym k ∙ ap is_blank same ∙ g in cc)
        | false ↦ λ _. refl
      ] in f refl

  pub no_blank : is_blank b ≡ false → after_blank (chars bs) ≡ None
  no_blank k = ap after_blank (sym (chars_from_encodes u.0 bs u u.1.1)) ∙ no_blank_of u.0 u.1.1 k

pub nothing_there : (bs : List ℕ) → slice_get bs 0 ≡ None → after_blank (chars bs) ≡ None
nothing_there [] h = ap after_blank chars-nil
nothing_there (b ∷ bs) h = cc
