-- The class of an entry, and the word of a text.
use Rattle.std.proofs.Common.{◌≡◌, ℕ, ◌≤◌, Bool, true, false, List, [], ◌∷◌, Some, None, if◌then◌else◌, refl, sym, ap, ◌∙◌, ◌&&◌, ◌||◌, nat_eq, inl, inr, length, get_or, arith}
use Rattle.std.specs.Str.{bytes_eq}
use Rattle.std.specs.List.{list_all, list_any}
use Rattle.std.proofs.lemmas.Bool.{cases_Bool, false≢true}
use Rattle.token_core.specs.declared.tree.Delimiter.{Delimiter}
use Rattle.token_core.specs.declared.tree.Delimiter.TheVariants.{Parenthesis, Brace, Bracket}
use Rattle.token_core.specs.declared.tree.Delimiter.TheVariants as d
use Rattle.token_core.specs.declared.class.Class.TheVariants.{Open}
use Rattle.token_core.specs.declared.span.DelimSpan.{DelimSpan}
use Rattle.token_core.specs.declared.tree.TokenTree.TheOpen as o
use Rattle.token_core.specs.Toks.{Bytes}
use Rattle.token_core.specs.Trees.{TokenStream, delimiter_of, span_of, content_of}
use Rattle.token_core.specs.Seen.{saw_delimiter}
use Rattle.token_core.specs.Entries.{Layer, saw_layer}
use Rattle.token_core.specs.Keywords.{words}
use Rattle.token_core.specs.Classes.{Numbered, numbered, among, begins, beginning, words_from, word_number, layer_class, class_of}

-- ---- the class of an entry

delimiter_classed : (b : Delimiter) (s : DelimSpan) (c : TokenStream) (n : ℕ) → Open b ≡ class_of (saw_delimiter b s c n)
delimiter_classed Parenthesis s c n = refl
delimiter_classed Brace s c n = refl
delimiter_classed Bracket s c n = refl
delimiter_classed d.None s c n = refl

pub layer_classed : (n : ℕ) (x : Layer) → class_of (saw_layer n x) ≡ layer_class x
layer_classed n (o.Ident i) = refl
layer_classed n (o.Punct p) = refl
layer_classed n (o.Literal l) = refl
layer_classed n (o.Group g) = sym (delimiter_classed (delimiter_of g) (span_of g) (content_of g) n)

-- ---- the word of a text

module _ (b : ℕ) (t : Bytes) where
  word_kept : (n : ℕ) (w : Bytes) (l : Numbered) → among (beginning b l) (b ∷ t) ≡ among l (b ∷ t) → among (beginning b ((n, w) ∷ l)) (b ∷ t) ≡ among ((n, w) ∷ l) (b ∷ t)
  word_kept n [] l h = h
  word_kept n (c ∷ w) l h = elim (cases_Bool (nat_eq b c)) [
    | inl e ↦ ap (λ z. among (if z then (n, c ∷ w) ∷ beginning b l else beginning b l) (b ∷ t)) e ∙ ap (λ z. if (nat_eq b c && bytes_eq t w) then Some n else z) h
    | inr e ↦ ap (λ z. among (if z then (n, c ∷ w) ∷ beginning b l else beginning b l) (b ∷ t)) e ∙ h ∙ sym (ap (λ z. if (z && bytes_eq t w) then Some n else among l (b ∷ t)) e)
  ]

  among_beginning : (l : Numbered) → among (beginning b l) (b ∷ t) ≡ among l (b ∷ t)
  among_beginning [] = refl
  among_beginning (p ∷ l) = word_kept p.0 p.1 l (among_beginning l)

-- a text is found among the words that begin with its first byte where it is found at all
pub found_from : (t : Bytes) (d : ℕ) → 1 ≤ length t → among (words_from (get_or t 0 d)) t ≡ word_number t
unfolding words_from word_number
found_from [] d h = absurd (omega (arith, h))
found_from (b ∷ t) d h = among_beginning b t (numbered 0 words)

pub found_none : (t : Bytes) → length t ≡ 0 → None ≡ word_number t
unfolding word_number
found_none [] h = refl
found_none (b ∷ t) h = absurd (omega (arith, h))

-- ---- no word begins so

pub both_left : (a b : Bool) → (a && b) ≡ true → a ≡ true
both_left true b e = refl
both_left false b e = cc

pub both_right : (a b : Bool) → (a && b) ≡ true → b ≡ true
both_right true b e = e
both_right false b e = cc

pub neither : {a b : Bool} → a ≡ false → b ≡ false → (a || b) ≡ false
neither {a} {b} p q = ap (λ z. z || b) p ∙ q

first_false : (a b : Bool) → (a || b) ≡ false → a ≡ false
first_false true b e = cc
first_false false b e = refl

second_false : (a b : Bool) → (a || b) ≡ false → b ≡ false
second_false true b e = cc
second_false false b e = e

pub differs : (a b : ℕ) → (a ≡ b → ⊥) → nat_eq a b ≡ false
differs a b h = grind (arith, h)

same_number : (a b : ℕ) → nat_eq a b ≡ true → a ≡ b
same_number a b h = grind (arith, h)

abbrev starts_in : List ℕ → Bytes → Bool
starts_in fs [] = true
starts_in fs (c ∷ cs) = list_any (λ f. nat_eq f c) fs

module _ (b : ℕ) where
  starts_elsewhere : (c : ℕ) (fs : List ℕ) → list_any (λ f. nat_eq f c) fs ≡ true → list_any (nat_eq b) fs ≡ false → nat_eq b c ≡ false
  starts_elsewhere c [] s h = absurd (false≢true s)
  starts_elsewhere c (f ∷ fs) s h = elim (cases_Bool (nat_eq f c)) [
    | inl e ↦ ap (λ x. nat_eq b x) (sym (same_number f c e)) ∙ first_false (nat_eq b f) (list_any (nat_eq b) fs) h
    | inr e ↦ starts_elsewhere c fs (sym (ap (λ z. z || list_any (λ g. nat_eq g c) fs) e) ∙ s) (second_false (nat_eq b f) (list_any (nat_eq b) fs) h)
  ]

  begins_none : (fs : List ℕ) (w : Bytes) → starts_in fs w ≡ true → list_any (nat_eq b) fs ≡ false → begins b w ≡ false
  begins_none fs [] s h = refl
  begins_none fs (c ∷ cs) s h = starts_elsewhere c fs s h

  beginning_none : (fs : List ℕ) (l : Numbered) → list_all (λ p. starts_in fs p.1) l ≡ true → list_any (nat_eq b) fs ≡ false → [] ≡ beginning b l
  beginning_none fs [] a h = refl
  beginning_none fs (p ∷ l) a h =
      beginning_none fs l (both_right (starts_in fs p.1) (list_all (λ q. starts_in fs q.1) l) a) h
      ∙ sym (ap (λ z. if z then p ∷ beginning b l else beginning b l) (begins_none fs p.1 (both_left (starts_in fs p.1) (list_all (λ q. starts_in fs q.1) l) a) h))

-- the first bytes of words
abbrev pub firsts : List ℕ
firsts = 83 ∷ 95 ∷ 97 ∷ 98 ∷ 99 ∷ 100 ∷ 101 ∷ 102 ∷ 105 ∷ 108 ∷ 109 ∷ 111 ∷ 112 ∷ 114 ∷ 115 ∷ 116 ∷ 117 ∷ 118 ∷ 119 ∷ 121 ∷ []

pub begun_none : (b : ℕ) → list_any (nat_eq b) firsts ≡ false → [] ≡ words_from b
unfolding words_from
begun_none b h = beginning_none b firsts (numbered 0 words) refl h

pub ruleset found = (found_from, found_none)
