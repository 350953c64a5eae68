-- The names of marks and words among those of all tokens.
use Rattle.std.specs.Prelude.{nat_lt}
use Rattle.std.proofs.Common.{◌≡◌, ℕ, ◌+◌, ◌-◌, Bool, true, false, [], if◌then◌else◌, refl, sym, ap, ◌∙◌, inl, inr, arith}
use Rattle.std.proofs.lemmas.List.{get_or_past}
use Rattle.std.proofs.lemmas.Bool.{cases_Bool}
use Rattle.token_core.specs.Keywords.{words, word_count}
use Rattle.token_core.specs.Marks.{mark_table, mark_count, text_of, quoted, mark_name, word_name}
use Rattle.token_core.specs.TokenNames.{name_of, first_other, nameless, mark_number, word_number}

then_is : {A : Type 0} (b : Bool) (x y : A) → b ≡ true → (if b then x else y) ≡ x
then_is true x y h = refl
then_is false x y h = cc

else_is : {A : Type 0} (b : Bool) (x y : A) → b ≡ false → (if b then x else y) ≡ y
else_is true x y h = cc
else_is false x y h = refl

word_at : (n : ℕ) → nat_lt n word_count ≡ true → name_of (mark_count + n) ≡ quoted (text_of n)
word_at n e =
    let k : (mark_count + n) - mark_count ≡ n = omega arith in
    else_is (nat_lt (mark_count + n) mark_count) _ _ (grind (arith, e)) ∙ then_is (nat_lt (mark_count + n) first_other) _ _ (grind (arith, e)) ∙ ap (λ m. quoted (text_of m)) k

pub mark_named : (n : ℕ) → name_of (mark_number n) ≡ mark_name n
unfolding mark_name
mark_named n = elim (cases_Bool (nat_lt n mark_count)) [
  | inl e ↦ ap (λ b. name_of (if b then n else nameless)) e ∙ then_is (nat_lt n mark_count) _ _ e
  | inr e ↦ ap (λ b. name_of (if b then n else nameless)) e ∙ ap quoted (sym (get_or_past mark_table n [] (grind (arith, e))))
]

pub word_named : (n : ℕ) → name_of (word_number n) ≡ word_name n
unfolding word_name
word_named n = elim (cases_Bool (nat_lt n word_count)) [
  | inl e ↦ ap (λ b. name_of (if b then mark_count + n else nameless)) e ∙ word_at n e
  | inr e ↦ ap (λ b. name_of (if b then mark_count + n else nameless)) e ∙ ap quoted (sym (get_or_past words n [] (grind (arith, e))))
]
