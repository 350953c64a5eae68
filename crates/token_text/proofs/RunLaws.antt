-- Runs, words and suffixes: what is found is so by the rules, and only that.
use Rattle.std.proofs.Common.{◌≡◌, ℕ, true, false, ◌&&◌, ◌==◌, [], ◌∷◌, encode_utf8_all, Option, Some, None, refl, sym, ap, ◌∙◌, subst}
use Rattle.token_text.specs.declared.class.Class.{Class}
use Rattle.token_text.specs.declared.class.Class.TheVariants.{Continue}
use Rattle.token_text.specs.Characters.{Text, upto, begins_with, is_letter, is_start, passes, after_run}
use Rattle.token_text.specs.Front.{word, raw_mark, word_after, raw_word, raw_or_plain, any_word, after_suffix}
use Rattle.token_text.specs.Literals.{Run, run_ends, run_goes, IsWord, a_word, BeginsRaw, IsAnyWord, plain, raw, IsSuffix, none, suffix}
use Rattle.token_text.specs.Pieces.{has_raw_form}
use Rattle.token_text.proofs.CharacterLaws.{same_number, which, left, right, start_r}

pub run_is : (p : Class) (cs : Text) → Run p cs (after_run p cs)
run_is p [] = run_ends refl
run_is p (c ∷ cs) = which (Run p (c ∷ cs)) (passes p c) (λ e. run_goes e (run_is p cs)) (λ e. run_ends e)

ends_run : (p : Class) (ds : Text) → begins_with (passes p) ds ≡ false → after_run p ds ≡ ds
ends_run p [] h = refl
ends_run p (d ∷ ds) h = rw h refl

pub run_only : {p : Class} {cs rest : Text} → Run p cs rest → after_run p cs ≡ rest
run_only {p} {cs} (run_ends h) = ends_run p cs h
run_only (run_goes h r) = rw h (run_only r)

-- ---- words

-- what was found is so
abbrev pub WordSaid : Text → Option Text → Type 0
WordSaid cs None = Unit {0}
WordSaid cs (Some rest) = IsWord cs rest

word_said : (cs : Text) → WordSaid cs (word cs)
unfolding word
word_said [] = tt
word_said (c ∷ cs) = which (WordSaid (c ∷ cs)) (is_start c) (λ e. a_word e (run_is Continue cs)) (λ e. tt)

pub word_is : (cs rest : Text) → word cs ≡ Some rest → IsWord cs rest
word_is cs rest h = subst (WordSaid cs) h (word_said cs)

word_starts : {cs rest : Text} → IsWord cs rest → begins_with is_start cs ≡ true
word_starts (a_word h r) = h

pub word_only : {cs rest : Text} → IsWord cs rest → word cs ≡ Some rest
unfolding word
word_only (a_word h r) = rw h (ap (λ t. Some t) (run_only r))

mark_is : (a b : ℕ) (cs : Text) → (a == 114 && b == 35) ≡ true → a ∷ b ∷ cs ≡ 114 ∷ 35 ∷ cs
mark_is a b cs h =
    let e : a ≡ 114 = same_number a 114 (left _ _ h) in
    let f : b ≡ 35 = same_number b 35 (right _ _ h) in
    rw (e, f) refl

abbrev pub RawSaid : Text → Option Text → Type 0
RawSaid cs None = Unit {0}
RawSaid cs (Some body) = cs ≡ 114 ∷ 35 ∷ body

raw_said : (cs : Text) → RawSaid cs (raw_mark cs)
raw_said [] = tt
raw_said (a ∷ []) = tt
raw_said (a ∷ b ∷ cs) = which (RawSaid (a ∷ b ∷ cs)) (a == 114 && b == 35) (λ e. mark_is a b cs e) (λ e. tt)

no_raw_body : (cs body : Text) → cs ≡ 114 ∷ 35 ∷ body → ¬ BeginsRaw cs → (o : Option Text) → WordSaid body o → o ≡ None
no_raw_body cs body e n None s = refl
no_raw_body cs body e n (Some rest) s = absurd (n (body, e, word_starts s))

no_raw_after : (cs : Text) (o : Option Text) → RawSaid cs o → ¬ BeginsRaw cs → word_after o ≡ None
no_raw_after cs None s n = refl
no_raw_after cs (Some body) s n = no_raw_body cs body s n (word body) (word_said body)

pub no_raw : (cs : Text) → ¬ BeginsRaw cs → raw_word cs ≡ None
unfolding raw_word
no_raw cs n = no_raw_after cs (raw_mark cs) (raw_said cs) n

word_of_start : (body : Text) → begins_with is_start body ≡ true → (rest : Text) × (word body ≡ Some rest)
unfolding word
word_of_start [] h = cc
word_of_start (c ∷ cs) h = (after_run Continue cs, rw h refl)

raw_at : (body : Text) → raw_word (114 ∷ 35 ∷ body) ≡ word body
unfolding raw_word
raw_at body = refl

raw_begins : (cs : Text) → raw_word cs ≡ None → ¬ BeginsRaw cs
raw_begins cs h b =
    let w = word_of_start b.0 b.2 in
    let e = sym h ∙ ap raw_word b.1 ∙ raw_at b.0 ∙ w.1 in cc

-- ---- words, raw or not

abbrev pub AnyWordSaid : Text → Option Text → Type 0
AnyWordSaid cs None = Unit {0}
AnyWordSaid cs (Some rest) = IsAnyWord cs rest

raw_word_said : (cs body rest : Text) → cs ≡ 114 ∷ 35 ∷ body → IsWord body rest → has_raw_form (encode_utf8_all (upto cs rest)) ≡ true → IsAnyWord cs rest
raw_word_said cs body rest e w h =
    subst (λ t. IsAnyWord t rest) (sym e) (raw w (ap (λ t. has_raw_form (encode_utf8_all (upto t rest))) (sym e) ∙ h))

raw_parts : (cs : Text) (o : Option Text) (rest : Text) → RawSaid cs o → word_after o ≡ Some rest → (body : Text) × (cs ≡ 114 ∷ 35 ∷ body) × IsWord body rest
raw_parts cs None rest s h = cc
raw_parts cs (Some body) rest s h = (body, s, word_is body rest h)

plain_said : (cs : Text) → ¬ BeginsRaw cs → (o : Option Text) → WordSaid cs o → AnyWordSaid cs o
plain_said cs n None s = tt
plain_said cs n (Some rest) s = plain n s

any_word_by : (cs : Text) (o : Option Text) → raw_word cs ≡ o → AnyWordSaid cs (raw_or_plain cs o)
unfolding raw_word
any_word_by cs None h = plain_said cs (raw_begins cs h) (word cs) (word_said cs)
any_word_by cs (Some rest) h =
    let p = raw_parts cs (raw_mark cs) rest (raw_said cs) h in
    which (AnyWordSaid cs) (has_raw_form (encode_utf8_all (upto cs rest))) (λ e. raw_word_said cs p.0 rest p.1 p.2 e) (λ e. tt)

pub any_word_said : (cs : Text) → AnyWordSaid cs (any_word cs)
unfolding any_word
any_word_said cs = any_word_by cs (raw_word cs) refl

pub any_word_only : {cs rest : Text} → IsAnyWord cs rest → any_word cs ≡ Some rest
unfolding any_word
any_word_only {cs} {rest} (plain n w) = ap (raw_or_plain cs) (no_raw cs n) ∙ word_only w
any_word_only (raw {cs = cs} {rest = rest} w h) = ap (raw_or_plain (114 ∷ 35 ∷ cs)) (raw_at cs ∙ word_only w) ∙ rw h refl

pub any_word_starts : {cs rest : Text} → IsAnyWord cs rest → begins_with is_start cs ≡ true
any_word_starts (plain n w) = word_starts w
any_word_starts (raw w h) = start_r

no_raw_mark : (c : ℕ) (cs : Text) → (c == 114) ≡ false → raw_mark (c ∷ cs) ≡ None
no_raw_mark c [] h = refl
no_raw_mark c (d ∷ cs) h = rw h refl

-- no word begins with a character that starts none
pub no_word : (c : ℕ) (cs : Text) → is_start c ≡ false → (c == 114) ≡ false → any_word (c ∷ cs) ≡ None
unfolding any_word raw_word word
no_word c cs h k = rw (no_raw_mark c cs k, h) refl

-- nor a raw one with another character than `r`
pub plain_word : (c : ℕ) (cs : Text) → is_start c ≡ true → (c == 114) ≡ false → any_word (c ∷ cs) ≡ Some (after_run Continue cs)
unfolding any_word raw_word word
plain_word c cs h k = rw (no_raw_mark c cs k, h) refl

-- ---- suffixes

pub suffix_is : (cs : Text) → IsSuffix cs (after_suffix cs)
unfolding after_suffix
suffix_is cs = which (IsSuffix cs) (begins_with is_letter cs) (λ e. suffix e (run_is Continue cs)) (λ e. none e)

pub suffix_only : {cs rest : Text} → IsSuffix cs rest → after_suffix cs ≡ rest
unfolding after_suffix
suffix_only (none h) = rw h refl
suffix_only (suffix h r) = rw h (run_only r)
