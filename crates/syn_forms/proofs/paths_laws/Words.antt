-- The words of a path's segments.
use Rattle.std.proofs.Common.{◌≡◌, Bool, true, false, ◌||◌, if◌then◌else◌, Option, Some, None, Ok, Err, refl, ◌∙◌, ap}
use Rattle.token_core.specs.declared.tree.Ident.{Ident}
use Rattle.token_core.specs.Front.{front}
use Rattle.token_core.specs.Refusal.{Refusal}
use Rattle.token_core.specs.Stream.{Stream}
use Rattle.token_core.specs.Toks.{Bytes, Toks}
use Rattle.token_core.specs.Reads.{Outcome, as_word, any_text, is_ident, is_text, next_word, read_word, sees_word, word_if, word_meets, word_past, expected, past}
use Rattle.token_core.specs.Tokens as token
use Rattle.syn_path.proofs.path_laws.Turns.{sees-or}
use Rattle.syn_forms.specs.paths.Reading.{is_bare_word, is_named_word}

-- a word that takes no arguments, word by word
pub sees-bare : (l : Toks) → sees_word is_bare_word l ≡ (token.sees_super l || (token.sees_self_value l || (token.sees_crate l || token.sees_try l)))
sees-bare l =
    sees-or (is_text token.super_text) (λ t. is_text token.self_value_text t || (is_text token.crate_text t || is_text token.try_text t)) l
    ∙ ap (λ b. token.sees_super l || b) (sees-or (is_text token.self_value_text) (λ t. is_text token.crate_text t || is_text token.try_text t) l)
    ∙ ap (λ b. token.sees_super l || (token.sees_self_value l || b)) (sees-or (is_text token.crate_text) (is_text token.try_text) l)

pub ruleset bare_words = (sees-bare)

-- ---- an identifier, or one further word

module _ (f g : Bytes → Bool) (e : Refusal) (s : Stream) where
  abbrev either : Bytes → Bool
  either t = f t || g t

  right_at : (o : Option (Ident × Toks)) → word_meets g o ≡ true → word_if either e (word_past s o) ≡ word_if any_text e (word_past s o)
  right_at None h = cc
  right_at (Some p) h = by_test (f p.0.text) (g p.0.text) h
    where
      by_test : (b c : Bool) → c ≡ true → ◌≡◌ {A = Outcome Ident} (if b || c then Ok (p.0, past s p.1 p.0.span) else Err e) (Ok (p.0, past s p.1 p.0.span))
      by_test true c h = refl
      by_test false true h = refl
      by_test false false h = cc

  left_at : (o : Option (Ident × Toks)) → word_meets g o ≡ false → word_if either e (word_past s o) ≡ word_if f e (word_past s o)
  left_at None h = refl
  left_at (Some p) h = by_test (f p.0.text) (g p.0.text) h
    where
      by_test : (b c : Bool) → c ≡ false → ◌≡◌ {A = Outcome Ident} (if b || c then Ok (p.0, past s p.1 p.0.span) else Err e) (if b then Ok (p.0, past s p.1 p.0.span) else Err e)
      by_test true c h = refl
      by_test false true h = cc
      by_test false false h = refl

-- at `Self`, and elsewhere
pub read-self : (name : Bytes) (s : Stream) → token.sees_self_type s.rest ≡ true → read_word is_named_word name s ≡ read_word any_text name s
unfolding sees_word read_word next_word
read-self name s h = right_at is_ident (is_text token.self_type_text) (expected name s) s (as_word (front s.rest)) h

pub read-other : (name : Bytes) (s : Stream) → token.sees_self_type s.rest ≡ false → read_word is_named_word name s ≡ read_word is_ident name s
unfolding sees_word read_word next_word
read-other name s h = left_at is_ident (is_text token.self_type_text) (expected name s) s (as_word (front s.rest)) h

pub ruleset named_words = (read-self, read-other)
