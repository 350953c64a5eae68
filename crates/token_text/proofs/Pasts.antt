-- Ends of a text.
use Rattle.std.proofs.Common.{◌≡◌, ℕ, List, [], ◌∷◌, ◌++◌, ◌≤◌, length, chars, encode_utf8, encode_utf8_all, arith, length-append, refl, ap, ◌∙◌, sym, append_assoc, append-nil, Option, Some, None, Result, Ok, Err}
use Rattle.std.proofs.lemmas.Str.{encodes-append}
use Rattle.std.specs.Borrow.{Bor}
use Rattle.token_core.specs.declared.error.ErrorKind.{ErrorKind}
use Rattle.token_core.specs.Toks.{Bytes}
use Rattle.token_text.specs.Characters.{Text}
use Rattle.token_text.specs.Front.{Past, Finds, Tells}

pub past_self : (t : List ℕ) → Past t t
past_self t = record { front = []; split = refl; whole = refl }

pub past_trans : {a b c : List ℕ} → Past a b → Past b c → Past a c
past_trans {a} {b} {c} p q = record {
  front = p.front ++ q.front;
  split = p.split ∙ ap (λ t. encode_utf8_all p.front ++ t) q.split ∙ sym (append_assoc (encode_utf8_all p.front) (encode_utf8_all q.front) c)
      ∙ ap (λ t. t ++ c) (sym (encodes-append p.front q.front));
  whole = p.whole ∙ ap (λ t. p.front ++ t) q.whole ∙ sym (append_assoc p.front q.front (chars c));
}

pub past_first : (text rest : List ℕ) (c : ℕ) → chars text ≡ c ∷ chars rest → text ≡ encode_utf8 c ++ rest → Past text rest
past_first text rest c cs e = record {
  front = c ∷ [];
  split = e ∙ ap (λ t. t ++ rest) (sym (append-nil (encode_utf8 c)));
  whole = cs;
}

pub past_le : {text rest : List ℕ} → Past text rest → length rest ≤ length text
past_le {text} {rest} p = omega (arith, ap length p.split, length-append (encode_utf8_all p.front) rest)

-- what was found in an end of the text was found in the text
pub finds_past : (o p : Option Text) (text rest : List ℕ) (r : Option (Bor Bytes)) → Past text rest → p ≡ o → Finds o rest r → Finds p text r
finds_past o p text rest None past e h = e ∙ h
finds_past o p text rest (Some x) past e h = (e ∙ h.0, past_trans past h.1)

pub tells_past : {A : Type 0} (o p : Result (A × Text) ErrorKind) (text rest : List ℕ) (r : Result (A × Bor Bytes) ErrorKind) → Past text rest → p ≡ o → Tells o rest r
    → Tells p text r
tells_past o p text rest (Ok x) past e h = (e ∙ h.0, past_trans past h.1)
tells_past o p text rest (Err x) past e h = e ∙ h

pub ruleset pasts = (past_self, past_trans)
