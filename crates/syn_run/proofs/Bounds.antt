-- What a read of a text within a limit answers.
use Rattle.std.proofs.Common.{◌≡◌, ◌⊎◌, inl, inr, ℕ, List, Option, Some, None, Result, Ok, Err, ap}
use Rattle.token_core.specs.declared.error.ErrorKind.TheVariants.{NestedTooDeep}
use Rattle.token_core.specs.declared.span.Span.{Span}
use Rattle.token_core.specs.declared.tree.TokenTree.{TokenTree}
use Rattle.token_core.specs.Levels.{too_deep, Checked}
use Rattle.token_core.specs.Refusal.{Refusal, named, out_of_memory}
use Rattle.token_core.specs.Toks.{Bytes}
use Rattle.token_text.specs.declared.piece.Docs.{Docs}
use Rattle.token_text.specs.Depth.{deep_at}
use Rattle.token_text.specs.Spelling.{SpellsWith}
use Rattle.syn_readers.specs.Readers.{Category}
use Rattle.syn_run.specs.Run.{Replies, RepliesWithin}
use Rattle.syn_run.proofs.Said.{by_no_memory, reply-text, reply-refusal}

-- by what is said of a text that is checked
at_place : (o : Option Span) (s : Span) (e : Refusal) → o ≡ Some s → Checked o (Err e) → (e ≡ out_of_memory) ⊎ (e ≡ named NestedTooDeep s)
at_place (Some t) s e h (inl q) = inl q
at_place (Some t) s e h (inr q) = let k : s ≡ t = cc in inr (rw k q)
at_place None s e h c = cc

for_memory : (o : Option Span) (e : Refusal) → o ≡ None → Checked o (Err e) → e ≡ out_of_memory
for_memory None e h (inl q) = q
for_memory None e h (inr q) = absurd q
for_memory (Some s) e h c = cc

no_place : (o : Option Span) (s : Span) → o ≡ None → o ≡ Some s → ⊥
no_place o s e f = cc

module _ {A S : Type 0} (docs : Docs) (limit : ℕ) (C : Category A) (scope : Span) (text : Bytes) (bytes : S → Bytes) where
  module _ (is : (l : List TokenTree) → SpellsWith docs text l → deep_at docs limit text ≡ too_deep limit l) where
    -- a text that the check refuses
    pub of_unchecked : (e : Refusal) → Checked (deep_at docs limit text) (Err e) → RepliesWithin docs limit C scope text bytes (Err e)
    of_unchecked e h = record {
      deep = λ s k. at_place (deep_at docs limit text) s e k h;
      within = λ k. by_no_memory docs C scope text bytes e (ap (λ (r : Refusal). r.kind) (for_memory (deep_at docs limit text) e k h));
      listed = is;
    }

    -- a text that it lets pass
    pub of_checked : (r : Result S Refusal) → deep_at docs limit text ≡ None → Replies docs C scope text bytes r → RepliesWithin docs limit C scope text bytes r
    of_checked r none h = record {
      deep = λ s k. absurd (no_place (deep_at docs limit text) s none k);
      within = λ k. h;
      listed = is;
    }

  pub bounded-text : (s : S) (t : Bytes) → t ≡ bytes s → RepliesWithin docs limit C scope text bytes (Ok s) → RepliesWithin docs limit C scope text (λ (x : Bytes). x) (Ok t)
  bounded-text s t e h = record { deep = λ p k. h.deep p k; within = λ k. reply-text docs C scope text bytes s t e (h.within k); listed = λ l i. h.listed l i }

  pub bounded-refusal : (e : Refusal) → RepliesWithin docs limit C scope text bytes (Err e) → RepliesWithin docs limit C scope text (λ (x : Bytes). x) (Err e)
  bounded-refusal e h = record { deep = λ p k. h.deep p k; within = λ k. reply-refusal docs C scope text bytes e (h.within k); listed = λ l i. h.listed l i }
