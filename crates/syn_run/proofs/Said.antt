-- What is said of an input, by what its list and its read are.
use Rattle.std.proofs.Common.{◌≡◌, ◌⊎◌, inl, inr, ◌≢◌, ℕ, List, ◌++◌, codes, Result, Ok, Err, IsUtf8, refl, ap, sym, subst, ◌∙◌}
use Rattle.token_core.specs.declared.error.ErrorKind.{ErrorKind}
use Rattle.token_core.specs.declared.error.ErrorKind.TheVariants.{OutOfMemory}
use Rattle.token_core.specs.declared.span.Span.{Span}
use Rattle.token_core.specs.declared.tree.TokenTree.{TokenTree}
use Rattle.token_core.specs.Toks.{Bytes, done}
use Rattle.token_core.specs.Trees.{TokenStream, trees, row, toks}
use Rattle.token_core.specs.Rebuilt.{Visible}
use Rattle.token_core.specs.Refusal.{Refusal, out_of_memory}
use Rattle.token_core.proofs.Rebuilds.{stream-trees}
use Rattle.token_text.specs.declared.piece.Docs.{Docs}
use Rattle.token_text.specs.declared.piece.Docs.TheVariants.{Refuse}
use Rattle.token_text.specs.Spelling.{SpellsWith, RefusedWith}
use Rattle.token_text.specs.Printing.{text_of}
use Rattle.syn_readers.specs.Readers.{Category, Reprints}
use Rattle.syn_run.specs.Run.{Answer, Shows, shown, no_memory, not_text, line, IsTextOf, Refuses, not_utf8, no_list, no_tree, memory, RefusedFor, in_text, in_list, by_memory, Justified, JustifiedBy, AnswersBy, Accepts, AnswersTo, Replies, text_of_print, Ends}
use Rattle.syn_run.specs.declared.fault.Fault.{Fault}
use Rattle.syn_run.specs.declared.fault.Fault.TheVariants as f
use Rattle.syn_run.specs.Faults.{text, of_fault, of_kind, of_refusal, faulty, answer}

-- ---- what a read of a text answers

module _ {A S : Type 0} (docs : Docs) (C : Category A) (scope : Span) (input : Bytes) (bytes : S → Bytes) where
  -- for want of memory alone
  pub by_no_memory : (e : Refusal) → e.kind ≡ OutOfMemory → Replies docs C scope input bytes (Err e)
  by_no_memory e k = record { justified = by_memory e k; accepts = λ l a t v s. k }

  -- a text that is not read
  pub of_unread : (e : Refusal) → (e ≡ out_of_memory) ⊎ RefusedWith docs input e → ((l : List TokenTree) → SpellsWith docs input l → e ≡ out_of_memory) → Replies docs C scope input bytes (Err e)
  of_unread e (inl q) none = by_no_memory e (ap (λ x. x.kind) q)
  of_unread e (inr h) none = record { justified = in_text e h; accepts = λ l a t v s. ap (λ x. x.kind) (none l t.spells) }

  -- a text that is read
  module _ (c : TokenStream) (is_text : IsTextOf docs input (trees c)) (only : (l : List TokenTree) → SpellsWith docs input l → trees c ≡ l) where
    tokens : toks c ≡ row (trees c) done
    tokens = stream-trees c done

    visible : (l : List TokenTree) → SpellsWith docs input l → Visible (row l done) → Visible (row (trees c) done)
    visible l t v = subst (λ z. Visible (row z done)) (sym (only l t)) v

    clear : (l : List TokenTree) (a : A) → SpellsWith docs input l → C.clear a (row l done) → C.clear a (row (trees c) done)
    clear l a t s = subst (λ z. C.clear a (row z done)) (sym (only l t)) s

    here : (r : Result TokenStream Refusal) → Reprints C scope (toks c) r → Reprints C scope (row (trees c) done) r
    here r h = subst (λ l. Reprints C scope l r) tokens h

    -- a refusal that a tree rules out is for want of memory
    forgetful : (k : ErrorKind) → (k ≢ OutOfMemory → ⊥) → k ≡ OutOfMemory
    forgetful OutOfMemory h = refl
    forgetful _ h = absurd (h (λ q. cc))

    refused : (k : ErrorKind) (e : Refusal) → e.kind ≡ k → (k ≢ OutOfMemory → RefusedFor docs C scope input e) → RefusedFor docs C scope input e
    refused OutOfMemory e q h = by_memory e q
    refused _ e q h = h (λ w. cc)

    pub of_refused : (e : Refusal) → Reprints C scope (toks c) (Err e) → Replies docs C scope input bytes (Err e)
    of_refused e h =
        let q = here (Err e) h in
        record {
          justified = refused e.kind e refl (λ k. in_list (trees c) e is_text (q k).0 (q k).1);
          accepts = λ l a t v s. forgetful e.kind (λ k. C.refused (row (trees c) done) a (q k).1 (visible l t.spells v) (clear l a t.spells s));
        }

    pub of_answer : (p : TokenStream) (text : S) → Reprints C scope (toks c) (Ok p) → bytes text ≡ text_of p → Replies docs C scope input bytes (Ok text)
    of_answer p text h is =
        let q = here (Ok p) h in
        let e : bytes text ≡ text_of_print C q.0 = is ∙ ap text_of q.3 in
        record {
          justified = record { list = trees c; is_text = is_text; tree = q.0; read = q.1; promise = q.2; text_is = e };
          accepts = λ l a t v s. e ∙ ap (text_of_print C) (sym (C.unique (row (trees c) done) a q.0 q.2 (visible l t.spells v) (clear l a t.spells s)));
        }

  -- as bytes
  pub reply-text : (s : S) (t : Bytes) → t ≡ bytes s → Replies docs C scope input bytes (Ok s) → Replies docs C scope input (λ (x : Bytes). x) (Ok t)
  reply-text s t e h = record { justified = let P : Bytes → Type 0 = λ x. Shows docs C scope input x in subst P (sym e) h.justified; accepts = λ l a i v k. e ∙ h.accepts l a i v k }

  pub reply-refusal : (e : Refusal) → Replies docs C scope input bytes (Err e) → Replies docs C scope input (λ (x : Bytes). x) (Err e)
  reply-refusal e h = record { justified = h.justified; accepts = h.accepts }

-- ---- what a run says of it

module _ {A : Type 0} (C : Category A) (scope : Span) (input : Bytes) where
  -- a refusal is for want of memory, or its text is said
  said : (k : ErrorKind) (e : Refusal) → (k ≢ OutOfMemory → Refuses C scope input e.text) → Justified C scope input (of_fault (of_kind k e))
  said OutOfMemory e h = memory
  said _ e h = h (λ q. cc)

  refused-said : (e : Refusal) → IsUtf8 input → RefusedFor Refuse C scope input e → Justified C scope input (of_fault (of_refusal e))
  refused-said _ utf8 (in_text e h) = said e.kind e (λ k. no_list e utf8 h)
  refused-said _ utf8 (in_list l e t w p) = said e.kind e (λ k. no_tree l e t w p)
  refused-said _ utf8 (by_memory e q) = let P : ErrorKind → Type 0 = λ k. Justified C scope input (of_fault (of_kind k e)) in subst P (sym q) memory

  pub of_bytes : ¬ IsUtf8 input → AnswersTo C scope input not_text
  of_bytes h = record { justified = not_utf8 h; accepts = λ l a t v s. absurd (h t.utf8) }

  pub of_reply : {S : Type 0} (bytes : S → Bytes) (r : Result S Refusal) → IsUtf8 input → Replies Refuse C scope input bytes r → AnswersTo C scope input (answer bytes (faulty r))
  of_reply bytes (Ok s) utf8 h = record { justified = h.justified; accepts = λ l a t v s. inl (ap shown (h.accepts l a t v s)) }
  of_reply bytes (Err e) utf8 h = record { justified = refused-said e utf8 h.justified; accepts = λ l a t v s. inr (ap (λ k. of_fault (of_kind k e)) (h.accepts l a t v s)) }

-- ---- what is written of a fault

pub fault-line : (x : Fault) → codes "error: " ++ text x ++ codes "\n" ≡ line (of_fault x)
fault-line f.UnknownReader = refl
fault-line f.CannotRead = refl
fault-line f.NotUtf8 = refl
fault-line f.OutOfMemory = refl
fault-line (f.Refused e) = refl

pub ends_so : (takes can_fail : Bytes → Type 0) (k l : Bytes) (said wanted result : ℕ) → k ≡ l → said ≡ wanted → Ends takes can_fail k said result → Ends takes can_fail l wanted result
ends_so takes can_fail k l said wanted result e q h = let P : Bytes → ℕ → Type 0 = λ x n. Ends takes can_fail x n result in subst (λ n. P l n) q (subst (λ x. P x said) e h)
