-- A token on the front of a list: what its read promises there, whatever follows.
use Rattle.std.specs.Prelude.{◌≢◌}
use Rattle.std.proofs.Common.{◌≡◌, ℕ, ◌≤◌, Bool, true, false, if◌then◌else◌, Option, None, length, Result, Ok, Err, refl, sym, ap, subst}
use Rattle.token_core.specs.declared.error.ErrorKind.TheVariants.{OutOfMemory}
use Rattle.token_core.specs.declared.mark.Mark.{Mark}
use Rattle.token_core.specs.declared.span.Span.{Span}
use Rattle.token_core.specs.declared.tree.Ident.{Ident}
use Rattle.token_core.specs.declared.word.Word.{Word}
use Rattle.token_core.specs.Fronted.{Fronting, Fronted, FrontLaws, ReadTo}
use Rattle.token_core.specs.Marks.{chars_of, read, read_named}
use Rattle.token_core.specs.Prints as p
use Rattle.token_core.specs.Prints.{Print}
use Rattle.token_core.specs.Reads.{Reader, Reads, is_ident, ident_name, read_word, next_word, expected}
use Rattle.token_core.specs.Rebuilt.{Visible}
use Rattle.token_core.specs.Refusal.{Refusal}
use Rattle.token_core.specs.Spellings.{IsMark, IsWord}
use Rattle.token_core.specs.Stream.{Scope, Stream}
use Rattle.token_core.specs.Toks.{Toks, done, word}
use Rattle.token_core.specs.Trees.{row}
use Rattle.token_core.proofs.Fronteds.{fronted}
use Rattle.token_core.proofs.MarkSpells.{Taken, mark_again, mark_complete, mark_sound, mark_visible, mark_whole}
use Rattle.token_core.proofs.Rebuilds.{tree-ident}
use Rattle.token_core.proofs.Steps.{Reads_to}
use Rattle.token_core.proofs.Took.{at, took_word}
use Rattle.token_core.proofs.WordSpells.{word_again, word_complete, word_sound, word_visible, word_whole}
use Rattle.item_small.specs.item.Reading.{name}
use Rattle.item_small.specs.item.Spelling.{IsName, a_name}

-- a token by what it spells; it is its own normal form, and anything may follow it
abbrev pub token_front : {A : Type 0} → (Bool → A → Toks → Toks → Type 0) → (A → Print) → Reader A → Fronting A
token_front Is print reader = record {
  grammar = record { spells = λ clear x l. Is clear x l done; normal = λ x. x; print = print; plain = λ x. Unit {0}; reader = reader };
  begins = Is;
  follows = λ k. true;
  plain = λ x k. Unit {0};
}

module _ {A : Type 0} (Is : Bool → A → Toks → Toks → Type 0) (print : A → Print) (reader : Reader A)
    (sound : (s t : Stream) (x : A) → Visible s.rest → reader s ≡ Ok (x, t) → Taken (Is false) s t x)
    (complete : (x : A) (l r : Toks) (f : Option Span) (e : Span) (sc : Scope) → Is true x l r → Reads_to reader x l r f e sc)
    (again : (x : A) (l r h : Toks) → Is false x l r → Is true x (row (print x) h) h)
    (visible : (x : A) (l r : Toks) → Is false x l r → Visible l → Visible r)
    (whole : (x : A) (l r : Toks) → Is true x l r → Visible r → Visible l) where
  complete_to : (s : Stream) (x : A) (k : Toks) → s.left ≡ None → Is true x s.rest k → ReadTo (token_front Is print reader) x s k
  complete_to s x k n i = let m = complete x s.rest k s.left s.last s.scope i in (at k s.left m.last s.scope, m.reads, refl, n)

  token_laws : FrontLaws (token_front Is print reader)
  token_laws = record {
    sound = λ s t x n v e c. let h = sound s t x v e in (visible x s.rest t.rest h.spelt v, λ o. h.spelt);
    complete = λ s x k n v i o. complete_to s x k n i;
    spells = λ x l r k i q o. again x l r k i;
    visible = λ x l r k i v q u o. whole x (row (print x) k) k (again x l r k i) u;
    stays = λ x l r k i q. refl;
    same = λ x l r k i q. refl;
  }

  pub token_fronted : (s t : Stream) (r : Result A Refusal) → Reads (reader s) r t → Fronted (token_front Is print reader) s r t
  token_fronted s t r h = fronted (token_front Is print reader) token_laws s t r h

-- ---- marks

module _ {n k : ℕ} where
  abbrev pub mark_front : Fronting (Mark n k)
  mark_front = token_front (λ clear. IsMark clear) p.mark (read n k)

  pub mark_fronted : length (chars_of n) ≡ k → k ≤ 3 → (s t : Stream) (r : Result (Mark n k) Refusal) → Reads (read n k s) r t → Fronted mark_front s r t
  mark_fronted fits short =
      token_fronted (λ clear. IsMark clear) p.mark (read n k) (λ s t x v e. mark_sound fits short s t x v e) (λ x l r f e sc i. mark_complete true fits short x l r f e sc i)
      (λ x l r h i. mark_again false x l r h i) (λ x l r i v. mark_visible false x l r i v) (λ x l r i v. mark_whole true x l r i v)

  pub mark_refused : length (chars_of n) ≡ k → k ≤ 3 → (s : Stream) (e : Refusal) → (e.kind ≢ OutOfMemory → read n k s ≡ Err e) → Fronted mark_front s (Err e) s
  mark_refused fits short s e h = mark_fronted fits short s s (Err e) h

-- ---- words

module _ {n : ℕ} where
  abbrev pub word_front : Fronting (Word n)
  word_front = token_front (λ clear. IsWord) p.word (read_named n)

  pub word_fronted : (s t : Stream) (r : Result (Word n) Refusal) → Reads (read_named n s) r t → Fronted word_front s r t
  word_fronted = token_fronted (λ clear. IsWord) p.word (read_named n) (λ s t x v e. word_sound s t x v e) (λ x l r f e sc i. word_complete x l r f e sc i) (λ x l r h i. word_again x l r h i) (λ x l r i v. word_visible x l r i v) (λ x l r i v. word_whole x l r i v)

  pub word_refused : (s : Stream) (e : Refusal) → (e.kind ≢ OutOfMemory → read_named n s ≡ Err e) → Fronted word_front s (Err e) s
  word_refused s e h = word_fronted s s (Err e) h

-- ---- names

abbrev pub name_front : Fronting Ident
name_front = token_front (λ clear. IsName) p.ident name

name_sound : (s t : Stream) (x : Ident) → Visible s.rest → name s ≡ Ok (x, t) → Taken IsName s t x
name_sound s t x v e =
    let w = took_word is_ident ident_name s t x v e in
    record { spelt = subst (λ z. IsName x z t.rest) (sym w.is) (a_name w.meets); left = w.left }

name_complete : (x : Ident) (l r : Toks) (f : Option Span) (e : Span) (sc : Scope) → IsName x l r → Reads_to name x l r f e sc
unfolding read_word next_word
name_complete x l r f e sc (a_name h) = record { last = x.span; reads = ap (λ (b : Bool). if b then Ok (x, at r f x.span sc) else Err (expected ident_name (at (word x r) f e sc))) h }

name_again : (x : Ident) (l r h : Toks) → IsName x l r → IsName x (row (p.ident x) h) h
name_again x l r h (a_name m) = subst (λ z. IsName x z h) (sym (tree-ident x h)) (a_name m)

name_visible : (x : Ident) (l r : Toks) → IsName x l r → Visible l → Visible r
name_visible x l r (a_name m) v = v

name_whole : (x : Ident) (l r : Toks) → IsName x l r → Visible r → Visible l
name_whole x l r (a_name m) v = v

pub name_fronted : (s t : Stream) (r : Result Ident Refusal) → Reads (name s) r t → Fronted name_front s r t
name_fronted = token_fronted (λ clear. IsName) p.ident name name_sound name_complete name_again name_visible name_whole

pub name_refused : (s : Stream) (e : Refusal) → (e.kind ≢ OutOfMemory → name s ≡ Err e) → Fronted name_front s (Err e) s
name_refused s e h = name_fronted s s (Err e) h
