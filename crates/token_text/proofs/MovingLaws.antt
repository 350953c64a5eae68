-- What is read of a string literal is one list, or one refusal.
use Rattle.std.proofs.Common.{◌≡◌, ◌⊎◌, inl, inr, List, [], Option, Result, Ok, Err, ap, ap₂, subst, sym, ◌∙◌}
use Rattle.token_core.specs.declared.error.ErrorKind.TheVariants.{OutOfMemory}
use Rattle.token_core.specs.declared.lit.LitStr.{LitStr}
use Rattle.token_core.specs.declared.span.Span.{Span}
use Rattle.token_core.specs.declared.tree.TokenTree.{TokenTree}
use Rattle.token_core.specs.Reads.{WholeRead, Promised}
use Rattle.token_core.specs.Refusal.{Refusal, Stored, out_of_memory}
use Rattle.token_core.specs.Stream.{Stream, started}
use Rattle.token_core.specs.Toks.{Bytes, Toks}
use Rattle.token_core.specs.Trees.{toks}
use Rattle.token_text.specs.declared.piece.Docs.TheVariants.{Refuse}
use Rattle.token_text.specs.Characters.{Text}
use Rattle.token_text.specs.Spelling.{Spells, Refused as RefusedText}
use Rattle.token_text.specs.Strings.{Content, Found, HasValue, Malformed, text_of}
use Rattle.token_text.specs.Moving.{HoldsTokens, Refused, malformed, suffixed, inner, moved, move_of, moved_trees, moved_refusal, suffixed_at, ReadsString, KeepsString, ToldString}
use Rattle.token_text.specs.Wholes.{RefusedSo}
use Rattle.token_text.proofs.StringLaws.{string_one, malformed_no, malformed_one}
use Rattle.token_text.proofs.TextLaws.{lexed_spelled, lexed_refused}

spells_no : {text : Bytes} {l : List TokenTree} {e : Refusal} → Spells text l → RefusedText text e → ⊥
spells_no {text} {l} {e} s r = let bad = sym (lexed_spelled Refuse text l s) ∙ lexed_refused Refuse text e r in cc

spells_one : (text : Bytes) (l m : List TokenTree) → Spells text l → Spells text m → l ≡ m
spells_one text l m s t = let e = sym (lexed_spelled Refuse text l s) ∙ lexed_spelled Refuse text m t in cc

refused_one_text : {text : Bytes} {e f : Refusal} → RefusedText text e → RefusedText text f → e ≡ f
refused_one_text {text} {e} {f} r t = let h = sym (lexed_refused Refuse text e r) ∙ lexed_refused Refuse text f t in cc

-- ---- values

module _ {s : LitStr} {text : Bytes} {places : List Span} {closing : Span} {suffix : Text} (f : Found s text places closing suffix) where
  pub value_read : HasValue s text
  value_read = (f.content, f.is_string, f.text_is)

  pub value_all : (v : Bytes) → HasValue s v → text ≡ v
  value_all v h = f.text_is ∙ ap (λ (c : Content). text_of c.held) (string_one f.is_string h.1) ∙ sym h.2

  pub value_no : (e : Refusal) → Malformed s e → ⊥
  value_no e m = malformed_no m f.is_string

pub unvalued : {s : LitStr} {e : Refusal} → (e ≡ out_of_memory) ⊎ Malformed s e → (v : Bytes) → HasValue s v → e ≡ out_of_memory
unvalued (inl h) v w = h
unvalued (inr m) v w = absurd (malformed_no m w.1)

pub unvalued_so : {s : LitStr} {e : Refusal} → (e ≡ out_of_memory) ⊎ Malformed s e → (f : Refusal) → Malformed s f → (e ≡ f) ⊎ (e ≡ out_of_memory)
unvalued_so (inl h) f w = inr h
unvalued_so (inr m) f w = inl (malformed_one m w)

-- ---- tokens

tokens_one : {s : LitStr} {a b : Span} {l m : List TokenTree} → HoldsTokens s a l → HoldsTokens s b m → (a ≡ b) × (l ≡ m)
tokens_one {s} {a} {b} {l} {m} h k =
    let e : h.content ≡ k.content = string_one h.is_string k.is_string in
    let t : h.inner ≡ k.inner = spells_one (text_of h.content.held) h.inner k.inner h.spells (subst (λ (c : Content). Spells (text_of c.held) k.inner) (sym e) k.spells) in
    (h.place ∙ ap (λ (c : Content). c.closing) e ∙ sym k.place, h.moved ∙ ap₂ (λ (c : Content) (ts : List TokenTree). moved_trees (move_of c) ts) e t ∙ sym k.moved)

refused_no : {s : LitStr} {a : Span} {l : List TokenTree} {e : Refusal} → Refused s e → HoldsTokens s a l → ⊥
refused_no (malformed m) h = malformed_no m h.is_string
refused_no (suffixed c n) h = n (ap (λ (x : Content). x.suffix) (string_one c h.is_string) ∙ h.bare)
refused_no (inner {c = c} {e = e} i b r) h = spells_no h.spells (subst (λ (x : Content). RefusedText (text_of x.held) e) (string_one i h.is_string) r)

refused_one : {s : LitStr} {e f : Refusal} → Refused s e → Refused s f → e ≡ f
refused_one (malformed m) (malformed n) = malformed_one m n
refused_one (malformed m) (suffixed c n) = absurd (malformed_no m c)
refused_one (malformed m) (inner c b r) = absurd (malformed_no m c)
refused_one (suffixed c n) (malformed m) = absurd (malformed_no m c)
refused_one (inner c b r) (malformed m) = absurd (malformed_no m c)
refused_one (suffixed {c = x} i n) (suffixed {c = y} j k) = let e : x ≡ y = string_one i j in cc
refused_one (suffixed i n) (inner j b r) = absurd (n (ap (λ (x : Content). x.suffix) (string_one i j) ∙ b))
refused_one (inner j b r) (suffixed i n) = absurd (n (ap (λ (x : Content). x.suffix) (string_one i j) ∙ b))
refused_one (inner {c = x} {e = e} i b r) (inner {c = y} {e = f} j d t) =
    let same : x ≡ y = string_one i j in
    let refusal : e ≡ f = refused_one_text r (subst (λ (z : Content). RefusedText (text_of z.held) f) (sym same) t) in
    ap₂ (λ (z : Content) (g : Refusal). moved_refusal (move_of z) g) same refusal

is_memory : {s : LitStr} {e : Refusal} {a : Span} {l : List TokenTree} → (e ≡ out_of_memory) ⊎ Refused s e → HoldsTokens s a l → e ≡ out_of_memory
is_memory (inl m) h = m
is_memory (inr r) h = absurd (refused_no r h)

-- no tokens are read
module _ {A : Type 0} {s : LitStr} {e : Refusal} (no : (e ≡ out_of_memory) ⊎ Refused s e) where
  pub unread_string : (reads : Stream → A → Stream → Type 0) (refuses : Stream → Refusal → Type 0) → ReadsString reads refuses s (Err e)
  unread_string reads refuses a l h k = absurd (k (ap (λ x. x.kind) (is_memory no h)))

  pub unkept_string : (promise : Toks → Option A → Type 0) → KeepsString promise s (Err e)
  unkept_string promise a l h k = absurd (k (ap (λ x. x.kind) (is_memory no h)))

module _ {s : LitStr} {e : Refusal} (no : (e ≡ out_of_memory) ⊎ Refused s e) where
  pub refuses_string : (f : Refusal) → Refused s f → (e ≡ f) ⊎ (e ≡ out_of_memory)
  refuses_string f r = elim no [ inl m ↦ inr m | inr t ↦ inl (refused_one t r) ]

  pub untold_string : (e ≡ out_of_memory) ⊎ Refused s e ⊎ ((closing : Span) × (l : List TokenTree) × HoldsTokens s closing l)
  untold_string = elim no [ inl m ↦ inl m | inr r ↦ inr (inl r) ]

-- these are the tokens
module _ {A : Type 0} {s : LitStr} {a : Span} {l : List TokenTree} (h : HoldsTokens s a l) (r : Result A Refusal) where
  pub reads_string : (reads : Stream → A → Stream → Type 0) (refuses : Stream → Refusal → Type 0) → WholeRead reads refuses (started a (toks l)) r → ReadsString reads refuses s r
  reads_string reads refuses w b m k =
      let e = tokens_one h k in
      subst (λ t. WholeRead reads refuses (started b (toks t)) r) e.1 (subst (λ t. WholeRead reads refuses (started t (toks l)) r) e.0 w)

  pub keeps_string : (promise : Toks → Option A → Type 0) → Promised (promise (toks l)) r → KeepsString promise s r
  keeps_string promise w b m k = subst (λ t. Promised (promise (toks t)) r) (tokens_one h k).1 w

  pub not_refused : (f : Refusal) → Refused s f → RefusedSo f r
  not_refused f t = absurd (refused_no t h)

pub told_string : {A : Type 0} {s : LitStr} {a : Span} {l : List TokenTree} → HoldsTokens s a l → (r : Result A Refusal) → ToldString s r
told_string {a = a} {l = l} h (Ok x) = (a, l, h)
told_string {a = a} {l = l} h (Err e) = inr (inr (a, l, h))

-- what was found, as tokens and as refusals
module _ {s : LitStr} {text : Bytes} {places : List Span} {closing : Span} {suffix : Text} (f : Found s text places closing suffix) where
  same_move : moved places closing ≡ move_of f.content
  same_move = ap₂ (λ (ps : List Span) (c : Span). moved ps c) f.places_are f.closing_is

  pub found_tokens : (inside l : List TokenTree) → suffix ≡ [] → Spells text inside → l ≡ moved_trees (moved places closing) inside → HoldsTokens s closing l
  found_tokens inside l bare spells is = record {
    content = f.content;
    is_string = f.is_string;
    bare = sym f.suffix_is ∙ bare;
    inner = inside;
    spells = subst (λ t. Spells t inside) f.text_is spells;
    moved = is ∙ ap (λ (m : Span → Span). moved_trees m inside) same_move;
    place = f.closing_is;
  }

  -- a refusal of what it holds, moved, or for want of memory
  pub found_refused : (e g : Refusal) → suffix ≡ [] → (e ≡ out_of_memory) ⊎ RefusedText text e → Stored g (moved_refusal (moved places closing) e)
      → (e.kind ≡ OutOfMemory → g ≡ out_of_memory) → (g ≡ out_of_memory) ⊎ Refused s g
  found_refused e g bare (inl h) is memory = inl (memory (ap (λ x. x.kind) h))
  found_refused e g bare (inr r) (inr h) memory = inl h
  found_refused e g bare (inr r) (inl is) memory =
      let refused = inner f.is_string (sym f.suffix_is ∙ bare) (subst (λ t. RefusedText t e) f.text_is r) in
      inr (subst (λ x. Refused s x) (sym (is ∙ ap (λ (m : Span → Span). moved_refusal m e) same_move)) refused)

  pub found_suffixed : (g : Refusal) → ¬ (suffix ≡ []) → Stored g (suffixed_at s suffix) → (g ≡ out_of_memory) ⊎ Refused s g
  found_suffixed g n (inr h) = inl h
  found_suffixed g n (inl h) =
      let refused = suffixed f.is_string (λ e. n (f.suffix_is ∙ e)) in
      inr (subst (λ x. Refused s x) (sym (h ∙ ap (suffixed_at s) f.suffix_is)) refused)

pub malformed_so : {s : LitStr} {e : Refusal} → (e ≡ out_of_memory) ⊎ Malformed s e → (e ≡ out_of_memory) ⊎ Refused s e
malformed_so (inl h) = inl h
malformed_so (inr m) = inr (malformed m)
