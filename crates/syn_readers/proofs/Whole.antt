-- What a whole read prints, by its category.
use Rattle.std.proofs.Common.{◌≡◌, Option, Some, None, Result, Ok, Err, refl, ap, sym, ◌∙◌, subst, inl, inr}
use Rattle.token_core.specs.Trees.{TokenStream}
use Rattle.token_core.specs.Toks.{Toks}
use Rattle.token_core.specs.Refusal.{Refusal}
use Rattle.token_core.specs.Stream.{Stream, started}
use Rattle.token_core.specs.declared.span.Span.{Span}
use Rattle.token_core.specs.Reads.{Reader, Outcome, Ends, Refuses, WholeRead, Promised, Gives, Fails, kept, leaves}
use Rattle.token_core.specs.Headline.{Grammar, Headline, Lawful, Reprinted, end_of, ended}
use Rattle.token_core.proofs.Headlines.{heads}
use Rattle.token_core.specs.Prints.{Print}
use Rattle.syn_readers.specs.Readers.{Category, Reprints, Prints, Shows, Viewed, whole_in}

refuses-whole : {A : Type 0} (f : Reader A) (scope : Span) (l : Toks) (e : Refusal) → Refuses (Gives f) (Fails f) (started scope l) e → whole_in f scope l ≡ Err e
refuses-whole f scope l e (inl h) = ap end_of h
refuses-whole f scope l e (inr (a, at, h, q)) = ap end_of h.read ∙ ap (ended a h.last) h.is ∙ ap Err (sym q)

ends-whole : {A : Type 0} (f : Reader A) (scope : Span) (l : Toks) (a : A) → Ends (Gives f) (started scope l) a None → whole_in f scope l ≡ Ok a
ends-whole f scope l a h = ap end_of h.read ∙ ap (ended a h.last) h.is

pub prints-reprints : {A : Type 0} (C : Category A) (scope : Span) (l : Toks) (r : Result TokenStream Refusal) → Prints (Gives C.reader) (Fails C.reader) C.promise C.print scope l r → Reprints C scope l r
prints-reprints C scope l (Ok s) h = (h.0, ends-whole C.reader scope l h.0 h.1, h.2, h.3)
prints-reprints C scope l (Err e) h = λ k. (refuses-whole C.reader scope l e (h k).0, (h k).1)

-- the same of a view that is printed as it is read again
pub viewed-prints : {A : Type 0} (G : Grammar A) (view : A → A) → ((a : A) → G.plain a → Reprinted G (view a)) → (print : A → Print) (scope : Span) (l : Toks) (r : Result TokenStream Refusal) → Prints (Gives G.reader) (Fails G.reader) (Headline G) print scope l r →
    Prints (Gives G.reader) (Fails G.reader) (Viewed G view) print scope l r
viewed-prints G view law print scope l (Ok s) h = (h.0, h.1, (h.2, law h.0), h.3)
viewed-prints G view law print scope l (Err e) h = h

-- what a whole read refuses, a print of its answer refuses
pub refused-prints : {A : Type 0} (reads : Stream → A → Stream → Type 0) (refuses : Stream → Refusal → Type 0) (promise : Toks → Option A → Type 0) (print : A → Print) (scope : Span) (l : Toks) (r : Result A Refusal) (s : Result TokenStream Refusal) (e : Refusal) → r ≡ Err e → s ≡ Err e → WholeRead reads refuses (started scope l) r → Promised (promise l) r → Prints reads refuses promise print scope l s
refused-prints reads refuses promise print scope l r s e hr hs w p =
    subst (λ z. Prints reads refuses promise print scope l z) (sym hs) (λ k. (subst (λ z. WholeRead reads refuses (started scope l) z) hr w k, subst (λ z. Promised (promise l) z) hr p k))

shows-refused : {A : Type 0} (C : Category A) (scope : Span) (l : Toks) (e : Refusal) → Refuses (Shows C) (Fails C.reader) (started scope l) e → whole_in C.reader scope l ≡ Err e
shows-refused C scope l e (inl h) = ap end_of h
shows-refused C scope l e (inr (o, at, h, q)) = ap end_of h.read.1 ∙ ap (ended h.read.0 h.last) h.is ∙ ap Err (sym q)

same_answer : {A : Type 0} (a b : A) → ◌≡◌ {A = Result A Refusal} (Ok a) (Ok b) → a ≡ b
same_answer a b e = cc

-- a whole read answers where the read does and leaves nothing over
read_whole : {A : Type 0} (f : Reader A) (s : Stream) (o : Outcome A) (a : A) → f s ≡ o → end_of o ≡ Ok a → (t : Stream) × (f s ≡ Ok (a, t)) × (leaves t ≡ None)
read_whole {A = A} f s (Err e) a h k = cc k
read_whole {A = A} f s (Ok (b, t)) a h k = at (leaves t) refl k
  where
    at : (x : Option Span) → leaves t ≡ x → ended b t x ≡ Ok a → (u : Stream) × (f s ≡ Ok (a, u)) × (leaves u ≡ None)
    at None n e = (t, h ∙ ap (λ (z : A). Ok (z, t)) (same_answer b a e), n)
    at (Some z) n e = cc e

-- a read that meets the laws keeps the whole promise: of an answer
pub lawful-keeps : {A : Type 0} (G : Grammar A) → Lawful G → (scope : Span) (l : Toks) (a : A) → whole_in G.reader scope l ≡ Ok a → Headline G l (Some a)
lawful-keeps G h scope l a e =
    let k = read_whole G.reader (started scope l) (G.reader (started scope l)) a refl e in
    subst (λ o. Headline G l (kept a o)) k.2 (heads G h (started scope l) k.0 (Ok a) k.1 refl)

-- and of a refusal
pub lawful-refuses : {A : Type 0} (G : Grammar A) → Lawful G → (scope : Span) (l : Toks) (e : Refusal) → whole_in G.reader scope l ≡ Err e → Headline G l None
lawful-refuses {A = A} G h scope l e r v b i =
    let k = h.complete (started scope l) b refl v i in
    let w : ◌≡◌ {A = Result A Refusal} (Ok b) (Err e) = sym (ap end_of k.1 ∙ ap (ended b k.0) k.2) ∙ r in
    absurd (cc)

-- what a whole read shows, by a category that keeps its promise of each answer and of each refusal
pub shows-reprints : {A : Type 0} (C : Category A) (scope : Span) (l : Toks) (keeps : (a : A) → whole_in C.reader scope l ≡ Ok a → C.promise l (Some a)) (refuses : (e : Refusal) → whole_in C.reader scope l ≡ Err e → C.promise l None) (r : Result TokenStream Refusal) →
    WholeRead (Shows C) (Fails C.reader) (started scope l) r → Reprints C scope l r
shows-reprints C scope l keeps refuses (Ok s) h =
    let e = ap end_of h.read.1 ∙ ap (ended h.read.0 h.last) h.is in
    (h.read.0, e, keeps h.read.0 e, h.read.2)
shows-reprints C scope l keeps refuses (Err e) h = λ k. let r = shows-refused C scope l e (h k) in (r, refuses e r)
