-- The path of a nested property is read as the grammar spells it, and where none begins, the read is refused as it says.
use Rattle.std.proofs.Common.{◌≡◌, ◌≢◌, ◌⊎◌, ◌<◌, ◌≤◌, ◌==◌, ℕ, zero, suc, Bool, true, false, if◌then◌else◌, List, [], ◌∷◌, length, Option, Some, None, is_some, Ok, Err, inl, inr, refl, sym, ◌∙◌, ap, subst, arith}
use Rattle.std.proofs.lemmas.Bool.{eqb-true}
use Rattle.token_core.specs.declared.error.ErrorKind.{ErrorKind}
use Rattle.token_core.specs.declared.error.ErrorKind.TheVariants.{ExpectedNestedAttribute, LiteralInNestedAttribute, TokenInNestedAttribute}
use Rattle.token_core.specs.declared.lit.Lit.{Lit}
use Rattle.token_core.specs.declared.lit.Lit.TheVariants as v
use Rattle.token_core.specs.declared.mark.Spans.{Spans}
use Rattle.token_core.specs.declared.span.Span.{Span}
use Rattle.token_core.specs.declared.tree.Ident.{Ident}
use Rattle.token_core.specs.declared.tree.Literal.{Literal}
use Rattle.token_core.specs.declared.tree.Punct.{Punct}
use Rattle.token_core.specs.declared.tree.Spacing.{Spacing}
use Rattle.token_core.specs.declared.tree.Spacing.TheVariants.{Joint}
use Rattle.token_core.specs.Front.{front}
use Rattle.token_core.specs.Lits.{is_number, lit_at, negative, past_number, sees_lit}
use Rattle.token_core.specs.Loops.{size, Many, joined_from, listed}
use Rattle.token_core.specs.Marks.{mark_name}
use Rattle.token_core.specs.Reads as reads
use Rattle.token_core.specs.Reads.{Outcome, Reader, and_then, any_text, as_lit, as_punct, as_word, expected, here, ident_name, is_done, is_end, is_joint}
use Rattle.token_core.specs.Reads.{next_word, past, past_mark, past_next, put_first, read_mark, read_word, refused, sees_mark, sees_word, three, word_if, word_meets, word_past}
use Rattle.token_core.specs.Refusal.{Refusal, fixed}
use Rattle.token_core.specs.Stream.{Scope, Stream}
use Rattle.token_core.specs.Toks.{Bytes, Toks, done, word, mark, lit, group, enter, leave}
use Rattle.token_core.specs.Trees.{punct}
use Rattle.token_core.proofs.MarkSpells.{joint_is}
use Rattle.token_core.proofs.Steps.{link, chosen, Reads_to}
use Rattle.token_core.proofs.Suffixes.{suffix_mark}
use Rattle.token_core.proofs.Took.{at}
use Rattle.token_core.proofs.Turns.{same_pair, size_suffix, size_word}
use Rattle.syn_path.specs.declared.path.SegmentStyle.TheVariants.{Nested}
use Rattle.syn_path.specs.path.Paths.{Sep, ModPath, ModSegment, last_span, nothing, path_of, segment_of}
use Rattle.syn_path.specs.path.Reading.{bare_path, bare_segment, bare_segments, begins, leading, nested, no_property, no_segment, sees_sep, sep}
use Rattle.syn_path.specs.path.Spelling.{sep_at, sep_chars}
use Rattle.syn_attr.specs.meta.Spelling as spelling
use Rattle.syn_attr.specs.meta.Spelling.{IsSep, is_sep, IsLeading, no_leading, AreSegments, last_segment, more_segments, IsPropertyPath, a_property_path, BeginsLit, a_token, a_negative}
use Rattle.syn_attr.specs.meta.Spelling.{NoFirst, nothing_left, a_literal, another, NoSep, NoWord, Breaks, NoPath, no_first, breaks_off, before, past_path}

pub no : {P : Type 0} → false ≡ true → P
no h = cc h

-- ---- identifiers

segment_there : (b : Bool) (s : Stream) (i : Ident) (r : Toks) → front s.rest ≡ word i r → bare_segment nothing Nested b s ≡ Ok (segment_of nothing i, past s r i.span)
unfolding bare_segment read_word next_word sees_word
segment_there b s i r h =
    chosen (begins Nested s.rest) true _ _ s _ (ap (λ z. word_meets any_text (as_word z)) h)
    (link _ (ap (λ z. word_if any_text (expected ident_name s) (word_past s (as_word z))) h) refl)

word_none : (l x : Toks) → front l ≡ x → NoWord l → as_word x ≡ None
word_none l done h n = refl
word_none l (word i k) h n = absurd (n i k h)
word_none l (mark p k) h n = refl
word_none l (lit x k) h n = refl
word_none l (group d s c k) h n = refl
word_none l (enter s k) h n = refl
word_none l (leave k) h n = refl

segment_none : (b : Bool) (s : Stream) → NoWord s.rest → bare_segment nothing Nested b s ≡ Err (no_segment Nested b s)
unfolding bare_segment sees_word
segment_none b s n = chosen (begins Nested s.rest) false _ _ s _ (ap (word_meets any_text) (word_none s.rest (front s.rest) refl n)) refl

word_front : (l x : Toks) (i : Ident) (r : Toks) → front l ≡ x → as_word x ≡ Some (i, r) → front l ≡ word i r
word_front l done i r h e = cc e
word_front l (word j k) i r h e = let w : ◌≡◌ {A = Ident × Toks} (j, k) (i, r) = cc e in h ∙ ap (λ (z : Ident × Toks). word z.0 z.1) w
word_front l (mark p k) i r h e = cc e
word_front l (lit x k) i r h e = cc e
word_front l (group d s c k) i r h e = cc e
word_front l (enter s k) i r h e = cc e
word_front l (leave k) i r h e = cc e

no_words : (l : Toks) → as_word (front l) ≡ None → NoWord l
no_words l e i r h = let w : ◌≡◌ {A = Option (Ident × Toks)} None (Some (i, r)) = sym e ∙ ap as_word h in cc w

-- ---- marks

pub record Char (c : ℕ) (l : Toks) (q : Spans × Toks) : Type 0 where
  pub span : Span
  pub spacing : Spacing
  pub is : front l ≡ mark (punct c spacing span) q.1
  pub spans : three span span span ≡ q.0

char_if : (c : ℕ) (p : Punct) (l k : Toks) (q : Spans × Toks) (b : Bool) → front l ≡ mark p k → (p.ch == c) ≡ b → ◌≡◌ {A = Option (Spans × Toks)} (if b then Some (three p.span p.span p.span, k) else None) (Some q) → Char c l q
char_if c p l k q true f h e =
    let w : ◌≡◌ {A = Spans × Toks} (three p.span p.span p.span, k) q = cc e in
    record {
      span = p.span;
      spacing = p.spacing;
      is = f ∙ ap (λ n. mark (punct n p.spacing p.span) k) (eqb-true p.ch c h) ∙ ap (λ (z : Spans × Toks). mark (punct c p.spacing p.span) z.1) w;
      spans = ap (λ (z : Spans × Toks). z.0) w;
    }
char_if c p l k q false f h e = cc e

pub char_at : (c : ℕ) (l x : Toks) (q : Spans × Toks) → front l ≡ x → past_next c true (past_mark []) (as_punct x) ≡ Some q → Char c l q
char_at c l done q h e = cc e
char_at c l (word i k) q h e = cc e
char_at c l (mark p k) q h e = char_if c p l k q (p.ch == c) h refl e
char_at c l (lit x k) q h e = cc e
char_at c l (group d s y k) q h e = cc e
char_at c l (enter s k) q h e = cc e
char_at c l (leave k) q h e = cc e

record Colons (l : Toks) (q : Spans × Toks) : Type 0 where
  first : Span
  second : Span
  spelt : IsSep (sep_at first second) l q.1

colons_put : (p : Punct) (l k : Toks) (q : Spans × Toks) (o : Option (Spans × Toks)) → front l ≡ mark p k → p.ch ≡ 58 → p.spacing ≡ Joint → past_mark (58 ∷ []) k ≡ o → put_first p.span o ≡ Some q → Colons l q
colons_put p l k q None f h j g e = cc e
colons_put p l k q (Some z) f h j g e =
    let c = char_at 58 k (front k) z refl g in
    let w : ◌≡◌ {A = Spans × Toks} (three p.span z.0.first z.0.second, z.1) q = cc e in
    record {
      first = p.span;
      second = c.span;
      spelt = subst (λ (y : Spans × Toks). IsSep (sep_at p.span c.span) l y.1) w
          (is_sep (f ∙ ap (λ n. mark (punct n p.spacing p.span) k) h ∙ ap (λ n. mark (punct 58 n p.span) k) j) c.is);
    }

colons_if : (p : Punct) (l k : Toks) (q : Spans × Toks) (b j : Bool) → front l ≡ mark p k → (p.ch == 58) ≡ b → is_joint p.spacing ≡ j →
    ◌≡◌ {A = Option (Spans × Toks)} (if b then (if j then put_first p.span (past_mark (58 ∷ []) k) else None) else None) (Some q) → Colons l q
colons_if p l k q true true f h g e = colons_put p l k q (past_mark (58 ∷ []) k) f (eqb-true p.ch 58 h) (joint_is p.spacing g) refl e
colons_if p l k q true false f h g e = cc e
colons_if p l k q false j f h g e = cc e

colons_at : (l x : Toks) (q : Spans × Toks) → front l ≡ x → past_next 58 false (past_mark (58 ∷ [])) (as_punct x) ≡ Some q → Colons l q
colons_at l done q h e = cc e
colons_at l (word i k) q h e = cc e
colons_at l (mark p k) q h e = colons_if p l k q (p.ch == 58) (is_joint p.spacing) h refl refl e
colons_at l (lit x k) q h e = cc e
colons_at l (group d s y k) q h e = cc e
colons_at l (enter s k) q h e = cc e
colons_at l (leave k) q h e = cc e

-- what `::` is read as
colons : (l : Toks) (q : Spans × Toks) → past_mark sep_chars l ≡ Some q → Colons l q
colons l q e = colons_at l (front l) q refl e

colons_past : (a b : Span) (j : Spacing) (l m r : Toks) → front l ≡ mark (punct 58 Joint a) m → front m ≡ mark (punct 58 j b) r → past_mark sep_chars l ≡ Some (three a b b, r)
colons_past a b j l m r h k =
    ap (λ z. past_next 58 false (past_mark (58 ∷ [])) (as_punct z)) h ∙ ap (λ z. put_first a (past_next 58 true (past_mark []) (as_punct z))) k

sep_there : (p : Sep) (l r : Toks) → IsSep p l r → sees_sep l ≡ true
unfolding sees_mark
sep_there p l r (is_sep {a = a} {b = b} {j = j} {m = m} h k) = ap is_some (colons_past a b j l m r h k)

sep_none : (l : Toks) → NoSep l → sees_sep l ≡ false
unfolding sees_mark
sep_none l n = by_spans (past_mark sep_chars l) refl
  where
    by_spans : (o : Option (Spans × Toks)) → past_mark sep_chars l ≡ o → is_some o ≡ false
    by_spans None h = refl
    by_spans (Some q) h = let c = colons l q h in absurd (n (sep_at c.first c.second) q.1 c.spelt)

no_seps : (l : Toks) → past_mark sep_chars l ≡ None → NoSep l
no_seps l e p r (is_sep {a = a} {b = b} {j = j} {m = m} h k) =
    let w : ◌≡◌ {A = Option (Spans × Toks)} None (Some (three a b b, r)) = sym e ∙ colons_past a b j l m r h k in cc w

-- it is read, and the stream stands after it
sep_reads : (p : Sep) (l r : Toks) (f : Option Span) (e : Span) (sc : Scope) → IsSep p l r → Reads_to sep p l r f e sc
unfolding read_mark
sep_reads p l r f e sc (is_sep {a = a} {b = b} {j = j} {m = m} h k) = record {
  last = b;
  reads = link _ (ap (reads.goes_on (λ (z : Spans). z.third) (expected (mark_name 1) (at l f e sc)) (at l f e sc)) (colons_past a b j l m r h k)) refl;
}

sep_size : (p : Sep) (l r : Toks) → IsSep p l r → size r ≤ size l
sep_size p l r (is_sep {a = a} {b = b} {j = j} {m = m} h k) = size_suffix (suffix_mark sep_chars l (three a b b, r) (colons_past a b j l m r h k))

word_size : (i : Ident) (l r : Toks) → front l ≡ word i r → size r < size l
word_size i l r h = size_word l (i, r) (ap as_word h)

-- ---- refusals

-- they don't depend on what was before
moved : (k : ErrorKind) (t : Bytes) (l : Toks) (f h : Option Span) (e g : Span) (sc : Scope) → refused k t (at l f e sc) ≡ refused k t (at l h g sc)
unfolding refused here
moved k t l f h e g sc = refl

pub stop : {A B : Type 0} {o : Outcome A} {e : Refusal} (f : A → Reader B) → o ≡ Err e → and_then o f ≡ Err e
stop f h = ap (λ z. and_then z f) h

later_segment : (s : Stream) → no_segment Nested false s ≡ expected ident_name s
unfolding no_segment
later_segment s = refl

first_segment : (s : Stream) → no_segment Nested true s ≡ no_property s
unfolding no_segment
first_segment s = refl

pub not_done : (x : Toks) → x ≢ done → is_end x ≡ false
not_done done h = absurd (h refl)
not_done (word i k) h = refl
not_done (mark p k) h = refl
not_done (lit x k) h = refl
not_done (group d s c k) h = refl
not_done (enter s k) h = refl
not_done (leave k) h = refl

abbrev minus_at : Span → Bool → Toks → Option (Lit × Toks)
minus_at a true x = past_number a (as_lit x)
minus_at a false x = None

minus_is : (p : Punct) (k : Toks) (b : Bool) → (p.ch == 45) ≡ b → lit_at (mark p k) ≡ minus_at p.span b (front k)
minus_is p k b e = by_test b e
  where
    by_test : (c : Bool) → (p.ch == 45) ≡ c → lit_at (mark p k) ≡ minus_at p.span c (front k)
    by_test true h = ap (λ (z : Bool). let o : Option (Lit × Toks) = None in if z then past_number p.span (as_lit (front k)) else o) h
    by_test false h = ap (λ (z : Bool). let o : Option (Lit × Toks) = None in if z then past_number p.span (as_lit (front k)) else o) h

number_at : (a : Span) (y : Literal) (r : Toks) (b : Bool) → is_number y.kind ≡ b → is_some (past_number a (Some (y, r))) ≡ b
number_at a y r true h = ap (λ (z : Bool). let o : Option (Lit × Toks) = None in is_some (if z then Some (v.Negative (negative a y), r) else o)) h
number_at a y r false h = ap (λ (z : Bool). let o : Option (Lit × Toks) = None in is_some (if z then Some (v.Negative (negative a y), r) else o)) h

-- a minus before a number begins a literal, and what is seen as one does
number_begins : (p : Punct) (l k x : Toks) (b : Bool) → front l ≡ mark p k → (p.ch == 45) ≡ b → front k ≡ x → is_some (minus_at p.span b x) ≡ true → BeginsLit l
number_begins p l k x false h e f s = no s
number_begins p l k (lit y r) true h e f s =
    a_negative {a = p.span} {j = p.spacing} (h ∙ ap (λ z. mark (punct z p.spacing p.span) k) (eqb-true p.ch 45 e)) f (by_kind (is_number y.kind) refl)
  where
    by_kind : (b : Bool) → is_number y.kind ≡ b → is_number y.kind ≡ true
    by_kind true g = g
    by_kind false g = no (sym (number_at p.span y r false g) ∙ s)
number_begins p l k done true h e f s = no s
number_begins p l k (word i r) true h e f s = no s
number_begins p l k (mark q r) true h e f s = no s
number_begins p l k (group d s c r) true h e f z = no z
number_begins p l k (enter s r) true h e f z = no z
number_begins p l k (leave r) true h e f z = no z

lit_begins : (l x : Toks) → front l ≡ x → as_word x ≡ None → is_some (lit_at x) ≡ true → BeginsLit l
lit_begins l done h w s = no s
lit_begins l (word i k) h w s = cc w
lit_begins l (mark p k) h w s = number_begins p l k (front k) (p.ch == 45) h refl refl (ap is_some (sym (minus_is p k (p.ch == 45) refl)) ∙ s)
lit_begins l (lit x k) h w s = a_token h
lit_begins l (group d s c k) h w z = no z
lit_begins l (enter s k) h w z = no z
lit_begins l (leave k) h w z = no z

no_lit : (l : Toks) → NoWord l → (BeginsLit l → ⊥) → is_some (lit_at (front l)) ≡ false
no_lit l w n = by_test (is_some (lit_at (front l))) refl
  where
    by_test : (b : Bool) → is_some (lit_at (front l)) ≡ b → b ≡ false
    by_test true h = absurd (n (lit_begins l (front l) refl (word_none l (front l) refl w) h))
    by_test false h = refl

number_there : (a : Span) (x : Literal) (m r : Toks) → front m ≡ lit x r → is_number x.kind ≡ true → is_some (past_number a (as_lit (front m))) ≡ true
number_there a x m r h k =
    ap (λ z. is_some (past_number a (as_lit z))) h ∙ ap (λ (b : Bool). let o : Option (Lit × Toks) = None in is_some (if b then Some (v.Negative (negative a x), r) else o)) k

lit_there : (l : Toks) → BeginsLit l → (is_end (front l) ≡ false) × (is_some (lit_at (front l)) ≡ true)
lit_there l (a_token h) = (ap is_end h, ap (λ z. is_some (lit_at z)) h)
lit_there l (a_negative {x = x} {a = a} {m = m} {r = r} h k n) = (ap is_end h, ap (λ z. is_some (lit_at z)) h ∙ number_there a x m r k n)

abbrev refusal_by : Bool → Bool → Stream → Refusal
refusal_by true b s = refused ExpectedNestedAttribute (fixed ExpectedNestedAttribute) s
refusal_by false true s = refused LiteralInNestedAttribute (fixed LiteralInNestedAttribute) s
refusal_by false false s = refused TokenInNestedAttribute (fixed TokenInNestedAttribute) s

refusal_is : (s : Stream) → no_property s ≡ refusal_by (is_end (front s.rest)) (is_some (lit_at (front s.rest))) s
unfolding no_property is_done sees_lit
refusal_is s = by_tests (is_end (front s.rest)) (is_some (lit_at (front s.rest)))
  where
    by_tests : (a b : Bool) → (if a then refused ExpectedNestedAttribute (fixed ExpectedNestedAttribute) s else (
        if b then refused LiteralInNestedAttribute (fixed LiteralInNestedAttribute) s else refused TokenInNestedAttribute (fixed TokenInNestedAttribute) s)) ≡ refusal_by a b s
    by_tests true b = refl
    by_tests false true = refl
    by_tests false false = refl

first_refused : (s : Stream) (k : ErrorKind) → NoFirst s.rest k → no_property s ≡ refused k (fixed k) s
first_refused s k (nothing_left h) = refusal_is s ∙ ap (λ z. refusal_by (is_end z) (is_some (lit_at (front s.rest))) s) h
first_refused s k (a_literal h) = let w = lit_there s.rest h in refusal_is s ∙ ap (λ b. refusal_by b (is_some (lit_at (front s.rest))) s) w.0 ∙ ap (λ b. refusal_by false b s) w.1
first_refused s k (another h w n) =
    refusal_is s ∙ ap (λ b. refusal_by b (is_some (lit_at (front s.rest))) s) (not_done (front s.rest) h) ∙ ap (λ b. refusal_by false b s) (no_lit s.rest w n)

no_first_word : (l : Toks) (k : ErrorKind) → NoFirst l k → NoWord l
no_first_word l k (nothing_left h) i r e = let w : ◌≡◌ {A = Toks} done (word i r) = sym h ∙ e in cc w
no_first_word l k (a_literal (a_token {x = x} {r = q} h)) i r e = let w : ◌≡◌ {A = Toks} (lit x q) (word i r) = sym h ∙ e in cc w
no_first_word l k (a_literal (a_negative {a = a} {j = j} {m = m} h f n)) i r e = let w : ◌≡◌ {A = Toks} (mark (punct 45 j a) m) (word i r) = sym h ∙ e in cc w
no_first_word l k (another h w n) i r e = w i r e

-- ---- segments

abbrev Goes : ℕ → Bool → Reader (Many ModSegment Sep)
Goes = joined_from (bare_segment nothing Nested) sees_sep sep

last_any : (all : List ModSegment) (seps : List Sep) (l r : Toks) (e g : Span) → AreSegments all seps l r → last_span all e ≡ last_span all g
last_any all seps l r e g (last_segment h) = refl
last_any all seps l r e g (more_segments h c k) = refl

segments_read : (n : ℕ) (b : Bool) (all : List ModSegment) (seps : List Sep) (l r : Toks) (f : Option Span) (e : Span) (sc : Scope) → size l < n → AreSegments all seps l r → NoSep r →
    Goes n b (at l f e sc) ≡ Ok ((all, seps), at r f (last_span all e) sc)
segments_read zero b all seps l r f e sc h i s = absurd (omega (arith, h))
segments_read (suc n) b all seps l r f e sc h (last_segment {i = i} w) s =
    link _ (segment_there b (at l f e sc) i r w) (chosen (sees_sep r) false _ _ (at r f i.span sc) _ (sep_none r s) refl)
segments_read (suc n) b all seps l r f e sc h (more_segments {i = i} {p = p} {all = xs} {seps = ps} {m = m} {n = k} w c more) s =
    let z = sep_reads p m k f i.span sc c in
    let a = word_size i l m w in
    let d = sep_size p m k c in
    let q = segments_read n false xs ps k r f z.last sc (omega (arith, h, a, d)) more s in
    link _ (segment_there b (at l f e sc) i m w) (chosen (sees_sep m) true _ _ (at m f i.span sc) _ (sep_there p m k c) (link _ z.reads (link _ q refl)))
    ∙ ap (λ y. Ok ((segment_of nothing i ∷ xs, p ∷ ps), at r f y sc)) (last_any xs ps k r z.last i.span more)

segments_refused : (n : ℕ) (l r : Toks) (f h : Option Span) (e g : Span) (sc : Scope) → size l < n → Breaks l r → Goes n false (at l f e sc) ≡ Err (expected ident_name (at r h g sc))
segments_refused zero l r f h e g sc less i = absurd (omega (arith, less))
segments_refused (suc n) l r f h e g sc less (spelling.no_word w) =
    stop _ (segment_none false (at l f e sc) w ∙ ap Err (later_segment (at l f e sc) ∙ moved _ _ l f h e g sc))
segments_refused (suc n) l r f h e g sc less (spelling.past_word {i = i} {p = p} {m = m} {n = k} w c more) =
    let z = sep_reads p m k f i.span sc c in
    let a = word_size i l m w in
    let d = sep_size p m k c in
    link _ (segment_there false (at l f e sc) i m w) (chosen (sees_sep m) true _ _ (at m f i.span sc) _ (sep_there p m k c)
    (link _ z.reads (stop _ (segments_refused n k r f h z.last g sc (omega (arith, less, a, d)) more))))

-- ---- paths

leading_reads : (o : Option Sep) (l r : Toks) (f : Option Span) (e : Span) (sc : Scope) → IsLeading o l r → Reads_to leading o l r f e sc
unfolding leading
leading_reads o l r f e sc (no_leading n) = record { last = e; reads = chosen (sees_sep l) false _ _ (at l f e sc) _ (sep_none l n) refl }
leading_reads o l r f e sc (spelling.leading {p = p} c) =
    let z = sep_reads p l r f e sc c in
    record { last = z.last; reads = chosen (sees_sep l) true _ _ (at l f e sc) _ (sep_there p l r c) (link _ z.reads refl) }

-- Where the grammar spells the front of a list as a path with which no `::` goes on, the reader answers that path and stands after it.
pub path_complete : (p : ModPath) (s : Stream) (r : Toks) → IsPropertyPath p s.rest r → NoSep r → nested s ≡ Ok (p, past_path s p r)
unfolding bare_path bare_segments listed
path_complete p s r (a_property_path {o = o} {all = all} {seps = seps} {m = m} i k) n =
    let z = leading_reads o s.rest m s.left s.last s.scope i in
    link _ z.reads (link _ (segments_read (suc (size m)) true all seps m r s.left z.last s.scope (omega arith) k n) refl)
    ∙ ap (λ y. Ok (path_of o (all, seps), at r s.left y s.scope)) (last_any all seps m r z.last s.last k)

-- Where no path begins, the read is refused as it says.
pub path_refused : (s : Stream) (e : Refusal) → NoPath s e → nested s ≡ Err e
unfolding bare_path bare_segments listed
path_refused s e (no_first {o = o} {k = k} {l = l} i h) =
    let z = leading_reads o s.rest l s.left s.last s.scope i in
    let u = at l s.left z.last s.scope in
    link _ z.reads (stop _ (stop _ (segment_none true u (no_first_word l k h)
    ∙ ap Err (first_segment u ∙ first_refused u k h ∙ moved k (fixed k) l s.left s.left z.last s.last s.scope))))
path_refused s e (breaks_off {o = o} {i = i} {p = p} {l = l} {m = m} {n = k} {r = r} j w c more) =
    let z = leading_reads o s.rest l s.left s.last s.scope j in
    let y = sep_reads p m k s.left i.span s.scope c in
    let a = word_size i l m w in
    let d = sep_size p m k c in
    link _ z.reads (stop _ (link _ (segment_there true (at l s.left z.last s.scope) i m w) (chosen (sees_sep m) true _ _ (at m s.left i.span s.scope) _ (sep_there p m k c)
    (link _ y.reads (stop _ (segments_refused (size l) k r s.left s.left y.last s.last s.scope (omega (arith, a, d)) more))))))

-- ---- a path begins, or none

pub end_is : (x : Toks) → is_end x ≡ true → x ≡ done
end_is done h = refl
end_is (word i k) h = no h
end_is (mark p k) h = no h
end_is (lit x k) h = no h
end_is (group d s c k) h = no h
end_is (enter s k) h = no h
end_is (leave k) h = no h

first_at : (l : Toks) → as_word (front l) ≡ None → (k : ErrorKind) × NoFirst l k
first_at l n = by_tests (is_end (front l)) (is_some (lit_at (front l))) refl refl
  where
    by_tests : (a b : Bool) → is_end (front l) ≡ a → is_some (lit_at (front l)) ≡ b → (k : ErrorKind) × NoFirst l k
    by_tests true b h g = (ExpectedNestedAttribute, nothing_left (end_is (front l) h))
    by_tests false true h g = (LiteralInNestedAttribute, a_literal (lit_begins l (front l) refl n g))
    by_tests false false h g = (TokenInNestedAttribute, another (λ e. no (sym h ∙ ap is_end e)) (no_words l n) (λ i. no (sym g ∙ (lit_there l i).1)))

record Segments (l : Toks) : Type 0 where
  all : List ModSegment
  seps : List Sep
  rest : Toks
  spelt : AreSegments all seps l rest
  apart : NoSep rest

record Broken (m : Toks) : Type 0 where
  colons : Sep
  after : Toks
  end : Toks
  spelt : IsSep colons m after
  breaks : Breaks after end

abbrev Ways : Toks → Type 0
Ways l = Segments l ⊎ ((r : Toks) × Breaks l r)

after_word : (i : Ident) (l m : Toks) → front l ≡ word i m → ((q : Toks) → size q ≤ size m → Ways q) → (o : Option (Spans × Toks)) → past_mark sep_chars m ≡ o → Segments l ⊎ Broken m
after_word i l m h further None k = inl (record { all = segment_of nothing i ∷ []; seps = []; rest = m; spelt = last_segment h; apart = no_seps m k })
after_word i l m h further (Some q) k =
    let c = colons m q k in
    elim (further q.1 (size_suffix (suffix_mark sep_chars m q k))) [
      | inl w ↦ inl (record { all = segment_of nothing i ∷ w.all; seps = sep_at c.first c.second ∷ w.seps; rest = w.rest; spelt = more_segments h c.spelt w.spelt; apart = w.apart })
      | inr b ↦ inr (record { colons = sep_at c.first c.second; after = q.1; end = b.0; spelt = c.spelt; breaks = b.1 })
    ]

at_word : (l : Toks) → ((q : Toks) → size q < size l → Ways q) → (o : Option (Ident × Toks)) → as_word (front l) ≡ o → Ways l
at_word l further None h = inr (l, spelling.no_word (no_words l h))
at_word l further (Some p) h =
    let w = word_front l (front l) p.0 p.1 refl h in
    let a = word_size p.0 l p.1 w in
    elim (after_word p.0 l p.1 w (λ q le. further q (omega (arith, a, le))) (past_mark sep_chars p.1) refl) [
      | inl s ↦ inl s
      | inr b ↦ inr (b.end, spelling.past_word w b.spelt b.breaks)
    ]

ways_from : (n : ℕ) (l : Toks) → size l < n → Ways l
ways_from zero l h = absurd (omega (arith, h))
ways_from (suc n) l h = at_word l (λ q less. ways_from n q (omega (arith, h, less))) (as_word (front l)) refl

leading_at : (l : Toks) (q : Option (Spans × Toks)) → past_mark sep_chars l ≡ q → (o : Option Sep) × (m : Toks) × IsLeading o l m
leading_at l None h = (None, l, no_leading (no_seps l h))
leading_at l (Some q) h = let c = colons l q h in (Some (sep_at c.first c.second), q.1, spelling.leading c.spelt)

record PathAt (s : Stream) : Type 0 where
  path : ModPath
  rest : Toks
  spelt : IsPropertyPath path s.rest rest
  apart : NoSep rest

first_ways : (s : Stream) (o : Option Sep) (l : Toks) (i : IsLeading o s.rest l) (w : Option (Ident × Toks)) → as_word (front l) ≡ w → PathAt s ⊎ ((e : Refusal) × NoPath s e)
first_ways s o l i None h = let k = first_at l h in inr (refused k.0 (fixed k.0) (before s l), no_first i k.1)
first_ways s o l i (Some p) h =
    let w = word_front l (front l) p.0 p.1 refl h in
    elim (after_word p.0 l p.1 w (λ q le. ways_from (suc (size q)) q (omega arith)) (past_mark sep_chars p.1) refl) [
      | inl k ↦ inl (record { path = path_of o (k.all, k.seps); rest = k.rest; spelt = a_property_path i k.spelt; apart = k.apart })
      | inr b ↦ inr (expected ident_name (before s b.end), breaks_off i w b.spelt b.breaks)
    ]

ways : (s : Stream) → PathAt s ⊎ ((e : Refusal) × NoPath s e)
ways s = let k = leading_at s.rest (past_mark sep_chars s.rest) refl in first_ways s k.0 k.1 k.2 (as_word (front k.1)) refl

pub record Spells (s t : Stream) (p : ModPath) : Type 0 where
  pub spelt : IsPropertyPath p s.rest t.rest
  pub apart : NoSep t.rest
  pub stands : t ≡ past_path s p t.rest

-- Where the reader answers, the path spells what was taken, no `::` goes on with it, and the stream stands after it.
pub path_sound : (s t : Stream) (p : ModPath) → nested s ≡ Ok (p, t) → Spells s t p
path_sound s t p h =
    elim (ways s) [
      | inl k ↦ let w = same_pair k.path p (past_path s k.path k.rest) t (sym (path_complete k.path s k.rest k.spelt k.apart) ∙ h) in
          record {
            spelt = subst (λ z. IsPropertyPath z s.rest t.rest) w.0 (subst (λ (z : Stream). IsPropertyPath k.path s.rest z.rest) w.1 k.spelt);
            apart = subst (λ (z : Stream). NoSep z.rest) w.1 k.apart;
            stands = sym w.1 ∙ ap (λ z. past_path s z k.rest) w.0 ∙ ap (λ (z : Stream). past_path s p z.rest) w.1;
          }
      | inr k ↦ let w : ◌≡◌ {A = Outcome ModPath} (Err k.0) (Ok (p, t)) = sym (path_refused s k.0 k.1) ∙ h in cc w
    ]

-- Where the read is refused, no path begins, as it says.
pub refused_sound : (s : Stream) (e : Refusal) → nested s ≡ Err e → NoPath s e
refused_sound s e h =
    elim (ways s) [
      | inl k ↦ let w : ◌≡◌ {A = Outcome ModPath} (Ok (k.path, past_path s k.path k.rest)) (Err e) = sym (path_complete k.path s k.rest k.spelt k.apart) ∙ h in cc w
      | inr k ↦ let w : ◌≡◌ {A = Outcome ModPath} (Err k.0) (Err e) = sym (path_refused s k.0 k.1) ∙ h in
          let u : k.0 ≡ e = cc w in subst (NoPath s) u k.1
    ]

segments_some : (all : List ModSegment) (seps : List Sep) (l r : Toks) → AreSegments all seps l r → 0 < length all
segments_some all seps l r (last_segment h) = omega arith
segments_some all seps l r (more_segments h c k) = omega arith

-- it has a segment
pub path_some : (p : ModPath) (l r : Toks) → IsPropertyPath p l r → 0 < length p.segments.0
path_some p l r (a_property_path {all = all} {seps = seps} {m = m} i k) = segments_some all seps m r k
