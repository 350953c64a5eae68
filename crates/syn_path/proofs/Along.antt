-- Where a read answers, the stream stands further on: reads of tokens, of groups and of lists, and reads that are put together of such.
use Rattle.std.proofs.Common.{◌≡◌, ℕ, zero, suc, Bool, true, false, not, ◌&&◌, if◌then◌else◌, List, Option, Some, None, Ok, Err, inl, inr, refl, subst}
use Rattle.token_core.specs.declared.lifetime.Lifetime.{Lifetime}
use Rattle.token_core.specs.declared.lit.LitStr.{LitStr}
use Rattle.token_core.specs.declared.mark.Spans.{Spans}
use Rattle.token_core.specs.declared.range.RangeLimits.TheVariants as limits
use Rattle.token_core.specs.declared.span.DelimSpan.{DelimSpan}
use Rattle.token_core.specs.declared.span.Span.{Span}
use Rattle.token_core.specs.declared.tree.Delimiter.{Delimiter}
use Rattle.token_core.specs.declared.tree.Ident.{Ident}
use Rattle.token_core.specs.Front.{front, past_ends}
use Rattle.token_core.specs.Lifetimes.{past_lifetime, read_lifetime}
use Rattle.token_core.specs.Lits.{end_of, lit_name, past_lit, past_str, read_lit, read_str}
use Rattle.token_core.specs.Loops.{size, listed_from, listed, terminated}
use Rattle.token_core.specs.Marks as marks
use Rattle.token_core.specs.Members.{value}
use Rattle.token_core.specs.Ranges as ranges
use Rattle.token_core.specs.Reads.{Reader, Outcome, Body, Follows, IsSuffix, all_of, ◌>>=◌, ◌<$>◌, as_group, bodied, closing, delimited, expected, finished}
use Rattle.token_core.specs.Reads.{goes_on, in_group, inside, leaves, next_word, open_group, opened, optional, past, past_mark, read_mark, read_word, same_delimiter, word_if}
use Rattle.token_core.specs.Refusal.{Refusal}
use Rattle.token_core.specs.Stream.{Stream}
use Rattle.token_core.specs.Toks.{Bytes, Toks}
use Rattle.token_core.proofs.Suffixes.{first-first, follows_past, follows_self, follows_trans, follows_word, suffix_group, suffix_mark, suffix_outside}
use Rattle.token_core.proofs.Took.{branch}
use Rattle.token_core.proofs.Turns.{chain, same_pair}
use Rattle.token_core.proofs.lifetime_laws.{suffix_lifetime}
use Rattle.token_core.proofs.lit_laws.{suffix_lit, suffix_str}
use Rattle.syn_path.specs.Took.{Along}

-- ---- what is put together

-- at the same place it stands further on too
pub on_to : {A : Type 0} (s u t : Stream) (a x : A) → Follows s u → ◌≡◌ {A = Outcome A} (Ok (a, u)) (Ok (x, t)) → Follows s t
on_to s u t a x h e = subst (λ (z : Stream). Follows s z) (same_pair a x u t e).1 h

-- an answer that takes nothing
pub stays : {A : Type 0} (f : Stream → A) → Along (λ s. Ok (f s, s))
stays f s t x e = on_to s s t (f s) x (follows_self s) e

-- no answer
pub refused : {A : Type 0} (f : Stream → Refusal) → Along {A = A} (λ s. Err (f s))
refused f s t x e = cc

pub bind : {A B : Type 0} {p : Reader A} {f : A → Reader B} → Along p → ((a : A) → Along (f a)) → Along (p >>= f)
bind {p = p} {f = f} h k s t x e =
    let c = chain (p s) f x t e in
    follows_trans s c.rest t (h s c.rest c.value c.was) (k c.value c.rest t x c.goes)

pub made : {A B : Type 0} (f : A → B) {p : Reader A} → Along p → Along (f <$> p)
made f h = bind h (λ a. stays (λ s. f a))

-- one of two reads
pub either : {A : Type 0} (b : Stream → Bool) {p q : Reader A} → Along p → Along q → Along (λ s. (if b s then p else q) s)
either b h k s t x e = elim (branch (b s) _ _ s (Ok (x, t)) e) [ inl y ↦ h s t x y.1 | inr y ↦ k s t x y.1 ]

pub optional_along : {A : Type 0} (sees : Toks → Bool) {p : Reader A} → Along p → Along (optional sees p)
optional_along sees h = either (λ s. sees s.rest) (made _ h) (stays _)

-- ---- tokens

went : {A : Type 0} (end : A → Span) (e : Refusal) (s t : Stream) (x : A) (o : Option (A × Toks)) → ((p : A × Toks) → o ≡ Some p → IsSuffix p.1 s.rest) → goes_on end e s o ≡ Ok (x, t) → Follows s t
went end e s t x None h k = cc
went end e s t x (Some q) h k = on_to s (past s q.1 (end q.0)) t q.0 x (follows_past s q.1 (end q.0) (h q refl)) k

pub characters : (cs : List ℕ) (name : Bytes) → Along (read_mark cs name)
unfolding read_mark
characters cs name s t x e = went (λ (z : Spans). z.third) (expected name s) s t x (past_mark cs s.rest) (λ p g. suffix_mark cs s.rest p g) e

pub mark : {n l : ℕ} → Along (marks.read n l)
mark {n = n} {l = l} = made (marks.mark_of n l) (characters (marks.chars_of n) (marks.mark_name n))

word_at : (test : Bytes → Bool) (e : Refusal) (s t : Stream) (x : Ident) (o : Option (Ident × Stream)) → ((p : Ident × Stream) → o ≡ Some p → Follows s p.1) → word_if test e o ≡ Ok (x, t) → Follows s t
word_at test e s t x None h k = cc
word_at test e s t x (Some p) h k = by_test (test p.0.text) k
  where
    by_test : (b : Bool) → ◌≡◌ {A = Outcome Ident} (if b then Ok p else Err e) (Ok (x, t)) → Follows s t
    by_test true k = on_to s p.1 t p.0 x (h p refl) k
    by_test false k = cc

pub word : (test : Bytes → Bool) (name : Bytes) → Along (read_word test name)
unfolding read_word
word test name s t x e = word_at test (expected name s) s t x (next_word s) (λ p g. follows_word s p.1 p.0 g) e

pub named : {n : ℕ} → Along (marks.read_named n)
named {n = n} = made (λ (i : Ident). marks.word_of n i.span) (word _ _)

pub lifetime : Along read_lifetime
unfolding read_lifetime
lifetime s t x e = went (λ (z : Lifetime). z.ident.span) _ s t x (past_lifetime s.rest) (λ p g. suffix_lifetime s.rest p g) e

pub string : Along read_str
unfolding read_str
string s t x e = went (λ (z : LitStr). z.span) _ s t x (past_str s.rest) (λ p g. suffix_str s.rest p g) e

pub literal : Along read_lit
unfolding read_lit
literal s t x e = went end_of (expected lit_name s) s t x (past_lit s.rest) (λ p g. suffix_lit s.rest p g) e

-- the limits of a range
pub range_limits : Along ranges.read
unfolding ranges.read
range_limits = either (λ z. ranges.sees_dot2_eq z.rest) (made limits.Closed (mark {n = 10} {l = 3})) (either (λ z. ranges.sees_dot2 z.rest && not (ranges.sees_dot3 z.rest)) (made limits.HalfOpen (mark {n = 8} {l = 2})) (refused _))

pub old_range_limits : Along ranges.read_obsolete
unfolding ranges.read_obsolete
old_range_limits = either (λ z. ranges.sees_dot3 z.rest) (made ranges.closed_by (mark {n = 9} {l = 3})) range_limits

-- ---- groups, whatever they hold

abbrev Grouped : Type 0
Grouped = Delimiter × DelimSpan × Toks × Toks

group_at : (b : Delimiter) (e : Refusal) (s t : Stream) (x : DelimSpan × Stream) (o : Option Grouped) → ((p : Grouped) → o ≡ Some p → IsSuffix p.3 s.rest) → opened b e s o ≡ Ok (x, t) → Follows s t
group_at b e s t x None h k = cc
group_at b e s t x (Some p) h k = by_test (same_delimiter p.0 b) k
  where
    by_test : (c : Bool) → ◌≡◌ {A = Outcome (DelimSpan × Stream)} (if c then Ok ((p.1, inside s p.1 p.2 p.3), past s p.3 p.1.closing) else Err e) (Ok (x, t)) → Follows s t
    by_test true k = on_to s (past s p.3 p.1.closing) t (p.1, inside s p.1 p.2 p.3) x (follows_past s p.3 p.1.closing (h p refl)) k
    by_test false k = cc

pub opening : (b : Delimiter) (name : Bytes) → Along (open_group b name)
unfolding open_group
opening b name s t x e = group_at b (expected name s) s t x (as_group (front s.rest)) (λ p g. suffix_group s.rest p g) e

follows_finished : (c s : Stream) → Follows s (finished c s)
unfolding finished
follows_finished c s = record { suffix = all_of; kept = first-first s.left (leaves c); scope = refl }

pub closed : {A : Type 0} (b : DelimSpan) (s t : Stream) (o : Outcome A) (x : DelimSpan × A) → closing b s o ≡ Ok (x, t) → Follows s t
closed b s t (Err e) x k = cc
closed b s t (Ok p) x k = on_to s (finished p.1 s) t (b, p.0) x (follows_finished p.1 s) k

pub in_group_along : {A : Type 0} (b : Delimiter) (name : Bytes) (p : Reader A) → Along (in_group b name p)
in_group_along b name p = bind (opening b name) (λ g. λ s t x e. closed g.0 s t (p g.1) x e)

body_at : (s t : Stream) (x : Body) (o : Option Grouped) → ((p : Grouped) → o ≡ Some p → IsSuffix p.3 s.rest) → bodied s o ≡ Ok (x, t) → Follows s t
body_at s t x None h k = cc
body_at s t x (Some p) h k = on_to s (past s p.3 p.1.closing) t _ x (follows_past s p.3 p.1.closing (h p refl)) k

pub delimited_along : Along delimited
unfolding delimited
delimited_along s t x e = body_at s t x (as_group (past_ends s.rest)) (λ p g. suffix_outside s.rest p g) e

-- ---- lists

module _ {A P : Type 0} (stops : Bool → Toks → Bool) {value : Bool → Reader A} (more : Toks → Bool) {joint : Reader P} where
  pub from_along : ((b : Bool) → Along (value b)) → Along joint → (n : ℕ) (b : Bool) → Along (listed_from stops value more joint n b)
  from_along h k zero b = refused _
  from_along h k (suc n) b = either _ (stays _) (bind (h b) (λ x. either _ (bind k (λ p. bind (from_along h k n false) (λ v. stays _))) (stays _)))

  pub listed_along : ((b : Bool) → Along (value b)) → Along joint → (b : Bool) → Along (listed stops value more joint b)
  unfolding listed
  listed_along h k b s t x e = from_along h k (suc (size s.rest)) b s t x e

module _ {A P : Type 0} (stops : Bool → Toks → Bool) {value : Reader A} (more : Toks → Bool) {joint : Reader P} (h : Along value) (k : Along joint) where
  pub list_along : (b : Bool) → Along (listed stops (λ _. value) more joint b)
  list_along b = listed_along stops {value = λ _. value} more (λ _. h) k b

pub terminated_along : {A P : Type 0} (ends : Toks → Bool) {value : Reader A} {joint : Reader P} → Along value → Along joint → Along (terminated ends value joint)
terminated_along ends h k = list_along (λ _. ends) (λ l. not (ends l)) h k true
