-- The bounds of a lifetime, up to an end, are read as a list is that asks its values below a limit.
use Rattle.std.proofs.Common.{◌≡◌, ℕ, ◌<◌, ◌≤◌, Bool, true, false, not, ◌==◌, if◌then◌else◌, [], Option, Some, None, Ok, Err, refl, ap, subst, arith}
use Rattle.token_core.specs.declared.lifetime.Lifetime.{Lifetime}
use Rattle.token_core.specs.declared.mark.Spans.{Spans}
use Rattle.token_core.specs.declared.span.Span.{Span}
use Rattle.token_core.specs.declared.tree.Ident.{Ident}
use Rattle.token_core.specs.declared.tree.Punct.{Punct}
use Rattle.token_core.specs.Front.{front}
use Rattle.token_core.specs.Lifetimes.{lifetime, lifetime_name, next_word, with_ident, with_quote, past_lifetime, read_lifetime}
use Rattle.token_core.specs.Marks.{chars_of, mark_name, mark_of}
use Rattle.token_core.specs.Refusal.{Refusal}
use Rattle.token_core.specs.Stream.{Stream}
use Rattle.token_core.specs.Toks.{Toks}
use Rattle.token_core.specs.Loops.{Many, terminated}
use Rattle.token_core.specs.Reads.{Follows, IsSuffix, Outcome, and_then, as_punct, expected, goes_on, is_joint, past, past_mark, pure, read_mark, ◌>>=◌}
use Rattle.token_core.specs.Tokens as token
use Rattle.token_core.proofs.Suffixes.{follows_past, suffix_mark, suffix_punct, suffix_trans, suffix_word}
use Rattle.token_core.proofs.Took.{mapped}
use Rattle.token_core.proofs.Turns.{same_pair}
use Rattle.syn_forms.specs.heads.Reading.{Angled, angled}
use Rattle.syn_forms.specs.lists.Reading.{bounds_to, list}
use Rattle.syn_forms.specs.nested.Below.{ahead, below, held}
use Rattle.syn_forms.proofs.lists_laws.Bounded.{same_list}
use Rattle.syn_forms.proofs.nested_laws.Ahead.{ahead_follows, mark_ahead}

named : (l : Toks) (a : Span) (o : Option (Ident × Toks)) (q : Lifetime × Toks) → ((p : Ident × Toks) → o ≡ Some p → IsSuffix p.1 l) → with_ident a o ≡ Some q → IsSuffix q.1 l
named l a None q h e = cc
named l a (Some p) q h e =
    let w : ◌≡◌ {A = Lifetime × Toks} (lifetime a p.0, p.1) q = cc in
    subst (λ (z : Lifetime × Toks). IsSuffix z.1 l) w (h p refl)

quoted : (l : Toks) (q : Lifetime × Toks) (o : Option (Punct × Toks)) → ((p : Punct × Toks) → o ≡ Some p → IsSuffix p.1 l) → with_quote o ≡ Some q → IsSuffix q.1 l
quoted l q None h e = cc
quoted l q (Some p) h e = by_test (p.0.ch == 39) (is_joint p.0.spacing) e
  where
    by_test : (b j : Bool) → (if b then (if j then with_ident p.0.span (next_word p.1) else None) else None) ≡ Some q → IsSuffix q.1 l
    by_test true true e = suffix_trans (named p.1 p.0.span (next_word p.1) q (λ z g. suffix_word p.1 z.0 z.1 g) e) (h p refl)
    by_test true false e = cc
    by_test false j e = cc

-- what goes on past a token has no more left
went_on : {A : Type 0} (end : A → Span) (e : Refusal) (s t : Stream) (x : A) (o : Option (A × Toks)) → ((p : A × Toks) → o ≡ Some p → IsSuffix p.1 s.rest) → goes_on end e s o ≡ Ok (x, t) → ahead t ≤ ahead s
went_on end e s t x None h k = cc
went_on end e s t x (Some q) h k =
    let there = past s q.1 (end q.0) in
    subst (λ (z : Stream). ahead z ≤ ahead s) (same_pair q.0 x there t k).1 (ahead_follows s there (follows_past s q.1 (end q.0) (h q refl)))

lifetime_later : (s t : Stream) (x : Lifetime) → read_lifetime s ≡ Ok (x, t) → ahead t ≤ ahead s
unfolding read_lifetime
lifetime_later s t x e =
    went_on (λ (z : Lifetime). z.ident.span) (expected lifetime_name s) s t x (past_lifetime s.rest)
    (λ p g. quoted s.rest p (as_punct (front s.rest)) (λ z f. suffix_punct s.rest z.0 z.1 f) g) e

mark_later : (name : _) (n : ℕ) (s t : Stream) (m : Spans) → read_mark (chars_of n) name s ≡ Ok (m, t) → ahead t ≤ ahead s
unfolding read_mark
mark_later name n s t m e = went_on (λ (z : Spans). z.third) (expected name s) s t m (past_mark (chars_of n) s.rest) (λ p g. suffix_mark (chars_of n) s.rest p g) e

plus_later : (s t : Stream) (p : token.Plus) → token.plus s ≡ Ok (p, t) → ahead t ≤ ahead s
plus_later s t p e =
    let m = mapped (read_mark (chars_of 20) (mark_name 20) s) (mark_of 20 1) p t e in
    mark_later (mark_name 20) 20 s t m.value m.was

pub lifetimes : (ends : Toks → Bool) (limit : ℕ) (s : Stream) → ahead s < limit → list (λ first. ends) (held (λ (place : Unit {0}). read_lifetime) limit tt) token.sees_plus token.plus true s ≡ bounds_to read_lifetime ends s
unfolding held
lifetimes ends limit s h = same_list (λ first. ends) read_lifetime token.sees_plus token.plus limit lifetime_later plus_later true s h

went_follows : {A : Type 0} (end : A → Span) (e : Refusal) (s t : Stream) (x : A) (o : Option (A × Toks)) → ((p : A × Toks) → o ≡ Some p → IsSuffix p.1 s.rest) → goes_on end e s o ≡ Ok (x, t) → Follows s t
went_follows end e s t x None h k = cc
went_follows end e s t x (Some q) h k =
    let there = past s q.1 (end q.0) in
    subst (λ (z : Stream). Follows s z) (same_pair q.0 x there t k).1 (follows_past s q.1 (end q.0) (h q refl))

mark_follows : (name : _) (n : ℕ) (s t : Stream) (m : Spans) → read_mark (chars_of n) name s ≡ Ok (m, t) → Follows s t
unfolding read_mark
mark_follows name n s t m e = went_follows (λ (z : Spans). z.third) (expected name s) s t m (past_mark (chars_of n) s.rest) (λ p g. suffix_mark (chars_of n) s.rest p g) e

comma_later : (s t : Stream) (p : token.Comma) → token.comma s ≡ Ok (p, t) → ahead t ≤ ahead s
comma_later s t p e =
    let m = mapped (read_mark (chars_of 4) (mark_name 4) s) (mark_of 4 1) p t e in
    mark_later (mark_name 4) 4 s t m.value m.was

-- and so are lifetimes in angle brackets: after the `<` less is left
pub angled_lifetimes : (limit : ℕ) (s : Stream) → ahead s ≤ limit → angled (held (λ (place : Unit {0}). read_lifetime) limit tt) s ≡ angled read_lifetime s
unfolding held angled
angled_lifetimes limit s h = by_lt (token.lt s) refl
  where
    closed : token.Lt → Outcome (Many Lifetime token.Comma) → Outcome (Angled Lifetime)
    closed l o = and_then o (λ v. token.gt >>= (λ r. pure (l, v, r)))

    by_lt : (o : Outcome token.Lt) → token.lt s ≡ o →
        and_then o (λ l. λ t. closed l (terminated token.sees_gt (below limit read_lifetime) token.comma t)) ≡ and_then o (λ l. λ t. closed l (terminated token.sees_gt read_lifetime token.comma t))
    by_lt (Err e) g = refl
    by_lt (Ok p) g =
        let m = mapped (read_mark (chars_of 2) (mark_name 2) s) (mark_of 2 1) p.0 p.1 g in
        let less = mark_ahead 2 1 60 [] refl s p.1 p.0 g (mark_follows (mark_name 2) 2 s p.1 m.value m.was) in
        ap (closed p.0) (same_list (λ first. token.sees_gt) read_lifetime (λ l. not (token.sees_gt l)) token.comma limit lifetime_later comma_later true p.1 (omega (arith, less, h)))
