-- Where a read of a lifetime leaves a stream.
use Rattle.std.proofs.Common.{◌≡◌, Bool, true, false, Option, Some, None, refl, subst, ◌==◌, if◌then◌else◌}
use Rattle.token_core.specs.declared.tree.Ident.{Ident}
use Rattle.token_core.specs.declared.tree.Punct.{Punct}
use Rattle.token_core.specs.declared.span.Span.{Span}
use Rattle.token_core.specs.declared.lifetime.Lifetime.{Lifetime}
use Rattle.token_core.specs.Toks.{Toks}
use Rattle.token_core.specs.Front.{front}
use Rattle.token_core.specs.Reads.{IsSuffix, as_punct, is_joint}
use Rattle.token_core.specs.Lifetimes.{lifetime, next_word, with_ident, with_quote, past_lifetime}
use Rattle.token_core.proofs.Suffixes.{suffix_trans, suffix_word, suffix_punct}

ident_at : (a : Span) (k : Toks) (q : Lifetime × Toks) (o : Option (Ident × Toks)) → ((p : Ident × Toks) → o ≡ Some p → IsSuffix p.1 k) → with_ident a o ≡ Some q → IsSuffix q.1 k
ident_at a k q None h e = cc
ident_at a k q (Some p) h e =
    let f : ◌≡◌ {A = Lifetime × Toks} (lifetime a p.0, p.1) q = cc in
    subst (λ (z : Lifetime × Toks). IsSuffix z.1 k) f (h p refl)

quote_at : (l : Toks) (q : Lifetime × Toks) (o : Option (Punct × Toks)) → ((p : Punct × Toks) → o ≡ Some p → IsSuffix p.1 l) → with_quote o ≡ Some q → IsSuffix q.1 l
quote_at l q None h e = cc
quote_at l q (Some p) h e = by_test (p.0.ch == 39) (is_joint p.0.spacing) e
  where
    by_test : (b j : Bool) → (if b then (if j then with_ident p.0.span (next_word p.1) else None) else None) ≡ Some q → IsSuffix q.1 l
    by_test true true e = suffix_trans (ident_at p.0.span p.1 q (next_word p.1) (λ r g. suffix_word p.1 r.0 r.1 g) e) (h p refl)
    by_test true false e = cc
    by_test false j e = cc

pub suffix_lifetime : (l : Toks) (q : Lifetime × Toks) → past_lifetime l ≡ Some q → IsSuffix q.1 l
suffix_lifetime l q e = quote_at l q (as_punct (front l)) (λ p g. suffix_punct l p.0 p.1 g) e
