-- Where reads of literals leave a stream.
use Rattle.std.specs.Str.{bytes_eq}
use Rattle.std.proofs.Common.{◌≡◌, Bool, true, false, Option, Some, None, refl, subst, ◌==◌, if◌then◌else◌}
use Rattle.token_core.specs.declared.tree.Ident.{Ident}
use Rattle.token_core.specs.declared.tree.Punct.{Punct}
use Rattle.token_core.specs.declared.tree.Literal.{Literal}
use Rattle.token_core.specs.declared.span.Span.{Span}
use Rattle.token_core.specs.declared.lit.Lit.{Lit}
use Rattle.token_core.specs.declared.lit.Lit.TheVariants as v
use Rattle.token_core.specs.declared.lit.LitStr.{LitStr}
use Rattle.token_core.specs.Toks.{Toks, done, word, mark, lit, group, enter, leave}
use Rattle.token_core.specs.Reads.{IsSuffix, all_of, past_word, past_punct, past_lit, past_enter, past_leave}
use Rattle.token_core.specs.Lits as l
use Rattle.token_core.specs.Lits.{true_text, false_text, lit_bool, lit_str, negative, is_number, is_str, past_bool, past_number, past_minus, next_lit, str_of, past_str}

module _ {A : Type 0} where
  rest_is : (a : A) (k t : Toks) (q : A × Toks) → ◌≡◌ {A = A × Toks} (a, k) q → IsSuffix k t → IsSuffix q.1 t
  rest_is a k t q e s = subst (λ (z : A × Toks). IsSuffix z.1 t) e s

pub suffix_literal : (t : Toks) (p : Literal × Toks) → next_lit t ≡ Some p → IsSuffix p.1 t
suffix_literal done p e = cc
suffix_literal (word i k) p e = cc
suffix_literal (mark m k) p e = cc
suffix_literal (lit x k) p e = let f : ◌≡◌ {A = Literal × Toks} (x, k) p = cc in rest_is x k (lit x k) p f (past_lit x all_of)
suffix_literal (group d s c k) p e = cc
suffix_literal (enter s k) p e = past_enter s (suffix_literal k p e)
suffix_literal (leave k) p e = past_leave (suffix_literal k p e)

bool_suffix : (i : Ident) (k : Toks) (q : Lit × Toks) → past_bool i k ≡ Some q → IsSuffix q.1 k
bool_suffix i k q e = by_test (bytes_eq i.text true_text) (bytes_eq i.text false_text) e
  where
    by_test : (a b : Bool) → (if a then Some (v.Bool (lit_bool true i.span), k) else (if b then Some (v.Bool (lit_bool false i.span), k) else None)) ≡ Some q → IsSuffix q.1 k
    by_test true b e = let f : ◌≡◌ {A = Lit × Toks} (v.Bool (lit_bool true i.span), k) q = cc in rest_is _ k k q f all_of
    by_test false true e = let f : ◌≡◌ {A = Lit × Toks} (v.Bool (lit_bool false i.span), k) q = cc in rest_is _ k k q f all_of
    by_test false false e = cc

number_suffix : (m : Span) (k : Toks) (q : Lit × Toks) (o : Option (Literal × Toks)) → ((p : Literal × Toks) → o ≡ Some p → IsSuffix p.1 k) → past_number m o ≡ Some q → IsSuffix q.1 k
number_suffix m k q None h e = cc
number_suffix m k q (Some p) h e = by_test (is_number p.0.kind) e
  where
    by_test : (b : Bool) → (if b then Some (v.Negative (negative m p.0), p.1) else None) ≡ Some q → IsSuffix q.1 k
    by_test true e = let f : ◌≡◌ {A = Lit × Toks} (v.Negative (negative m p.0), p.1) q = cc in rest_is _ p.1 k q f (h p refl)
    by_test false e = cc

minus_suffix : (p : Punct) (k : Toks) (q : Lit × Toks) → past_minus p k ≡ Some q → IsSuffix q.1 k
minus_suffix p k q e = by_test (p.ch == 45) e
  where
    by_test : (b : Bool) → (if b then past_number p.span (next_lit k) else None) ≡ Some q → IsSuffix q.1 k
    by_test true e = number_suffix p.span k q (next_lit k) (λ r g. suffix_literal k r g) e
    by_test false e = cc

pub suffix_lit : (t : Toks) (q : Lit × Toks) → l.past_lit t ≡ Some q → IsSuffix q.1 t
suffix_lit done q e = cc
suffix_lit (word i k) q e = past_word i (bool_suffix i k q e)
suffix_lit (mark m k) q e = past_punct m (minus_suffix m k q e)
suffix_lit (lit x k) q e = let f : ◌≡◌ {A = Lit × Toks} (v.Literal x, k) q = cc in rest_is _ k (lit x k) q f (past_lit x all_of)
suffix_lit (group d s c k) q e = cc
suffix_lit (enter s k) q e = past_enter s (suffix_lit k q e)
suffix_lit (leave k) q e = past_leave (suffix_lit k q e)

str_suffix : (t : Toks) (q : LitStr × Toks) (o : Option (Literal × Toks)) → ((p : Literal × Toks) → o ≡ Some p → IsSuffix p.1 t) → str_of o ≡ Some q → IsSuffix q.1 t
str_suffix t q None h e = cc
str_suffix t q (Some p) h e = by_test (is_str p.0.kind) e
  where
    by_test : (b : Bool) → (if b then Some (lit_str p.0.text p.0.span, p.1) else None) ≡ Some q → IsSuffix q.1 t
    by_test true e = let f : ◌≡◌ {A = LitStr × Toks} (lit_str p.0.text p.0.span, p.1) q = cc in rest_is _ p.1 t q f (h p refl)
    by_test false e = cc

pub suffix_str : (t : Toks) (q : LitStr × Toks) → past_str t ≡ Some q → IsSuffix q.1 t
suffix_str t q e = str_suffix t q (next_lit t) (λ p g. suffix_literal t p g) e
