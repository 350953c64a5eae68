-- A name and a colon before a type, spelt clearly, are what their read answers, and neither a name nor what begins a variadic stands where a type alone begins.
use Rattle.std.proofs.lemmas.Bool.{and_left, eqb-true, or_parts}
use Rattle.std.proofs.lemmas.Slice.Eq.{bytes_eq-Decides}
use Rattle.std.proofs.Common.{◌≡◌, Bool, true, false, not, ◌&&◌, ◌==◌, if◌then◌else◌, [], ◌∷◌, Option, Some, None, is_some, refl, sym, ◌∙◌, ap, arith}
use Rattle.syn_ty.proofs.ty_laws.words.Tokens.{Spans, Span, Ident, front, is_keyword, after_one, as_punct, as_word, is_joint, is_text, next_word, optional, past_mark, past_next, read_word, second, sees_mark, sees_word, IsMark, is_mark, IsWord, is_word, Scope, Bytes, Toks, done, word, mark, lit, group, enter, leave, ident}
use Rattle.syn_ty.proofs.ty_laws.words.Forms.{sees_mut_self, sees_name}
use Rattle.syn_ty.proofs.ty_laws.words.Types.{is_name, is_argument_name}
use Rattle.token_core.specs.Reads.{after_front, after_mark, after_quote, meets, put_first}
use Rattle.token_core.specs.Tokens as token
use Rattle.token_core.proofs.MarkSpells.{longer_unseen, mark_complete, mark_seen}
use Rattle.token_core.proofs.Steps.{link, chosen, Reads_to}
use Rattle.token_core.proofs.Took.{at}
use Rattle.syn_forms.specs.inputs.Reading as inputs
use Rattle.syn_ty.proofs.ty_laws.complete.Within.{TypeBegins}
use Rattle.syn_ty.proofs.ty_laws.complete.Signatures.{EndsInput}
use Rattle.syn_ty.proofs.ty_laws.complete.Tokens.{other_mark}

-- ---- a colon that stands apart is no part of `::`

no_sep : (c : token.Colon) (l k : Toks) → IsMark true c l k → token.sees_path_sep l ≡ false
no_sep c l k (is_mark {ss = ss} i) = longer_unseen true (58 ∷ []) 58 [] 58 [] ss l k i refl (λ g. (or_parts _ _ g).0)

-- `...` does not stand one token after a `::` begins
some_put : (a : Span) (o : Option (Spans × Toks)) → is_some (put_first a o) ≡ true → is_some o ≡ true
some_put a None h = h
some_put a (Some q) h = refl

no_dots_at : (l : Toks) → is_some (past_next 58 false (past_mark (58 ∷ [])) (as_punct l)) ≡ true → meets token.sees_dot_dot_dot (after_front l) ≡ false
unfolding sees_mark
no_dots_at done h = refl
no_dots_at (word i k) h = cc h
no_dots_at (mark p k) h = by_test (p.ch == 58) (is_joint p.spacing) refl h
  where
    by_test : (b j : Bool) → (p.ch == 58) ≡ b → is_some (if b then (if j then put_first p.span (past_mark (58 ∷ []) k) else None) else None) ≡ true → token.sees_dot_dot_dot (after_mark p k) ≡ false
    by_test true true e h =
        let no_quote : (p.ch == 39) ≡ false = ap (λ n. n == 39) (eqb-true p.ch 58 e) in
        ap (λ (b : Bool). token.sees_dot_dot_dot (if b then (if is_joint p.spacing then after_quote k (as_word (front k)) else k) else k)) no_quote
        ∙ other_mark 58 46 [] (46 ∷ 46 ∷ []) k (some_put p.span (past_mark (58 ∷ []) k) h) refl
    by_test true false e h = cc h
    by_test false j e h = cc h
no_dots_at (lit x k) h = cc h
no_dots_at (group d s c k) h = cc h
no_dots_at (enter s k) h = refl
no_dots_at (leave k) h = refl

no_dots_after : (l : Toks) → token.sees_path_sep l ≡ true → second token.sees_dot_dot_dot l ≡ false
unfolding sees_mark after_one
no_dots_after l h = no_dots_at (front l) h

-- where no name and colon stand, `...` does not stand after them
pub no_third : (o : Option Toks) → (meets token.sees_colon o && not (meets token.sees_path_sep o)) ≡ false → (meets token.sees_colon o && meets (second token.sees_dot_dot_dot) o) ≡ false
no_third None h = refl
no_third (Some l) h = by_test (token.sees_colon l) (token.sees_path_sep l) refl h
  where
    by_test : (a b : Bool) → token.sees_path_sep l ≡ b → (a && not b) ≡ false → (a && second token.sees_dot_dot_dot l) ≡ false
    by_test true true e h = no_dots_after l e
    by_test true false e h = cc h
    by_test false b e h = refl

-- ---- texts of names

-- a text that meets a test is not one that does not
not_text : (w : Bytes) (test : Bytes → Bool) (t : Bytes) → test w ≡ false → test t ≡ true → is_text w t ≡ false
not_text w test t h g = by_test (is_text w t) refl
  where
    by_test : (b : Bool) → is_text w t ≡ b → b ≡ false
    by_test true e = sym g ∙ ap test ((bytes_eq-Decides t w).0 e) ∙ h
    by_test false e = refl

no_mut_name : (own : Bool) (t : Bytes) → is_argument_name own t ≡ true → is_text token.mut_text t ≡ false
unfolding is_keyword
no_mut_name true t h = not_text token.mut_text (is_argument_name true) t refl h
no_mut_name false t h = not_text token.mut_text (is_argument_name false) t refl h

pub no_self_name : (t : Bytes) → is_name t ≡ true → is_text token.self_value_text t ≡ false
unfolding is_keyword
no_self_name t h = not_text token.self_value_text is_name t refl h

-- ---- a name and a colon

pub name_seen : (own : Bool) (i : Ident) (c : token.Colon) (l k : Toks) → is_argument_name own i.text ≡ true → IsMark true c l k → sees_name own (word i l) ≡ true
unfolding sees_name sees_word after_one
name_seen own i c l k h j =
    ap (λ b. b && (token.sees_colon l && not (token.sees_path_sep l))) h ∙ ap (λ b. b && not (token.sees_path_sep l)) (mark_seen true {n = 7} {k = 1} c l k j) ∙ ap not (no_sep c l k j)

pub name_met : (i : Ident) (c : token.Colon) (l k : Toks) (f : Option Span) (e : Span) (sc : Scope) → IsMark true c l k → Reads_to inputs.name (i, c) (word i l) k f e sc
unfolding inputs.name read_word next_word
name_met i c l k f e sc j = let w = mark_complete true {n = 7} {k = 1} refl (omega arith) c l k f i.span sc j in record { last = w.last; reads = link _ w.reads refl }

pub some_name : (own : Bool) (i : Ident) (c : token.Colon) (l k : Toks) (f : Option Span) (e : Span) (sc : Scope) → is_argument_name own i.text ≡ true → IsMark true c l k →
    Reads_to (optional (sees_name own) inputs.name) (Some (i, c)) (word i l) k f e sc
some_name own i c l k f e sc h j =
    let w = name_met i c l k f e sc j in
    record { last = w.last; reads = chosen (sees_name own (word i l)) true _ _ (at (word i l) f e sc) _ (name_seen own i c l k h j) (link _ w.reads refl) }

pub no_name : (own : Bool) (l : Toks) (f : Option Span) (e : Span) (sc : Scope) → sees_name own l ≡ false → Reads_to (optional (sees_name own) inputs.name) None l l f e sc
no_name own l f e sc h = record { last = e; reads = chosen (sees_name own l) false _ _ (at l f e sc) _ h refl }

-- none stands before a type
pub unnamed : (own : Bool) (l k : Toks) → TypeBegins l k → EndsInput k → sees_name own l ≡ false
unnamed own l k b h = b.no_name h.no_colon own

-- ---- `mut self`, and `self` before a colon

pub no_mut_self : (l : Toks) → token.sees_mut l ≡ false → sees_mut_self l ≡ false
unfolding sees_mut_self
no_mut_self l h = and_left _ _ h

pub no_mut_before : (own : Bool) (i : Ident) (k : Toks) → is_argument_name own i.text ≡ true → sees_mut_self (word i k) ≡ false
unfolding sees_mut_self sees_word
no_mut_before own i k h = and_left _ _ (no_mut_name own i.text h)

pub mut_self_seen : (u : token.Mut) (w : token.SelfValue) (l m k : Toks) → IsWord u l m → IsWord w m k → sees_mut_self l ≡ true
unfolding sees_mut_self sees_word after_one
mut_self_seen u w l m k is_word is_word = refl

pub self_alone : (w : token.SelfValue) (l k : Toks) → IsWord w l k → token.sees_colon k ≡ false → sees_name true l ≡ false
unfolding sees_name sees_word after_one is_keyword
self_alone w l k is_word h = and_left _ _ h

-- `self` as the name before a colon
pub self_met : (w : token.SelfValue) (c : token.Colon) (l m k : Toks) (f : Option Span) (e : Span) (sc : Scope) → IsWord w l m → IsMark true c m k → Reads_to inputs.name (ident token.self_value_text w.span, c) l k f e sc
self_met w c l m k f e sc (is_word {a = a}) j = name_met (ident token.self_value_text a) c m k f e sc j

pub self_seen : (w : token.SelfValue) (c : token.Colon) (l m k : Toks) → IsWord w l m → IsMark true c m k → sees_name true l ≡ true
unfolding is_keyword
self_seen w c l m k (is_word {a = a}) j = name_seen true (ident token.self_value_text a) c m k refl j
