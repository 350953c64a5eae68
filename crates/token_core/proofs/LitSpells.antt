-- Literals are read where they stand, and print themselves.
use Rattle.std.specs.Str.{bytes_eq}
use Rattle.std.proofs.lemmas.Slice.Eq.{bytes_eq-Decides}
use Rattle.std.proofs.lemmas.Bool.{eqb-true}
use Rattle.std.proofs.Common.{◌≡◌, ◌<◌, Bool, true, false, ◌==◌, if◌then◌else◌, [], ◌∷◌, Option, Some, None, is_some, Ok, refl, sym, ◌∙◌, ap, subst, arith}
use Rattle.token_core.specs.declared.tree.Spacing.{Spacing}
use Rattle.token_core.specs.declared.tree.Spacing.TheVariants.{Alone}
use Rattle.token_core.specs.declared.tree.Ident.{Ident}
use Rattle.token_core.specs.declared.tree.Punct.{Punct}
use Rattle.token_core.specs.declared.tree.Literal.{Literal}
use Rattle.token_core.specs.declared.tree.LitKind.{LitKind}
use Rattle.token_core.specs.declared.tree.LitKind.TheVariants.{Str, ByteStr, CStr, Byte, Char, Int, Float}
use Rattle.token_core.specs.declared.tree.TokenTree.TheVariants as t
use Rattle.token_core.specs.declared.span.Span.{Span}
use Rattle.token_core.specs.declared.lit.Lit.{Lit}
use Rattle.token_core.specs.declared.lit.Lit.TheVariants as v
use Rattle.token_core.specs.declared.lit.LitStr.{LitStr}
use Rattle.token_core.specs.Toks.{Toks, done, word, mark, lit, group, enter, leave}
use Rattle.token_core.specs.Trees.{ident, punct, literal, row}
use Rattle.token_core.specs.Rebuilt.{Visible}
use Rattle.token_core.specs.Stream.{Scope, Stream}
use Rattle.token_core.specs.Loops.{size}
use Rattle.token_core.specs.Reads.{goes_on, expected}
use Rattle.token_core.specs.Lits.{true_text, false_text, bool_text, lit_bool, lit_str, negative, is_number, is_str, past_number, next_lit, past_lit, sees_lit, read_lit, end_of, lit_name, past_str, sees_str, read_str, print, print_str}
use Rattle.token_core.specs.Spellings.{IsLit, a_literal, a_bool, a_negative, IsStr, a_str}
use Rattle.token_core.proofs.Took.{at}
use Rattle.token_core.proofs.Steps.{Reads_to}
use Rattle.token_core.proofs.Rebuilds.{tree-ident, tree-punct, tree-literal}
use Rattle.token_core.proofs.MarkSpells.{Taken}
use Rattle.token_core.proofs.WordSpells.{went_on}

-- ---- literals

bool_at : (i : Ident) (k : Toks) (q : Lit × Toks) (x y : Bool) → bytes_eq i.text true_text ≡ x → bytes_eq i.text false_text ≡ y →
    ◌≡◌ {A = Option (Lit × Toks)} (if x then Some (v.Bool (lit_bool true i.span), k) else (if y then Some (v.Bool (lit_bool false i.span), k) else None)) (Some q) → IsLit q.0 (word i k) q.1
bool_at i k q true y h g e =
    let u : ◌≡◌ {A = Lit × Toks} (v.Bool (lit_bool true i.span), k) q = cc in
    let w : word (ident (bool_text true) i.span) k ≡ word i k = ap (λ z. word (ident z i.span) k) (sym ((bytes_eq-Decides i.text true_text).0 h)) in
    subst (λ (z : Lit × Toks). IsLit z.0 (word i k) z.1) u (subst (λ z. IsLit (v.Bool (lit_bool true i.span)) z k) w a_bool)
bool_at i k q false true h g e =
    let u : ◌≡◌ {A = Lit × Toks} (v.Bool (lit_bool false i.span), k) q = cc in
    let w : word (ident (bool_text false) i.span) k ≡ word i k = ap (λ z. word (ident z i.span) k) (sym ((bytes_eq-Decides i.text false_text).0 g)) in
    subst (λ (z : Lit × Toks). IsLit z.0 (word i k) z.1) u (subst (λ z. IsLit (v.Bool (lit_bool false i.span)) z k) w a_bool)
bool_at i k q false false h g e = cc

number_if : (a : Span) (j : Spacing) (x : Literal) (r : Toks) (q : Lit × Toks) (b : Bool) → is_number x.kind ≡ b → ◌≡◌ {A = Option (Lit × Toks)} (if b then Some (v.Negative (negative a x), r) else None) (Some q) →
    IsLit q.0 (mark (punct 45 j a) (lit x r)) q.1
number_if a j x r q true h e =
    let u : ◌≡◌ {A = Lit × Toks} (v.Negative (negative a x), r) q = cc in
    subst (λ (z : Lit × Toks). IsLit z.0 (mark (punct 45 j a) (lit x r)) z.1) u (a_negative h)
number_if a j x r q false h e = cc

number_at : (a : Span) (j : Spacing) (k : Toks) (q : Lit × Toks) → Visible k → past_number a (next_lit k) ≡ Some q → IsLit q.0 (mark (punct 45 j a) k) q.1
number_at a j done q w e = cc
number_at a j (word i r) q w e = cc
number_at a j (mark x r) q w e = cc
number_at a j (lit x r) q w e = number_if a j x r q (is_number x.kind) refl e
number_at a j (group d x c r) q w e = cc
number_at a j (enter x r) q w e = absurd w
number_at a j (leave r) q w e = absurd w

minus_at : (x : Punct) (k : Toks) (q : Lit × Toks) (b : Bool) → Visible k → (x.ch == 45) ≡ b → ◌≡◌ {A = Option (Lit × Toks)} (if b then past_number x.span (next_lit k) else None) (Some q) → IsLit q.0 (mark x k) q.1
minus_at x k q true w h e =
    let u : mark (punct 45 x.spacing x.span) k ≡ mark x k = ap (λ n. mark (punct n x.spacing x.span) k) (sym (eqb-true x.ch 45 h)) in
    subst (λ z. IsLit q.0 z q.1) u (number_at x.span x.spacing k q w e)
minus_at x k q false w h e = cc

lit_at : (l : Toks) (q : Lit × Toks) → Visible l → past_lit l ≡ Some q → IsLit q.0 l q.1
lit_at done q w e = cc
lit_at (word i k) q w e = bool_at i k q (bytes_eq i.text true_text) (bytes_eq i.text false_text) refl refl e
lit_at (mark x k) q w e = minus_at x k q (x.ch == 45) w refl e
lit_at (lit x k) q w e =
    let u : ◌≡◌ {A = Lit × Toks} (v.Literal x, k) q = cc in
    subst (λ (z : Lit × Toks). IsLit z.0 (lit x k) z.1) u a_literal
lit_at (group d x c k) q w e = cc
lit_at (enter x k) q w e = absurd w
lit_at (leave k) q w e = absurd w

pub lit_sound : (s t : Stream) (x : Lit) → Visible s.rest → read_lit s ≡ Ok (x, t) → Taken IsLit s t x
unfolding read_lit
lit_sound s t x w e =
    let y = went_on end_of _ s t x (past_lit s.rest) e in
    record { spelt = lit_at s.rest (x, t.rest) w y.was; left = y.left }

past_spelt : (x : Lit) (l r : Toks) → IsLit x l r → past_lit l ≡ Some (x, r)
past_spelt x l r a_literal = refl
past_spelt x l r (a_bool {b = b} {a = a}) = by_value b
  where
    by_value : (b : Bool) → past_lit (word (ident (bool_text b) a) r) ≡ Some (v.Bool (lit_bool b a), r)
    by_value true = refl
    by_value false = refl
past_spelt x l r (a_negative {a = a} {x = n} h) = ap (λ (b : Bool). if b then Some (v.Negative (negative a n), r) else None) h

pub lit_complete : (x : Lit) (l r : Toks) (f : Option Span) (e : Span) (sc : Scope) → IsLit x l r → Reads_to read_lit x l r f e sc
unfolding read_lit
lit_complete x l r f e sc i = record { last = end_of x; reads = ap (goes_on end_of (expected lit_name (at l f e sc)) (at l f e sc)) (past_spelt x l r i) }

pub lit_seen : (x : Lit) (l r : Toks) → IsLit x l r → sees_lit l ≡ true
unfolding sees_lit
lit_seen x l r i = ap is_some (past_spelt x l r i)

pub lit_again : (x : Lit) (l r h : Toks) → IsLit x l r → IsLit x (row (print x) h) h
lit_again x l r h (a_literal {x = y}) = subst (λ z. IsLit (v.Literal y) z h) (sym (tree-literal y h)) a_literal
lit_again x l r h (a_bool {b = b} {a = a}) = subst (λ z. IsLit (v.Bool (lit_bool b a)) z h) (sym (tree-ident (ident (bool_text b) a) h)) a_bool
lit_again x l r h (a_negative {a = a} {x = n} k) =
    let u : row (print (v.Negative (negative a n))) h ≡ mark (punct 45 Alone a) (lit n h) = tree-punct (punct 45 Alone a) (row (t.Literal n ∷ []) h) ∙ ap (mark (punct 45 Alone a)) (tree-literal n h) in
    subst (λ z. IsLit (v.Negative (negative a n)) z h) (sym u) (a_negative k)

pub lit_visible : (x : Lit) (l r : Toks) → IsLit x l r → Visible l → Visible r
lit_visible x l r a_literal w = w
lit_visible x l r a_bool w = w
lit_visible x l r (a_negative h) w = w

pub lit_whole : (x : Lit) (l r : Toks) → IsLit x l r → Visible r → Visible l
lit_whole x l r a_literal w = w
lit_whole x l r a_bool w = w
lit_whole x l r (a_negative h) w = w

pub lit_size : (x : Lit) (l r : Toks) → IsLit x l r → size r < size l
lit_size x l r a_literal = omega arith
lit_size x l r a_bool = omega arith
lit_size x l r (a_negative h) = omega arith

-- ---- string literals

str_is : (k : LitKind) → is_str k ≡ true → k ≡ Str
str_is Str e = refl
str_is ByteStr e = cc
str_is CStr e = cc
str_is Byte e = cc
str_is Char e = cc
str_is Int e = cc
str_is Float e = cc

str_if : (x : Literal) (r : Toks) (q : LitStr × Toks) (b : Bool) → is_str x.kind ≡ b → ◌≡◌ {A = Option (LitStr × Toks)} (if b then Some (lit_str x.text x.span, r) else None) (Some q) → IsStr q.0 (lit x r) q.1
str_if x r q true h e =
    let u : ◌≡◌ {A = LitStr × Toks} (lit_str x.text x.span, r) q = cc in
    let w : lit (literal Str x.text x.span) r ≡ lit x r = ap (λ z. lit (literal z x.text x.span) r) (sym (str_is x.kind h)) in
    subst (λ (z : LitStr × Toks). IsStr z.0 (lit x r) z.1) u (subst (λ z. IsStr (lit_str x.text x.span) z r) w a_str)
str_if x r q false h e = cc

str_at : (l : Toks) (q : LitStr × Toks) → Visible l → past_str l ≡ Some q → IsStr q.0 l q.1
str_at done q w e = cc
str_at (word i k) q w e = cc
str_at (mark x k) q w e = cc
str_at (lit x k) q w e = str_if x k q (is_str x.kind) refl e
str_at (group d x c k) q w e = cc
str_at (enter x k) q w e = absurd w
str_at (leave k) q w e = absurd w

pub str_sound : (s t : Stream) (x : LitStr) → Visible s.rest → read_str s ≡ Ok (x, t) → Taken IsStr s t x
unfolding read_str
str_sound s t x w e =
    let y = went_on (λ (z : LitStr). z.span) _ s t x (past_str s.rest) e in
    record { spelt = str_at s.rest (x, t.rest) w y.was; left = y.left }

pub str_complete : (x : LitStr) (l r : Toks) (f : Option Span) (e : Span) (sc : Scope) → IsStr x l r → Reads_to read_str x l r f e sc
unfolding read_str
str_complete x l r f e sc (a_str {a = a}) = record { last = a; reads = refl }

pub str_seen : (x : LitStr) (l r : Toks) → IsStr x l r → sees_str l ≡ true
unfolding sees_str
str_seen x l r a_str = refl

pub str_again : (x : LitStr) (l r h : Toks) → IsStr x l r → IsStr x (row (print_str x) h) h
str_again x l r h (a_str {t = y} {a = a}) = subst (λ z. IsStr (lit_str y a) z h) (sym (tree-literal (literal Str y a) h)) a_str

pub str_visible : (x : LitStr) (l r : Toks) → IsStr x l r → Visible l → Visible r
str_visible x l r a_str w = w

pub str_whole : (x : LitStr) (l r : Toks) → IsStr x l r → Visible r → Visible l
str_whole x l r a_str w = w
