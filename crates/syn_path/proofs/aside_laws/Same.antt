-- Lists without invisible groups that are the same aside from spans, token by token; and the promise aside from spans.
use Rattle.std.proofs.Common.{◌≡◌, ℕ, suc, ◌≤◌, true, Option, Some, None, Result, Ok, refl, sym, ap, ◌∙◌, subst, arith}
use Rattle.token_core.specs.declared.span.Span.{Span}
use Rattle.token_core.specs.declared.span.DelimSpan.{DelimSpan}
use Rattle.token_core.specs.declared.tree.Delimiter.{Delimiter}
use Rattle.token_core.specs.declared.tree.LitKind.{LitKind}
use Rattle.token_core.specs.declared.tree.Spacing.{Spacing}
use Rattle.token_core.specs.Headline.{Grammar, Headline, Lawful}
use Rattle.token_core.specs.Loops.{size}
use Rattle.token_core.specs.Rebuilt.{Visible, IsVisible}
use Rattle.token_core.specs.Refusal.{Refusal}
use Rattle.token_core.specs.Spans.{none, delim_span}
use Rattle.token_core.specs.Toks.{Bytes, Toks, done, word, mark, lit, group, enter, leave}
use Rattle.token_core.specs.Trees.{ident, punct, literal}
use Rattle.token_core.proofs.Headlines.{again}
use Rattle.syn_path.specs.aside.Lists.{bare, Aside, Asides, Moves}

pub data Same : Toks → Toks → Type 0 where
  same_done : Same done done
  same_word : {t : Bytes} {a b : Span} {k m : Toks} → Same k m → Same (word (ident t a) k) (word (ident t b) m)
  same_mark : {c : ℕ} {j : Spacing} {a b : Span} {k m : Toks} → Same k m → Same (mark (punct c j a) k) (mark (punct c j b) m)
  same_lit : {d : LitKind} {t : Bytes} {a b : Span} {k m : Toks} → Same k m → Same (lit (literal d t a) k) (lit (literal d t b) m)
  same_group : {d : Delimiter} {a b : DelimSpan} {c e k m : Toks} → IsVisible d → Same c e → Same k m → Same (group d a c k) (group d b e m)

-- ---- from equal lists without spans, and back

pub bare_same : {l m : Toks} → Same l m → bare l ≡ bare m
bare_same same_done = refl
bare_same (same_word {t = t} s) = ap (word (ident t none)) (bare_same s)
bare_same (same_mark {c = c} {j = j} s) = ap (mark (punct c j none)) (bare_same s)
bare_same (same_lit {d = d} {t = t} s) = ap (lit (literal d t none)) (bare_same s)
bare_same (same_group {d = d} {e = e} {k = k} v c s) = ap (λ z. group d (delim_span none none) z (bare k)) (bare_same c) ∙ ap (group d (delim_span none none) (bare e)) (bare_same s)

pub same_sym : {l m : Toks} → Same l m → Same m l
same_sym same_done = same_done
same_sym (same_word s) = same_word (same_sym s)
same_sym (same_mark s) = same_mark (same_sym s)
same_sym (same_lit s) = same_lit (same_sym s)
same_sym (same_group v c s) = same_group v (same_sym c) (same_sym s)

pub visible_same : {l m : Toks} → Same l m → Visible m
visible_same same_done = tt
visible_same (same_word s) = visible_same s
visible_same (same_mark s) = visible_same s
visible_same (same_lit s) = visible_same s
visible_same (same_group v c s) = (v, visible_same c, visible_same s)

pub same_of : (l m : Toks) → Visible m → bare l ≡ bare m → Same l m
same_of done done v e = same_done
same_of (word i k) (word j m) v e =
    let h : ident i.text none ≡ ident j.text none = cc in
    let q : bare k ≡ bare m = cc in
    subst (λ z. Same (word i k) (word (ident z j.span) m)) (ap (λ z. z.text) h) (same_word {t = i.text} {a = i.span} {b = j.span} (same_of k m v q))
same_of (mark p k) (mark r m) v e =
    let h : punct p.ch p.spacing none ≡ punct r.ch r.spacing none = cc in
    let q : bare k ≡ bare m = cc in
    subst (λ z. Same (mark p k) (mark (punct r.ch z r.span) m)) (ap (λ z. z.spacing) h)
    (subst (λ z. Same (mark p k) (mark (punct z p.spacing r.span) m)) (ap (λ z. z.ch) h) (same_mark {c = p.ch} {j = p.spacing} {a = p.span} {b = r.span} (same_of k m v q)))
same_of (lit p k) (lit r m) v e =
    let h : literal p.kind p.text none ≡ literal r.kind r.text none = cc in
    let q : bare k ≡ bare m = cc in
    subst (λ z. Same (lit p k) (lit (literal r.kind z r.span) m)) (ap (λ z. z.text) h)
    (subst (λ z. Same (lit p k) (lit (literal z p.text r.span) m)) (ap (λ z. z.kind) h) (same_lit {d = p.kind} {t = p.text} {a = p.span} {b = r.span} (same_of k m v q)))
same_of (group d a c k) (group f b x m) v e =
    let h : d ≡ f = cc in
    let q : bare k ≡ bare m = cc in
    let r : bare c ≡ bare x = cc in
    subst (λ z. Same (group z a c k) (group f b x m)) (sym h) (same_group {d = f} {a = a} {b = b} v.0 (same_of c x v.1 r) (same_of k m v.2 q))
same_of l (enter b m) v e = absurd v
same_of l (leave m) v e = absurd v
same_of done (word j m) v e = absurd (cc)
same_of done (mark j m) v e = absurd (cc)
same_of done (lit j m) v e = absurd (cc)
same_of done (group f b x m) v e = absurd (cc)
same_of (word i k) done v e = absurd (cc)
same_of (word i k) (mark j m) v e = absurd (cc)
same_of (word i k) (lit j m) v e = absurd (cc)
same_of (word i k) (group f b x m) v e = absurd (cc)
same_of (mark i k) done v e = absurd (cc)
same_of (mark i k) (word j m) v e = absurd (cc)
same_of (mark i k) (lit j m) v e = absurd (cc)
same_of (mark i k) (group f b x m) v e = absurd (cc)
same_of (lit i k) done v e = absurd (cc)
same_of (lit i k) (word j m) v e = absurd (cc)
same_of (lit i k) (mark j m) v e = absurd (cc)
same_of (lit i k) (group f b x m) v e = absurd (cc)
same_of (group d a c k) done v e = absurd (cc)
same_of (group d a c k) (word j m) v e = absurd (cc)
same_of (group d a c k) (mark j m) v e = absurd (cc)
same_of (group d a c k) (lit j m) v e = absurd (cc)
same_of (enter a k) done v e = absurd (cc)
same_of (enter a k) (word j m) v e = absurd (cc)
same_of (enter a k) (mark j m) v e = absurd (cc)
same_of (enter a k) (lit j m) v e = absurd (cc)
same_of (enter a k) (group f b x m) v e = absurd (cc)
same_of (leave k) done v e = absurd (cc)
same_of (leave k) (word j m) v e = absurd (cc)
same_of (leave k) (mark j m) v e = absurd (cc)
same_of (leave k) (lit j m) v e = absurd (cc)
same_of (leave k) (group f b x m) v e = absurd (cc)

-- ---- what is left of a list

pub data Rest (k : Toks) : Toks → Type 0 where
  all_left : Rest k k
  past_word : {i : _} {m : Toks} → Rest k m → Rest k (word i m)
  past_mark : {i : _} {m : Toks} → Rest k m → Rest k (mark i m)
  past_lit : {i : _} {m : Toks} → Rest k m → Rest k (lit i m)
  past_group : {d : Delimiter} {a : DelimSpan} {c m : Toks} → Rest k m → Rest k (group d a c m)

pub onward : {k m n : Toks} → Rest k m → Rest m n → Rest k n
onward r all_left = r
onward r (past_word s) = past_word (onward r s)
onward r (past_mark s) = past_mark (onward r s)
onward r (past_lit s) = past_lit (onward r s)
onward r (past_group s) = past_group (onward r s)

shorter : {k m : Toks} → Rest k m → size k ≤ size m
shorter all_left = omega arith
shorter (past_word s) = omega (arith, shorter s)
shorter (past_mark s) = omega (arith, shorter s)
shorter (past_lit s) = omega (arith, shorter s)
shorter (past_group s) = omega (arith, shorter s)

too_long : {n m : Toks} (x : ℕ) → Rest n m → x ≡ suc (size m) → x ≡ size n → ⊥
too_long x s e h = omega (arith, shorter s, e, h)

-- two rests of one list that are as long are the same
pub one_rest : (k n m : Toks) → Rest k m → Rest n m → size k ≡ size n → k ≡ n
one_rest k n m all_left all_left e = refl
one_rest k n (word i m) all_left (past_word s) e = absurd (too_long _ s refl e)
one_rest k n (mark i m) all_left (past_mark s) e = absurd (too_long _ s refl e)
one_rest k n (lit i m) all_left (past_lit s) e = absurd (too_long _ s refl e)
one_rest k n (group d a c m) all_left (past_group s) e = absurd (too_long _ s refl e)
one_rest k n (word i m) (past_word s) all_left e = absurd (too_long _ s refl (sym e))
one_rest k n (mark i m) (past_mark s) all_left e = absurd (too_long _ s refl (sym e))
one_rest k n (lit i m) (past_lit s) all_left e = absurd (too_long _ s refl (sym e))
one_rest k n (group d a c m) (past_group s) all_left e = absurd (too_long _ s refl (sym e))
one_rest k n (word i m) (past_word s) (past_word t) e = one_rest k n m s t e
one_rest k n (mark i m) (past_mark s) (past_mark t) e = one_rest k n m s t e
one_rest k n (lit i m) (past_lit s) (past_lit t) e = one_rest k n m s t e
one_rest k n (group d a c m) (past_group s) (past_group t) e = one_rest k n m s t e

pub same_size : {l m : Toks} → Same l m → size l ≡ size m
same_size same_done = refl
same_size (same_word s) = ap suc (same_size s)
same_size (same_mark s) = ap suc (same_size s)
same_size (same_lit s) = ap suc (same_size s)
same_size (same_group v c s) = ap suc (same_size s)

-- ---- what a tree spells on the front of a list, a tree that is the same spells on the front of a list that is the same

pub record Moved {A : Type 0} (free : A → A) (Is : A → Toks → Toks → Type 0) (x : A) (r m : Toks) : Type 0 where
  pub tree : A
  pub rest : Toks
  pub is : Is tree m rest
  pub same : free tree ≡ free x
  pub on : Same r rest
  pub part : Rest rest m

abbrev pub Mover : {A : Type 0} → (A → A) → (A → Toks → Toks → Type 0) → Type 0
Mover free Is = (x : _) (l r m : Toks) → Is x l r → Same l m → Moved free Is x r m

-- all of a list
pub at_end : {A : Type 0} {free : A → A} {Is : A → Toks → Toks → Type 0} {x : A} {m : Toks} → Moved free Is x done m → (a : A) × Is a m done × (free a ≡ free x)
at_end {Is = Is} {m = m} q = (q.tree, ended q.rest q.on q.is, q.same)
  where
    ended : (k : Toks) → Same done k → Is q.tree m k → Is q.tree m done
    ended k same_done i = i

-- ---- the promise follows

answered : {A : Type 0} (G : Grammar A) (free : A → A) (l : Toks) (a b : A) → ((c : A) → G.spells true c l → c ≡ a) → (c : A) × G.spells true c l × (free c ≡ free b) → free b ≡ free a
answered G free l a b unique (c, i, e) = sym e ∙ ap free (unique c i)

read : {A : Type 0} (G : Grammar A) (free : A → A) → Moves G free → (l : Toks) (o : Option A) → Headline G l o → Aside G free l o
read G free moves l (Some a) h = λ v m s b i. answered G free l a b (h v).unique (moves b m l v i s)
read G free moves l None h = λ v m s b i. let q = moves b m l v i s in h v q.0 q.1

-- a list has one tree, since the read answers each that spells it clearly
one_tree : {A : Type 0} (G : Grammar A) → Lawful G → (l : Toks) (a b : A) → Visible l → G.spells true a l → G.spells true b l → b ≡ a
one_tree {A} G laws l a b v i j = let e : ◌≡◌ {A = Result A Refusal} (Ok b) (Ok a) = sym (again G laws l b v j) ∙ again G laws l a v i in cc

pub aside : {A : Type 0} (G : Grammar A) (free : A → A) → Lawful G → Moves G free → Asides G free
aside G free laws moves = record {
  read = read G free moves;
  trees = λ l m v s a b i j. answered G free l a b (λ c k. one_tree G laws l a c v i k) (moves b m l v j s);
}

-- a grammar by what its trees spell on the front of a list
pub moves : {A : Type 0} (G : Grammar A) (free : A → A) (Is : A → Toks → Toks → Type 0) → ((x : A) (l : Toks) → G.spells true x l → Is x l done) → ((x : A) (l : Toks) → Is x l done → G.spells true x l) → Mover free Is → Moves G free
moves G free Is there back f b m l v i s = let q = at_end (f b m done l (there b m i) (same_of m l v s)) in (q.0, back q.0 l q.1, q.2)
