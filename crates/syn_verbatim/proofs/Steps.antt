-- What each step of a read of all that is left takes, and where the read stops.
use Rattle.std.proofs.Common.{◌≡◌, ℕ, zero, suc, ◌<◌, ◌≤◌, Bool, true, false, if◌then◌else◌, List, [], ◌∷◌, ◌++◌, Option, Some, None, is_some, option_map, Ok, Err, refl, sym, ◌∙◌, ap, subst, arith, eq-eqb, append-nil}
use Rattle.token_core.specs.declared.mark.Spans.{Spans}
use Rattle.token_core.specs.declared.token.GroupToken.{GroupToken}
use Rattle.token_core.specs.declared.span.Span.{Span}
use Rattle.token_core.specs.declared.span.DelimSpan.{DelimSpan}
use Rattle.token_core.specs.declared.tree.Delimiter.{Delimiter}
use Rattle.token_core.specs.declared.tree.Group.{Group}
use Rattle.token_core.specs.declared.tree.Ident.{Ident}
use Rattle.token_core.specs.declared.tree.Literal.{Literal}
use Rattle.token_core.specs.declared.tree.Punct.{Punct}
use Rattle.token_core.specs.declared.tree.TokenTree.{TokenTree, out-TokenTree, roll-TokenTree, roll-out-TokenTree}
use Rattle.token_core.specs.declared.tree.TokenTree.TheVariants as t
use Rattle.token_core.specs.declared.tree.TokenTree.TheOpen as o
use Rattle.token_core.specs.Cut.{joined}
use Rattle.token_core.specs.Front.{front, past_ends}
use Rattle.token_core.specs.Groups as groups
use Rattle.token_core.specs.Groups.{within, beyond, as_invisible, next_invisible, sees_invisible, is_there, invisible_at, open_invisible}
use Rattle.token_core.specs.Lits.{sees_lit, read_lit, lit_at, end_of, lit_name}
use Rattle.token_core.specs.Loops.{size}
use Rattle.token_core.specs.Reads.{Outcome, and_then, is_end, is_done, past, inside, as_word, as_punct, as_group, any_text, ident_name, word_meets, word_if, word_past, sees_word, read_word, next_word, read_mark, delimited, bodied, goes_on, expected, three, past_next, past_mark}
use Rattle.token_core.specs.Rebuilt.{Levels, enclose, invisible, stream_of, onto}
use Rattle.token_core.specs.Refusal.{Refusal}
use Rattle.token_core.specs.Stream.{Stream}
use Rattle.token_core.specs.Toks.{Toks, done, word, mark, lit, group, enter, leave}
use Rattle.token_core.specs.Trees.{group_of}
use Rattle.token_core.specs.Positions.{Item, an_ident, a_punct, a_literal, a_beginning, an_end, items, tree_items, has_tree}
use Rattle.token_core.proofs.Positions.{ident_items, punct_items, literal_items, a_group_items}
use Rattle.token_core.proofs.Steps.{link, chosen}
use Rattle.token_core.proofs.Took.{at}
use Rattle.token_core.proofs.Turns.{same_pair}
use Rattle.syn_verbatim.specs.Held.{seen, levels, held, after, last, outside, ended}
use Rattle.syn_verbatim.specs.Held as h
use Rattle.syn_verbatim.specs.Reading.{token, token_by, literal, visible, rest, mark_name, mark_here, mark_layer, mark_of}
use Rattle.syn_verbatim.specs.Reading as reading

-- ---- an invisible group, and what follows it

abbrev firsts : ℕ → List (List TokenTree) → List (List TokenTree)
firsts zero ys = []
firsts (suc n) [] = []
firsts (suc n) (y ∷ ys) = y ∷ firsts n ys

firsts-none : (n : ℕ) → firsts n [] ≡ []
firsts-none zero = refl
firsts-none (suc n) = refl

abbrev others : ℕ → List (List TokenTree) → List (List TokenTree)
others zero ys = ys
others (suc n) [] = []
others (suc n) (y ∷ ys) = others n ys

others-none : (n : ℕ) → others n [] ≡ []
others-none zero = refl
others-none (suc n) = refl

enclose-firsts : (s : DelimSpan) (n : ℕ) (v : Levels) → enclose s (v.0, firsts (suc n) v.1) ≡ ((enclose s v).0, firsts n (enclose s v).1)
enclose-firsts s n (x, []) = ap (λ z. (invisible s x ∷ [], z)) (sym (firsts-none n))
enclose-firsts s n (x, y ∷ ys) = refl

levels-within : (n : ℕ) (k : Toks) → levels (within n k) ≡ ((levels k).0, firsts n (levels k).1)
levels-within n done = ap (λ z. ([], z)) (sym (firsts-none n))
levels-within n (word i k) = ap (onto (t.Ident i)) (levels-within n k)
levels-within n (mark p k) = ap (onto (t.Punct p)) (levels-within n k)
levels-within n (lit x k) = ap (onto (t.Literal x)) (levels-within n k)
levels-within n (group b s c k) = ap (onto (t.Group (group_of (seen b) (stream_of c) s))) (levels-within n k)
levels-within n (enter s k) = ap (enclose s) (levels-within (suc n) k) ∙ enclose-firsts s n (levels k)
levels-within zero (leave k) = refl
levels-within (suc n) (leave k) = ap (λ (v : Levels). ([], v.0 ∷ v.1)) (levels-within n k)

others-enclose : (s : DelimSpan) (n : ℕ) (v : Levels) → others (suc n) v.1 ≡ others n (enclose s v).1
others-enclose s n (x, []) = sym (others-none n)
others-enclose s n (x, y ∷ ys) = refl

held-beyond : (n : ℕ) (k : Toks) → held (beyond n k) ≡ joined (others n (levels k).1)
unfolding held
held-beyond n done = ap joined (sym (others-none n))
held-beyond n (word i k) = held-beyond n k
held-beyond n (mark p k) = held-beyond n k
held-beyond n (lit x k) = held-beyond n k
held-beyond n (group b s c k) = held-beyond n k
held-beyond n (enter s k) = held-beyond (suc n) k ∙ ap joined (others-enclose s n (levels k))
held-beyond zero (leave k) = refl
held-beyond (suc n) (leave k) = held-beyond n k

enclosed : (s : DelimSpan) (v : Levels) → (enclose s v).0 ++ joined (enclose s v).1 ≡ invisible s v.0 ∷ joined (others zero v.1)
enclosed s (x, []) = refl
enclosed s (x, y ∷ ys) = refl

held-within : (k : Toks) → held (within zero k) ≡ (levels k).0
unfolding held
held-within k = ap (λ (v : Levels). v.0 ++ joined v.1) (levels-within zero k) ∙ append-nil (levels k).0

held-enter : (s : DelimSpan) (k : Toks) → held (enter s k) ≡ invisible s (held (within zero k)) ∷ held (beyond zero k)
unfolding held
held-enter s k =
    enclosed s (levels k) ∙ ap (λ z. invisible s z ∷ joined (others zero (levels k).1)) (sym (held-within k)) ∙ ap (λ z. invisible s (held (within zero k)) ∷ z) (sym (held-beyond zero k))

after-beyond : (n : ℕ) (k : Toks) → after (suc n) k ≡ after zero (beyond n k)
after-beyond n done = refl
after-beyond n (word i k) = after-beyond n k
after-beyond n (mark p k) = after-beyond n k
after-beyond n (lit x k) = after-beyond n k
after-beyond n (group b s c k) = after-beyond n k
after-beyond n (enter s k) = after-beyond (suc n) k
after-beyond zero (leave k) = refl
after-beyond (suc n) (leave k) = after-beyond n k

last-beyond : (n : ℕ) (e : Span) (k : Toks) → last (h.inside n e) k ≡ last (outside e) (beyond n k)
last-beyond n e done = refl
last-beyond n e (word i k) = last-beyond n e k
last-beyond n e (mark p k) = last-beyond n e k
last-beyond n e (lit x k) = last-beyond n e k
last-beyond n e (group b s c k) = last-beyond n e k
last-beyond n e (enter s k) = last-beyond (suc n) e k
last-beyond zero e (leave k) = refl
last-beyond (suc n) e (leave k) = last-beyond n e k

size-within : (n : ℕ) (k : Toks) → size (within n k) ≤ size k
size-within n done = omega arith
size-within n (word i k) = let h = size-within n k in omega (arith, h)
size-within n (mark p k) = let h = size-within n k in omega (arith, h)
size-within n (lit x k) = let h = size-within n k in omega (arith, h)
size-within n (group b s c k) = let h = size-within n k in omega (arith, h)
size-within n (enter s k) = let h = size-within (suc n) k in omega (arith, h)
size-within zero (leave k) = omega arith
size-within (suc n) (leave k) = let h = size-within n k in omega (arith, h)

size-beyond : (n : ℕ) (k : Toks) → size (beyond n k) ≤ size k
size-beyond n done = omega arith
size-beyond n (word i k) = let h = size-beyond n k in omega (arith, h)
size-beyond n (mark p k) = let h = size-beyond n k in omega (arith, h)
size-beyond n (lit x k) = let h = size-beyond n k in omega (arith, h)
size-beyond n (group b s c k) = let h = size-beyond n k in omega (arith, h)
size-beyond n (enter s k) = let h = size-beyond (suc n) k in omega (arith, h)
size-beyond zero (leave k) = omega arith
size-beyond (suc n) (leave k) = let h = size-beyond n k in omega (arith, h)

-- ---- one step: the tree that is taken, what follows it, and its span

record Step (l : Toks) (x : TokenTree) (k : Toks) (e : Span) : Type 0 where
  holds : held l ≡ x ∷ held k
  stops : after zero l ≡ after zero k
  ends : (f : Span) → last (outside f) l ≡ last (outside e) k
  less : size k < size l

held-leave : (k : Toks) → held (leave k) ≡ held k
unfolding held
held-leave k = refl

goes_past : (b : Bool) (k : Toks) → b ≡ false → (if b then leave k else after zero k) ≡ after zero k
goes_past true k h = cc
goes_past false k h = refl

step-leave : (x : TokenTree) (k r : Toks) (e : Span) → is_end (past_ends k) ≡ false → Step k x r e → Step (leave k) x r e
step-leave x k r e n w =
    let less = w.less in
    record { holds = held-leave k ∙ w.holds; stops = goes_past (is_end (past_ends k)) k n ∙ w.stops; ends = w.ends; less = omega (arith, less) }

abbrev Hidden : Type 0
Hidden = DelimSpan × Toks × Toks

not_end : (k : Toks) (q : Hidden) → as_invisible k ≡ Some q → is_end k ≡ false
not_end done q e = cc
not_end (word i k) q e = refl
not_end (mark p k) q e = refl
not_end (lit x k) q e = refl
not_end (group b s c k) q e = refl
not_end (enter s k) q e = refl
not_end (leave k) q e = refl

record Opens (l : Toks) (q : Hidden) : Type 0 where
  step : Step l (invisible q.0 (held q.1)) q.2 q.0.closing
  fewer : size q.1 < size l

opens_enter : (s : DelimSpan) (k : Toks) → Opens (enter s k) (s, within zero k, beyond zero k)
opens_enter s k =
    let a = size-within zero k in
    let b = size-beyond zero k in
    record {
      step = record { holds = held-enter s k; stops = after-beyond zero k; ends = λ f. last-beyond zero s.closing k; less = omega (arith, b) };
      fewer = omega (arith, a);
    }

opens : (l : Toks) (q : Hidden) → next_invisible l ≡ Some q → Opens l q
opens done q e = cc
opens (word i k) q e = cc
opens (mark p k) q e = cc
opens (lit x k) q e = cc
opens (group b s c k) q e = cc
opens (enter s k) q e = let f : ◌≡◌ {A = Hidden} (s, within zero k, beyond zero k) q = cc in subst (Opens (enter s k)) f (opens_enter s k)
opens (leave k) q e =
    let w = opens k q e in
    let fewer = w.fewer in
    record { step = step-leave _ k q.2 q.0.closing (not_end (past_ends k) q e) w.step; fewer = omega (arith, fewer) }

-- ---- a step of a stream

pub record Moves (s t : Stream) (x : TokenTree) : Type 0 where
  pub holds : held s.rest ≡ x ∷ held t.rest
  pub ends : ended s ≡ ended t
  pub less : size t.rest < size s.rest

moves : (s : Stream) (x : TokenTree) (k : Toks) (e : Span) → Step s.rest x k e → Moves s (past s k e) x
unfolding ended
moves s x k e w = record { holds = w.holds; ends = ap (λ z. at z s.left (last (outside s.last) s.rest) s.scope) w.stops ∙ ap (λ z. at (after zero k) s.left z s.scope) (w.ends s.last); less = w.less }

-- ---- an invisible group

abbrev opened_at : Stream → Option Hidden → Outcome TokenTree
opened_at s o = and_then (groups.opened groups.group_token (invisible_at s o)) (λ g. λ u. reading.closed g.0 u (rest g.1))

invisible-opened : (s : Stream) → reading.invisible s ≡ opened_at s (next_invisible s.rest)
unfolding reading.invisible open_invisible
invisible-opened s = refl

pub invisible-moves : (s t : Stream) (x : TokenTree) → reading.invisible s ≡ Ok (x, t) → Moves s t x
unfolding rest
invisible-moves s t x e = at_front (next_invisible s.rest) refl (sym (invisible-opened s) ∙ e)
  where
    at_front : (o : Option Hidden) → next_invisible s.rest ≡ o → opened_at s o ≡ Ok (x, t) → Moves s t x
    at_front None i e = cc
    at_front (Some q) i e =
        let y = invisible q.0 (held q.1) in
        let g = same_pair y x (past s q.2 q.0.closing) t e in
        subst (λ z. Moves s z x) g.1 (subst (Moves s (past s q.2 q.0.closing)) g.0 (moves s y q.2 q.0.closing (opens s.rest q i).step))

pub invisible-answers : (s : Stream) (e : Refusal) → sees_invisible s.rest ≡ true → reading.invisible s ≡ Err e → ⊥
unfolding sees_invisible rest
invisible-answers s e h k = at_front (next_invisible s.rest) h (sym (invisible-opened s) ∙ k)
  where
    at_front : (o : Option Hidden) → is_there o ≡ true → opened_at s o ≡ Err e → ⊥
    at_front None h k = cc
    at_front (Some q) h k = cc

-- what it holds is less
pub invisible-holds : (s t : Stream) (g : GroupToken × Stream) → groups.opened groups.group_token (open_invisible s) ≡ Ok (g, t) → size g.1.rest < size s.rest
unfolding open_invisible
invisible-holds s t g e = at_front (next_invisible s.rest) refl e
  where
    at_front : (o : Option Hidden) → next_invisible s.rest ≡ o → groups.opened groups.group_token (invisible_at s o) ≡ Ok (g, t) → size g.1.rest < size s.rest
    at_front None i e = cc
    at_front (Some q) i e =
        let a : GroupToken × Stream = (groups.group_token q.0, inside s q.0 q.1 q.2) in
        let w = same_pair a g (past s q.2 q.0.closing) t e in
        subst (λ (z : GroupToken × Stream). size z.1.rest < size s.rest) w.0 (opens s.rest q i).fewer

-- ---- a token

-- what reads the front token, wherever it stands
record Takes (l : Toks) : Type 0 where
  tree : TokenTree
  more : Toks
  span : Span
  front_is : Toks
  at_front : front l ≡ front_is
  at_ends : past_ends l ≡ front_is
  reads : (s : Stream) → front s.rest ≡ front_is → past_ends s.rest ≡ front_is → token s ≡ Ok (tree, past s more span)
  step : Step l tree more span
  real : is_end (past_ends l) ≡ false

no_enter : (s : DelimSpan) (k : Toks) → sees_invisible (enter s k) ≡ false → ⊥
unfolding sees_invisible
no_enter s k h = cc

hidden_leave : (k : Toks) → sees_invisible (leave k) ≡ sees_invisible k
unfolding sees_invisible
hidden_leave k = refl

done_leave : (k : Toks) → is_done (leave k) ≡ is_done k
unfolding is_done
done_leave k = refl

not_done : is_done done ≡ false → ⊥
unfolding is_done
not_done h = cc

held-word : (i : Ident) (k : Toks) → held (word i k) ≡ t.Ident i ∷ held k
unfolding held
held-word i k = refl

held-mark : (p : Punct) (k : Toks) → held (mark p k) ≡ t.Punct p ∷ held k
unfolding held
held-mark p k = refl

held-lit : (x : Literal) (k : Toks) → held (lit x k) ≡ t.Literal x ∷ held k
unfolding held
held-lit x k = refl

held-group : (b : Delimiter) (s : DelimSpan) (c k : Toks) → held (group b s c k) ≡ t.Group (group_of (seen b) (stream_of c) s) ∷ held k
unfolding held
held-group b s c k = refl

module _ (s : Stream) where
  reads-word : (i : Ident) (k : Toks) → front s.rest ≡ word i k → read_word any_text ident_name s ≡ Ok (i, past s k i.span)
  unfolding read_word next_word
  reads-word i k e = ap (λ f. word_if any_text (expected ident_name s) (word_past s (as_word f))) e

  sees-word : (f : Toks) → front s.rest ≡ f → sees_word any_text s.rest ≡ word_meets any_text (as_word f)
  unfolding sees_word
  sees-word f e = ap (λ z. word_meets any_text (as_word z)) e

  sees-lit : (f : Toks) → front s.rest ≡ f → sees_lit s.rest ≡ is_some (lit_at f)
  unfolding sees_lit
  sees-lit f e = ap (λ z. is_some (lit_at z)) e

  by_front : (f : Toks) → front s.rest ≡ f → token s ≡ token_by (option_map (λ p. p.0) (as_punct f)) s
  unfolding token
  by_front f e = ap (λ z. token_by (option_map (λ p. p.0) (as_punct z)) s) e

  token-word : (i : Ident) (k : Toks) → front s.rest ≡ word i k → token s ≡ Ok (t.Ident i, past s k i.span)
  token-word i k e = by_front (word i k) e ∙ chosen (sees_word any_text s.rest) true _ _ s _ (sees-word (word i k) e) (link _ (reads-word i k e) refl)

  reads-mark : (p : Punct) (k : Toks) → front s.rest ≡ mark p k → read_mark (p.ch ∷ []) mark_name s ≡ Ok (three p.span p.span p.span, past s k p.span)
  unfolding read_mark
  reads-mark p k e =
      ap (λ f. goes_on (λ (m : Spans). m.third) (expected mark_name s) s (past_next p.ch true (past_mark []) (as_punct f))) e
      ∙ ap (λ (b : Bool). goes_on (λ (m : Spans). m.third) (expected mark_name s) s (if b then Some (three p.span p.span p.span, k) else None)) (eq-eqb p.ch p.ch refl)

  token-mark : (p : Punct) (k : Toks) → front s.rest ≡ mark p k → token s ≡ Ok (t.Punct p, past s k p.span)
  token-mark p k e = by_front (mark p k) e ∙ link _ (reads-mark p k e) refl

  reads-literal : (x : Literal) (k : Toks) → front s.rest ≡ lit x k → literal s ≡ Ok (t.Literal x, past s k x.span)
  unfolding literal read_lit
  reads-literal x k e = link _ (ap (λ f. goes_on end_of (expected lit_name s) s (lit_at f)) e) refl

  token-lit : (x : Literal) (k : Toks) → front s.rest ≡ lit x k → token s ≡ Ok (t.Literal x, past s k x.span)
  token-lit x k e =
      by_front (lit x k) e ∙ chosen (sees_word any_text s.rest) false _ _ s _ (sees-word (lit x k) e) (chosen (sees_lit s.rest) true _ _ s _ (sees-lit (lit x k) e) (reads-literal x k e))

  reads-visible : (b : Delimiter) (p : DelimSpan) (c k : Toks) → past_ends s.rest ≡ group b p c k → visible s ≡ Ok (t.Group (group_of (seen b) (stream_of c) p), past s k p.closing)
  unfolding visible delimited
  reads-visible b p c k e = link _ (ap (λ f. bodied s (as_group f)) e) refl

  token-group : (b : Delimiter) (p : DelimSpan) (c k : Toks) → front s.rest ≡ group b p c k → past_ends s.rest ≡ group b p c k → token s ≡ Ok (t.Group (group_of (seen b) (stream_of c) p), past s k p.closing)
  token-group b p c k e i =
      by_front (group b p c k) e ∙ chosen (sees_word any_text s.rest) false _ _ s _ (sees-word (group b p c k) e) (chosen (sees_lit s.rest) false _ _ s _ (sees-lit (group b p c k) e) (reads-visible b p c k i))

takes : (l : Toks) → is_done l ≡ false → sees_invisible l ≡ false → Takes l
takes done n h = absurd (not_done n)
takes (word i k) n h = record {
  tree = t.Ident i;
  more = k;
  span = i.span;
  front_is = word i k;
  at_front = refl;
  at_ends = refl;
  reads = λ s e w. token-word s i k e;
  step = record { holds = held-word i k; stops = refl; ends = λ f. refl; less = omega arith };
  real = refl;
}
takes (mark p k) n h = record {
  tree = t.Punct p;
  more = k;
  span = p.span;
  front_is = mark p k;
  at_front = refl;
  at_ends = refl;
  reads = λ s e w. token-mark s p k e;
  step = record { holds = held-mark p k; stops = refl; ends = λ f. refl; less = omega arith };
  real = refl;
}
takes (lit x k) n h = record {
  tree = t.Literal x;
  more = k;
  span = x.span;
  front_is = lit x k;
  at_front = refl;
  at_ends = refl;
  reads = λ s e w. token-lit s x k e;
  step = record { holds = held-lit x k; stops = refl; ends = λ f. refl; less = omega arith };
  real = refl;
}
takes (group b p c k) n h = record {
  tree = t.Group (group_of (seen b) (stream_of c) p);
  more = k;
  span = p.closing;
  front_is = group b p c k;
  at_front = refl;
  at_ends = refl;
  reads = λ s e w. token-group s b p c k e w;
  step = record { holds = held-group b p c k; stops = refl; ends = λ f. refl; less = omega arith };
  real = refl;
}
takes (enter s k) n h = absurd (no_enter s k h)
takes (leave k) n h =
    let w = takes k (sym (done_leave k) ∙ n) (sym (hidden_leave k) ∙ h) in
    record {
      tree = w.tree;
      more = w.more;
      span = w.span;
      front_is = w.front_is;
      at_front = w.at_front;
      at_ends = w.at_ends;
      reads = w.reads;
      step = step-leave w.tree k w.more w.span w.real w.step;
      real = w.real;
    }

module _ (s : Stream) (n : is_done s.rest ≡ false) (h : sees_invisible s.rest ≡ false) where
  abbrev taken : Takes s.rest
  taken = takes s.rest n h

  taken-reads : token s ≡ Ok (taken.tree, past s taken.more taken.span)
  taken-reads = taken.reads s taken.at_front taken.at_ends

  pub token-moves : (t : Stream) (x : TokenTree) → token s ≡ Ok (x, t) → Moves s t x
  token-moves t x e =
      let w = taken in
      let g = same_pair w.tree x (past s w.more w.span) t (sym taken-reads ∙ e) in
      subst (λ z. Moves s z x) g.1 (subst (Moves s (past s w.more w.span)) g.0 (moves s w.tree w.more w.span w.step))

  pub token-answers : (e : Refusal) → token s ≡ Err e → ⊥
  token-answers e k = let g : ◌≡◌ {A = Outcome TokenTree} (Ok (taken.tree, past s taken.more taken.span)) (Err e) = sym taken-reads ∙ k in cc

-- ---- the mark at the front

abbrev item_mark : Item → Option Punct
item_mark (an_ident i) = None
item_mark (a_punct p) = Some p
item_mark (a_literal x) = None
item_mark (a_beginning b s) = None
item_mark an_end = None

first-mark : (l : Toks) (more : List Item) (z : Item) (m : List Item) → is_done l ≡ false → sees_invisible l ≡ false → items (past_ends l) ++ more ≡ z ∷ m → item_mark z ≡ mark_here l
first-mark done more z m n h e = absurd (not_done n)
first-mark (word i k) more z m n h e = let f : an_ident i ≡ z = cc in ap item_mark (sym f)
first-mark (mark p k) more z m n h e = let f : a_punct p ≡ z = cc in ap item_mark (sym f)
first-mark (lit x k) more z m n h e = let f : a_literal x ≡ z = cc in ap item_mark (sym f)
first-mark (group b s c k) more z m n h e = let f : a_beginning b s ≡ z = cc in ap item_mark (sym f)
first-mark (enter s k) more z m n h e = absurd (no_enter s k h)
first-mark (leave k) more z m n h e = first-mark k more z m (sym (done_leave k) ∙ n) (sym (hidden_leave k) ∙ h) e

module _ (l : Toks) (more : List Item) (n : is_done l ≡ false) (h : sees_invisible l ≡ false) where
  layer-mark : (y : o.TokenTree-F TokenTree Group) (r : List Item) → items (past_ends l) ++ more ≡ tree_items (roll-TokenTree y) ++ r → mark_layer y ≡ mark_here l
  layer-mark (o.Ident i) r e = first-mark l more (an_ident i) r n h (e ∙ ap (λ z. z ++ r) (ap tree_items (t.rolls-Ident i) ∙ ident_items i))
  layer-mark (o.Punct p) r e = first-mark l more (a_punct p) r n h (e ∙ ap (λ z. z ++ r) (ap tree_items (t.rolls-Punct p) ∙ punct_items p))
  layer-mark (o.Literal x) r e = first-mark l more (a_literal x) r n h (e ∙ ap (λ z. z ++ r) (ap tree_items (t.rolls-Literal x) ∙ literal_items x))
  layer-mark (o.Group g) r e = first-mark l more (a_beginning _ _) _ n h (e ∙ ap (λ z. z ++ r) (ap tree_items (t.rolls-Group g) ∙ a_group_items g))

  pub tree-mark : (x : TokenTree) (r : List Item) → items (past_ends l) ++ more ≡ tree_items x ++ r → mark_of x ≡ mark_here l
  tree-mark x r e = layer-mark (out-TokenTree x) r (e ∙ ap (λ z. tree_items z ++ r) (sym (roll-out-TokenTree x)))

-- a tree stands there
pub tree-there : (l : Toks) (more : List Item) → is_done l ≡ false → sees_invisible l ≡ false → has_tree (items (past_ends l) ++ more) ≡ false → ⊥
tree-there done more n h e = not_done n
tree-there (word i k) more n h e = cc
tree-there (mark p k) more n h e = cc
tree-there (lit x k) more n h e = cc
tree-there (group b s c k) more n h e = cc
tree-there (enter s k) more n h e = no_enter s k h
tree-there (leave k) more n h e = tree-there k more (sym (done_leave k) ∙ n) (sym (hidden_leave k) ∙ h) e

-- ---- the end

over : (l : Toks) → is_end (front l) ≡ true → is_there (next_invisible l) ≡ false → is_end (past_ends l) ≡ true
over done n h = refl
over (word i k) n h = cc
over (mark p k) n h = cc
over (lit x k) n h = cc
over (group b s c k) n h = cc
over (enter s k) n h = cc
over (leave k) n h = over k n h

held-over : (l : Toks) → is_end (past_ends l) ≡ true → held l ≡ []
unfolding held
held-over done h = refl
held-over (word i k) h = cc
held-over (mark p k) h = cc
held-over (lit x k) h = cc
held-over (group b s c k) h = cc
held-over (enter s k) h = cc
held-over (leave k) h = held-over k h

after-over : (l : Toks) → is_end (past_ends l) ≡ true → after zero l ≡ l
after-over done h = refl
after-over (word i k) h = cc
after-over (mark p k) h = cc
after-over (lit x k) h = cc
after-over (group b s c k) h = cc
after-over (enter s k) h = cc
after-over (leave k) h = ap (λ (b : Bool). if b then leave k else after zero k) h

last-over : (e : Span) (l : Toks) → is_end (past_ends l) ≡ true → last (outside e) l ≡ e
last-over e done h = refl
last-over e (word i k) h = cc
last-over e (mark p k) h = cc
last-over e (lit x k) h = cc
last-over e (group b s c k) h = cc
last-over e (enter s k) h = cc
last-over e (leave k) h = last-over e k h

module _ (s : Stream) (n : is_done s.rest ≡ true) (h : sees_invisible s.rest ≡ false) where
  is_over : is_end (past_ends s.rest) ≡ true
  unfolding is_done sees_invisible
  is_over = over s.rest n h

  pub no_more : held s.rest ≡ []
  no_more = held-over s.rest is_over

  pub stays : ended s ≡ s
  unfolding ended
  stays = ap (λ z. at z s.left (last (outside s.last) s.rest) s.scope) (after-over s.rest is_over) ∙ ap (λ z. at s.rest s.left z s.scope) (last-over s.last s.rest is_over)
