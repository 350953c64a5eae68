-- Values joined by marks: where they are read, they are spelt; where they are spelt, they are read; and their print spells them.
use Rattle.std.proofs.Common.{◌≡◌, ℕ, zero, suc, ◌<◌, ◌≤◌, Bool, true, false, List, [], ◌∷◌, ◌++◌, map, Option, Ok, inl, inr, refl, sym, ◌∙◌, ap, subst, arith}
use Rattle.token_core.specs.declared.span.Span.{Span}
use Rattle.token_core.specs.Toks.{Toks}
use Rattle.token_core.specs.Trees.{row}
use Rattle.token_core.specs.Prints.{Print}
use Rattle.token_core.specs.Stream.{Scope, Stream}
use Rattle.token_core.specs.Rebuilt.{Visible}
use Rattle.token_core.specs.Reads.{Reader}
use Rattle.token_core.specs.Lists as lists
use Rattle.token_core.specs.Loops.{size, Many, listed_from, listed}
use Rattle.token_core.specs.Listed.{AreListed, none_left, last_value, value_and_mark}
use Rattle.token_core.proofs.Rows.{row-append}
use Rattle.token_core.proofs.Steps.{link, chosen, Reads_to}
use Rattle.token_core.proofs.Took.{at, branch}
use Rattle.token_core.proofs.Turns.{chain, same_pair}

-- ---- where a list is read, it is spelt

-- Of values and marks it is known that a read of one on tokens without invisible groups leaves such tokens, and that it took
-- what spells the answer, if the stream is then as it should be (`C`, such as: no tree was left over); and so it was before.
module _ {A P : Type 0} (stops : Bool → Toks → Bool) (value : Bool → Reader A) (more : Toks → Bool) (joint : Reader P)
    (V : Bool → A → Toks → Toks → Type 0) (M : P → Toks → Toks → Type 0) (Ends : Bool → Type 0) (C : Stream → Type 0)
    (may_end : (b : Bool) (l : Toks) → stops b l ≡ true → Ends b)
    (seen_value : (b : Bool) (s t : Stream) (x : A) → Visible s.rest → value b s ≡ Ok (x, t) → Visible t.rest)
    (seen_mark : (s t : Stream) (p : P) → Visible s.rest → joint s ≡ Ok (p, t) → Visible t.rest)
    (took_value : (b : Bool) (s t : Stream) (x : A) → Visible s.rest → stops b s.rest ≡ false → value b s ≡ Ok (x, t) → C t → C s × V b x s.rest t.rest)
    (took_mark : (s t : Stream) (p : P) → Visible s.rest → more s.rest ≡ true → joint s ≡ Ok (p, t) → C t → C s × M p s.rest t.rest) where
  abbrev Spelt : Bool → Many A P → Toks → Toks → Type 0
  Spelt b v l r = AreListed V M Ends b v.0 v.1 l r

  at_answer : (b : Bool) (v w : Many A P) (s t u : Stream) → ◌≡◌ {A = Many A P × Stream} (v, t) (w, u) → (C t → C s × Spelt b v s.rest t.rest) → C u → C s × Spelt b w s.rest u.rest
  at_answer b v w s t u e h = subst (λ (z : Many A P × Stream). C z.1 → C s × Spelt b z.0 s.rest z.1.rest) e h

  same_both : (v w : Many A P) (t u : Stream) → (v ≡ w) × (t ≡ u) → ◌≡◌ {A = Many A P × Stream} (v, t) (w, u)
  same_both v w t u e = ap (λ z. (z, t)) e.0 ∙ ap (λ z. (w, z)) e.1

  sound_from : (n : ℕ) (b : Bool) (s t : Stream) (v : Many A P) → Visible s.rest → listed_from stops value more joint n b s ≡ Ok (v, t) → C t → C s × Spelt b v s.rest t.rest
  sound_from zero b s t v h e = cc
  sound_from (suc n) b s t v h e =
      elim (branch (stops b s.rest) _ _ s (Ok (v, t)) e) [
        | inl y ↦ at_answer b ([], []) v s s t (same_both _ v s t (same_pair _ v s t y.1)) (λ k. (k, none_left (may_end b s.rest y.0)))
        | inr y ↦ let c = chain (value b s) _ v t y.1 in
            let hc = seen_value b s c.rest c.value h c.was in
            elim (branch (more c.rest.rest) _ _ c.rest (Ok (v, t)) c.goes) [
              | inl z ↦ let d = chain (joint c.rest) _ v t z.1 in
                  let hd = seen_mark c.rest d.rest d.value hc d.was in
                  let f = chain (listed_from stops value more joint n false d.rest) _ v t d.goes in
                  let i = sound_from n false d.rest f.rest f.value hd f.was in
                  at_answer b (c.value ∷ f.value.0, d.value ∷ f.value.1) v s f.rest t (same_both _ v f.rest t (same_pair _ v f.rest t f.goes))
                  (λ k.
                  let q = i k in
                  let m = took_mark c.rest d.rest d.value hc z.0 d.was q.0 in
                  let w = took_value b s c.rest c.value h y.0 c.was m.0 in
                  (w.0, value_and_mark w.1 m.1 q.1))
              | inr z ↦ at_answer b (c.value ∷ [], []) v s c.rest t (same_both _ v c.rest t (same_pair _ v c.rest t z.1))
                  (λ k.
                  let w = took_value b s c.rest c.value h y.0 c.was k in
                  (w.0, last_value w.1))
            ]
      ]

  pub listed_sound : (b : Bool) (s t : Stream) (v : Many A P) → Visible s.rest → listed stops value more joint b s ≡ Ok (v, t) → C t → C s × AreListed V M Ends b v.0 v.1 s.rest t.rest
  unfolding listed
  listed_sound b s t v h e = sound_from (suc (size s.rest)) b s t v h e

  seen_from : (n : ℕ) (b : Bool) (s t : Stream) (v : Many A P) → Visible s.rest → listed_from stops value more joint n b s ≡ Ok (v, t) → Visible t.rest
  seen_from zero b s t v h e = cc
  seen_from (suc n) b s t v h e =
      elim (branch (stops b s.rest) _ _ s (Ok (v, t)) e) [
        | inl y ↦ subst (λ (z : Stream). Visible z.rest) (same_pair _ v s t y.1).1 h
        | inr y ↦ let c = chain (value b s) _ v t y.1 in
            let hc = seen_value b s c.rest c.value h c.was in
            elim (branch (more c.rest.rest) _ _ c.rest (Ok (v, t)) c.goes) [
              | inl z ↦ let d = chain (joint c.rest) _ v t z.1 in
                  let f = chain (listed_from stops value more joint n false d.rest) _ v t d.goes in
                  subst (λ (z : Stream). Visible z.rest) (same_pair _ v f.rest t f.goes).1 (seen_from n false d.rest f.rest f.value (seen_mark c.rest d.rest d.value hc d.was) f.was)
              | inr z ↦ subst (λ (z : Stream). Visible z.rest) (same_pair _ v c.rest t z.1).1 hc
            ]
      ]

  pub listed_visible : (b : Bool) (s t : Stream) (v : Many A P) → Visible s.rest → listed stops value more joint b s ≡ Ok (v, t) → Visible t.rest
  unfolding listed
  listed_visible b s t v h e = seen_from (suc (size s.rest)) b s t v h e

-- ---- where a list is spelt, it is read

-- Of values it is known that they are read where they are spelt and what may follow them follows, on tokens fewer than the limit.
module _ {A P : Type 0} (stops : Bool → Toks → Bool) (value : Bool → Reader A) (more : Toks → Bool) (joint : Reader P)
    (V : Bool → A → Toks → Toks → Type 0) (M : P → Toks → Toks → Type 0) (Ends : Bool → Type 0) (Follows : Toks → Type 0) (limit : ℕ)
    (reads_value : (b : Bool) (x : A) (l r : Toks) → size l < limit → V b x l r → Follows r → (f : Option Span) (e : Span) (sc : Scope) → Reads_to (value b) x l r f e sc)
    (reads_mark : (p : P) (l r : Toks) → M p l r → (f : Option Span) (e : Span) (sc : Scope) → Reads_to joint p l r f e sc)
    (mark_follows : (p : P) (l r : Toks) → M p l r → Follows l × (more l ≡ true))
    (begins : (b : Bool) (x : A) (l r : Toks) → V b x l r → stops b l ≡ false)
    (takes : (b : Bool) (x : A) (l r : Toks) → V b x l r → size r < size l)
    (keeps : (p : P) (l r : Toks) → M p l r → size r ≤ size l) where
  -- what may follow the list: what may follow a value and isn't a mark; and where the list may end without a value, it stops there
  pub record Closes (r : Toks) : Type 0 where
    pub follows : Follows r
    pub over : more r ≡ false
    pub stops_there : (b : Bool) → Ends b → stops b r ≡ true

  complete_from : (n : ℕ) (b : Bool) (xs : List A) (ps : List P) (l r : Toks) → size l < n → size l < limit → AreListed V M Ends b xs ps l r → Closes r →
      (f : Option Span) (e : Span) (sc : Scope) → Reads_to (listed_from stops value more joint n b) (xs, ps) l r f e sc
  complete_from zero b xs ps l r h lim i o f e sc = absurd (omega (arith, h))
  complete_from (suc n) b xs ps l r h lim (none_left may) o f e sc = record { last = e; reads = chosen (stops b r) true _ _ (at r f e sc) _ (o.stops_there b may) refl }
  complete_from (suc n) b xs ps l r h lim (last_value {x = x} v) o f e sc =
      let q = reads_value b x l r lim v o.follows f e sc in
      record { last = q.last; reads = chosen (stops b l) false _ _ (at l f e sc) _ (begins b x l r v) (link _ q.reads (chosen (more r) false _ _ (at r f q.last sc) _ o.over refl)) }
  complete_from (suc n) b xs ps l r h lim (value_and_mark {x = x} {p = p} {xs = ys} {ps = qs} {m = m} {k = k} v i j) o f e sc =
      let w = mark_follows p m k i in
      let less = takes b x l m v in
      let le = keeps p m k i in
      let q = reads_value b x l m lim v w.0 f e sc in
      let d = reads_mark p m k i f q.last sc in
      let g = complete_from n false ys qs k r (omega (arith, h, less, le)) (omega (arith, lim, less, le)) j o f d.last sc in
      record {
        last = g.last;
        reads = chosen (stops b l) false _ _ (at l f e sc) _ (begins b x l m v) (link _ q.reads (chosen (more m) true _ _ (at m f q.last sc) _ w.1 (link _ d.reads (link _ g.reads refl))));
      }

  pub listed_complete : (b : Bool) (xs : List A) (ps : List P) (l r : Toks) → size l < limit → AreListed V M Ends b xs ps l r → Closes r →
      (f : Option Span) (e : Span) (sc : Scope) → Reads_to (listed stops value more joint b) (xs, ps) l r f e sc
  unfolding listed
  listed_complete b xs ps l r lim i o f e sc = let q = complete_from (suc (size l)) b xs ps l r (omega arith) lim i o f e sc in record { last = q.last; reads = q.reads }

-- ---- what a spelling takes, and the print of what was spelt

module _ {A P : Type 0} (V : Bool → A → Toks → Toks → Type 0) (M : P → Toks → Toks → Type 0) (Ends : Bool → Type 0) where
  -- a list's spelling takes tokens, or none where it is empty
  pub listed_takes : ((b : Bool) (x : A) (l r : Toks) → V b x l r → size r < size l) → ((p : P) (l r : Toks) → M p l r → size r ≤ size l) →
      (b : Bool) (xs : List A) (ps : List P) (l r : Toks) → AreListed V M Ends b xs ps l r → size r ≤ size l
  listed_takes t k b xs ps l r (none_left may) = omega arith
  listed_takes t k b xs ps l r (last_value {x = x} v) = let h = t b x l r v in omega (arith, h)
  listed_takes t k b xs ps l r (value_and_mark {x = x} {p = p} {xs = ys} {ps = qs} {m = m} {k = o} v i j) =
      let h = t b x l m v in
      let g = k p m o i in
      let w = listed_takes t k false ys qs o r j in
      omega (arith, h, g, w)

  -- what holds of each value's and mark's spelling: after it come tokens without invisible groups too
  pub spelt_visible : ((b : Bool) (x : A) (l r : Toks) → V b x l r → Visible l → Visible r) → ((p : P) (l r : Toks) → M p l r → Visible l → Visible r) →
      (b : Bool) (xs : List A) (ps : List P) (l r : Toks) → AreListed V M Ends b xs ps l r → Visible l → Visible r
  spelt_visible t k b xs ps l r (none_left may) h = h
  spelt_visible t k b xs ps l r (last_value {x = x} v) h = t b x l r v h
  spelt_visible t k b xs ps l r (value_and_mark {x = x} {p = p} {xs = ys} {ps = qs} {m = m} {k = o} v i j) h = spelt_visible t k false ys qs o r j (k p m o i (t b x l m v h))

  -- The print of each value's normal form spells it, and so does each mark's print: so does the whole print.
  module _ (W : Bool → A → Toks → Toks → Type 0) (N : P → Toks → Toks → Type 0) (normal : A → A) (f : A → Print) (g : P → Print)
      (value_again : (b : Bool) (x : A) (l r k : Toks) → V b x l r → W b (normal x) (row (f (normal x)) k) k)
      (mark_again : (p : P) (l r k : Toks) → M p l r → N p (row (g p) k) k) where
    pub listed_again : (b : Bool) (xs : List A) (ps : List P) (l r k : Toks) → AreListed V M Ends b xs ps l r → AreListed W N Ends b (map normal xs) ps (row (lists.joined f g (map normal xs) ps) k) k
    listed_again b xs ps l r k (none_left may) = none_left may
    listed_again b xs ps l r k (last_value {x = x} v) =
        subst (λ z. AreListed W N Ends b (normal x ∷ []) [] z k) (sym (row-append (f (normal x)) [] k)) (last_value (value_again b x l r k v))
    listed_again b xs ps l r k (value_and_mark {x = x} {p = p} {xs = ys} {ps = qs} {m = m} {k = o} v i j) =
        let rest = lists.joined f g (map normal ys) qs in
        let whole : row (f (normal x) ++ (g p ++ rest)) k ≡ row (f (normal x)) (row (g p) (row rest k)) =
        row-append (f (normal x)) (g p ++ rest) k ∙ ap (row (f (normal x))) (row-append (g p) rest k) in
        subst (λ z. AreListed W N Ends b (normal x ∷ map normal ys) (p ∷ qs) z k) (sym whole)
        (value_and_mark (value_again b x l m (row (g p) (row rest k)) v) (mark_again p m o (row rest k) i) (listed_again false ys qs o r k j))
