-- Where bounds joined by `+` are read, they are spelt, one that a `+` follows is not open, and where the last is open no `+` follows.
use Rattle.std.proofs.Common.{◌≡◌, ℕ, zero, suc, Bool, true, false, [], ◌∷◌, None, Ok, inl, inr, refl, sym, ◌∙◌, subst, arith, not, ◌||◌}
use Rattle.syn_ty.proofs.ty_laws.words.Tokens.{Many, size, listed_from, listed, Reader, any_text, sees_word, Visible, Stream, Toks}
use Rattle.syn_ty.proofs.ty_laws.words.Forms.{BoundPlace, sees_bound, stops_bound}
use Rattle.syn_ty.proofs.ty_laws.words.Types.{AreBounds, no_bounds, last_plus, last_bound, bound_and_plus, Manner, loosely, closed, going_on, Parts, TypeParamBound}
use Rattle.token_core.specs.Tokens as token
use Rattle.token_core.proofs.Listings.{listed_visible}
use Rattle.token_core.proofs.MarkSpells.{mark_sound, mark_visible}
use Rattle.token_core.proofs.Took.{branch}
use Rattle.token_core.proofs.Turns.{chain, same_pair}
use Rattle.syn_path.proofs.Words.{TookOne}
use Rattle.syn_ty.specs.ty.Parts.{after_plus}
use Rattle.syn_ty.proofs.ty_laws.sound.Forms.{Told, never_open, before_plus}

-- ---- a list that goes on at each `+`

not_first : (b c : Bool) → not (b || c) ≡ true → b ≡ false
not_first true c h = cc h
not_first false c h = refl

-- a word begins a further bound
pub word_ends : (consts : Bool) (l : Toks) → stops_bound consts false l ≡ true → sees_word any_text l ≡ false
unfolding sees_bound
word_ends consts l h = not_first _ _ h

module _ {A E : Type 0} (part : Manner → Parts A E) (place : BoundPlace) (Ends : Bool → Type 0) (stops : Bool → Toks → Bool) (value : Reader (TypeParamBound A E))
    (may_end : (b : Bool) (l : Toks) → stops b l ≡ true → Ends b) (no_word : (l : Toks) → stops false l ≡ true → sees_word any_text l ≡ false)
    (took : (s t : Stream) (x : TypeParamBound A E) → Visible s.rest → value s ≡ Ok (x, t) → TookOne (Told ((part loosely).bound place)) s t x) where
  abbrev All : Type 0
  All = Many (TypeParamBound A E) token.Plus

  abbrev Ending : Bool → All → Toks → Toks → Type 0
  Ending b v = Told (λ e (w : All). AreBounds part loosely place Ends b e w.0 w.1) v

  abbrev Took : Bool → All → Stream → Stream → Type 0
  Took b v s t = t.left ≡ None → (s.left ≡ None) × Ending b v s.rest t.rest

  none_at : (b : Bool) (r : Toks) → Ends b → (b ≡ false → sees_word any_text r ≡ false) → Ending b ([], []) r r
  none_at true r h g = (closed, no_bounds h, never_open, never_open)
  none_at false r h g = (after_plus, last_plus h, (λ k. cc k), λ k. g refl)

  at_answer : (b : Bool) (v w : All) (s t u : Stream) → (v ≡ w) × (t ≡ u) → Took b v s t → Took b w s u
  at_answer b v w s t u e h = subst (λ z. Took b w s z) e.1 (subst (λ z. Took b z s t) e.0 h)

  seen_plus : (s t : Stream) (p : token.Plus) → Visible s.rest → token.plus s ≡ Ok (p, t) → Visible t.rest
  seen_plus s t p v e = mark_visible false {n = 20} {k = 1} p s.rest t.rest (mark_sound {n = 20} {k = 1} refl (omega arith) s t p v e).spelt v

  took_from : (n : ℕ) (b : Bool) (s t : Stream) (v : All) → Visible s.rest → listed_from stops (λ (_ : Bool). value) token.sees_plus token.plus n b s ≡ Ok (v, t) → Took b v s t
  took_from zero b s t v h e = cc
  took_from (suc n) b s t v h e =
      elim (branch (stops b s.rest) _ _ s (Ok (v, t)) e) [
        | inl y ↦ at_answer b ([], []) v s s t (same_pair ([], []) v s t y.1) (λ k. (k, none_at b s.rest (may_end b s.rest y.0) (λ g. no_word s.rest (subst (λ z. stops z s.rest ≡ true) g y.0))))
        | inr y ↦ let c = chain (value s) _ v t y.1 in
            let w = took s c.rest c.value h c.was in
            elim (branch (token.sees_plus c.rest.rest) _ _ c.rest (Ok (v, t)) c.goes) [
              | inl z ↦ let d = chain (token.plus c.rest) _ v t z.1 in
                  let m = mark_sound {n = 20} {k = 1} refl (omega arith) c.rest d.rest d.value w.seen d.was in
                  let f = chain (listed_from stops (λ (_ : Bool). value) token.sees_plus token.plus n false d.rest) _ v t d.goes in
                  let i = took_from n false d.rest f.rest f.value (seen_plus c.rest d.rest d.value w.seen d.was) f.was in
                  at_answer b (c.value ∷ f.value.0, d.value ∷ f.value.1) v s f.rest t (same_pair (c.value ∷ f.value.0, d.value ∷ f.value.1) v f.rest t f.goes)
                  (λ k.
                  let q = i k in
                  let l = sym m.left ∙ q.0 in
                  let u = w.spelt l in
                  (w.left l, (q.1.0, bound_and_plus u.1 (before_plus u.0 d.value c.rest.rest d.rest.rest u.2 m.spelt) m.spelt q.1.1, q.1.2, q.1.3)))
              | inr z ↦ at_answer b (c.value ∷ [], []) v s c.rest t (same_pair (c.value ∷ [], []) v c.rest t z.1)
                  (λ k.
                  let u = w.spelt k in
                  (w.left k, (going_on u.0, last_bound u.1, (λ g. z.0), u.3)))
            ]
      ]

  pub bounds_took : (b : Bool) (s t : Stream) (v : All) → Visible s.rest → listed stops (λ (_ : Bool). value) token.sees_plus token.plus b s ≡ Ok (v, t) → TookOne (Ending b) s t v
  unfolding listed
  bounds_took b s t v h e = record {
    left = λ k. (took_from (suc (size s.rest)) b s t v h e k).0;
    seen = listed_visible stops (λ (_ : Bool). value) token.sees_plus token.plus (λ (_ : Bool) x l r. Unit {0}) (λ p l r. Unit {0}) (λ (_ : Bool). Unit {0}) (λ z. Unit {0}) (λ c l i. tt) (λ c a d x u i. (took a d x u i).seen) seen_plus
        (λ c a d x u g i j. (tt, tt)) (λ a d p u g i j. (tt, tt)) b s t v h e;
    spelt = λ k. (took_from (suc (size s.rest)) b s t v h e k).1;
  }
