-- Where bounds go on after a first one that was read before, what follows it is spelt: nothing, where no `+` stands, or a `+` and further bounds, up to where they may end.
use Rattle.std.proofs.Common.{◌≡◌, Bool, true, false, [], ◌∷◌, None, Ok, ◌⊎◌, inl, inr, refl, sym, ◌∙◌, arith}
use Rattle.syn_ty.proofs.ty_laws.words.Tokens.{Many, listed, any_text, sees_word, Visible, IsMark, Stream, Toks}
use Rattle.syn_ty.proofs.ty_laws.words.Forms.{Object, list_from}
use Rattle.syn_ty.proofs.ty_laws.words.Types.{AreBounds, Manner, loosely, Parts, Readers, a_bound, TypeParamBound}
use Rattle.token_core.specs.Tokens as token
use Rattle.token_core.proofs.MarkSpells.{mark_sound, mark_visible}
use Rattle.token_core.proofs.Took.{branch, mapped}
use Rattle.token_core.proofs.Turns.{chain, same_pair}
use Rattle.syn_path.proofs.Words.{TookOne}
use Rattle.syn_ty.proofs.ty_laws.sound.Bounds.{bounds_took}
use Rattle.syn_ty.proofs.ty_laws.sound.Forms.{Told}

module _ {A E : Type 0} (part : Manner → Parts A E) (Ends : Bool → Type 0) where
  abbrev Bound : Type 0
  Bound = TypeParamBound A E

  abbrev pub Bounds : Type 0
  Bounds = Many Bound token.Plus

  -- bounds after a `+`
  abbrev pub Others : Bounds → Toks → Toks → Type 0
  Others = Told (λ e (w : Bounds). AreBounds part loosely Object Ends false e w.0 w.1)

  -- no `+` follows
  pub record Lone (x : Bound) (s t : Stream) (v : Bounds) : Type 0 where
    pub is : (x ∷ [], []) ≡ v
    pub stays : s ≡ t
    pub no_plus : token.sees_plus s.rest ≡ false

  -- a `+` and others
  pub record Further (x : Bound) (s t : Stream) (v : Bounds) : Type 0 where
    pub plus : token.Plus
    pub others : Bounds
    pub middle : Toks
    pub is : (x ∷ others.0, plus ∷ others.1) ≡ v
    pub mark : IsMark false plus s.rest middle
    pub left : t.left ≡ None → s.left ≡ None
    pub seen : Visible t.rest
    pub spelt : t.left ≡ None → Others others middle t.rest

  module _ (r : Readers A E) (took : (s t : Stream) (x : TypeParamBound A E) → Visible s.rest → r (a_bound Object) s ≡ Ok (x, t) → TookOne (Told ((part loosely).bound Object)) s t x)
      (stops : Bool → Toks → Bool) (may_end : (b : Bool) (l : Toks) → stops b l ≡ true → Ends b) (no_word : (l : Toks) → stops false l ≡ true → sees_word any_text l ≡ false) where
    pub first_took : (x : Bound) (s t : Stream) (v : Bounds) → Visible s.rest → list_from stops (r (a_bound Object)) token.sees_plus token.plus x s ≡ Ok (v, t) → Further x s t v ⊎ Lone x s t v
    unfolding list_from
    first_took x s t v h e =
        elim (branch (token.sees_plus s.rest) _ _ s (Ok (v, t)) e) [
          | inl z ↦ let d = chain (token.plus s) _ v t z.1 in
              let m = mark_sound {n = 20} {k = 1} refl (omega arith) s d.rest d.value h d.was in
              let with : Bounds → Bounds = λ w. (x ∷ w.0, d.value ∷ w.1) in
              let f = mapped (listed stops (λ (_ : Bool). r (a_bound Object)) token.sees_plus token.plus false d.rest) with v t d.goes in
              let q = bounds_took part Object Ends stops (r (a_bound Object)) may_end no_word took false d.rest t f.value (mark_visible false {n = 20} {k = 1} d.value s.rest d.rest.rest m.spelt h) f.was in
              inl (record { plus = d.value; others = f.value; middle = d.rest.rest; is = f.is; mark = m.spelt; left = λ n. sym m.left ∙ q.left n; seen = q.seen; spelt = q.spelt })
          | inr z ↦ let g = same_pair (x ∷ [], []) v s t z.1 in inr (record { is = g.0; stays = g.1; no_plus = z.0 })
        ]
