-- Where the bounds of a trait object are read, they are spelt by the rules of the whole grammar: the first is read alone, and with plus the others as bounds joined by `+`; also of one that begins with a lifetime, and of one by itself.
use Rattle.std.proofs.Common.{◌≡◌, Bool, true, false, ◌||◌, List, [], ◌∷◌, Option, None, Ok, inl, inr, refl, sym, ◌∙◌, ap, subst, arith}
use Rattle.std.specs.List.{list_any}
use Rattle.syn_ty.proofs.ty_laws.words.Tokens.{Lifetime, Span, read_lifetime, AfterMark, Many, listed, Reader, ◌>>=◌, here, pure, Visible, IsLifetime, IsMark, IsWord, Stream, Toks}
use Rattle.syn_ty.proofs.ty_laws.words.Forms.{Object, TypePlace, bounds_from, list_from, plus_follows, stops_bound, allows_plus, refuse_since}
use Rattle.syn_ty.proofs.ty_laws.words.Types.{AreBounds, no_bounds, last_plus, last_bound, bound_and_plus, IsBoundList, several_bounds, one_bound, AreObjectBounds, object_bounds, IsObject, an_object, AreBareBounds, lifetime_first, Manner, loosely, End, closed, going_on, Parts, Readers, a_bound, is_trait, trait_layer, IsOptional, TypeParamBound, TypeTraitObject, trait_object_with}
use Rattle.token_core.specs.declared.error.ErrorKind.TheVariants.{NoTraitInObject}
use Rattle.token_core.specs.Tokens as token
use Rattle.token_core.proofs.MarkSpells.{mark_sound, mark_visible}
use Rattle.token_core.proofs.Took.{branch, mapped}
use Rattle.token_core.proofs.Turns.{chain, same_pair}
use Rattle.token_core.proofs.WordSpells.{lifetime_seen}
use Rattle.syn_path.proofs.Words.{TookOne}
use Rattle.syn_ty.specs.declared.generics.TypeParamBoundOf.TheVariants as b
use Rattle.syn_ty.specs.ty.Reading as reading
use Rattle.syn_ty.proofs.ty_laws.sound.Bounds.{bounds_took, word_ends}
use Rattle.syn_ty.proofs.ty_laws.sound.Leaves.{life_sound, named_sound, optional_sound}
use Rattle.syn_ty.proofs.ty_laws.sound.Forms.{Told, before_plus, both}

-- ---- what follows a first bound

module _ {A E : Type 0} (part : Manner → Parts A E) where
  abbrev pub Bounds : Type 0
  Bounds = Many (TypeParamBound A E) token.Plus

  abbrev pub Listed : Bool → Bounds → Toks → Toks → Type 0
  Listed first = Told (λ e (w : Bounds). AreBounds part loosely Object AfterMark first e w.0 w.1)

  -- no `+` that goes on with it; or one, and further bounds, of which there may be none
  pub data IsFurther (plus : Bool) (x : TypeParamBound A E) : Bounds → Toks → Toks → Type 0 where
    nothing_further : {k : Toks} → plus_follows plus k ≡ false → IsFurther plus x (x ∷ [], []) k k
    further : {p : token.Plus} {w : Bounds} {l m k : Toks} → plus ≡ true → IsMark false p l m → Listed false w m k → IsFurther plus x (x ∷ w.0, p ∷ w.1) l k

  -- after a first bound that is spelt, all of them are
  all_told : (x : TypeParamBound A E) (p : token.Plus) (w : Bounds) (l m n k : Toks) → Told ((part loosely).bound Object) x l m → IsMark false p m n → Listed false w n k → Listed true (x ∷ w.0, p ∷ w.1) l k
  all_told x p w l m n k a i d = (d.0, bound_and_plus a.1 (before_plus a.0 p m n a.2 i) i d.1, d.2, d.3)

  module _ (place : TypePlace) where
    abbrev IsList : Bounds → Toks → Toks → Type 0
    IsList = Told (IsBoundList part loosely place Object)

    several_told : (v : Bounds) (l k : Toks) → allows_plus place ≡ true → Listed true v l k → IsList v l k
    several_told v l k h w = (w.0, several_bounds h w.1, w.2, w.3)

    pub list_told : (plus : Bool) → allows_plus place ≡ plus → (x : TypeParamBound A E) (v : Bounds) (l m k : Toks) → Told ((part loosely).bound Object) x l m → IsFurther plus x v m k → IsList v l k
    list_told true h x v l m k a (nothing_further q) = (going_on a.0, several_bounds h (last_bound a.1), (λ g. q), a.3)
    list_told false h x v l m k a (nothing_further q) = (a.0, one_bound h a.1, a.2, a.3)
    list_told plus h x v l m k a (further {p = p} {w = w} {m = n} g i d) = several_told (x ∷ w.0, p ∷ w.1) l k (h ∙ g) (all_told x p w l m n k a i d)

    pub object_told : (v : Bounds) (l k : Toks) → IsList v l k → list_any is_trait v.0 ≡ true → Told (AreObjectBounds part loosely place) v l k
    object_told v l k w h = (w.0, object_bounds w.1 h, w.2, w.3)

module _ {A E : Type 0} (r : Readers A E) (part : Manner → Parts A E)
    (took : (s t : Stream) (x : TypeParamBound A E) → Visible s.rest → r (a_bound Object) s ≡ Ok (x, t) → TookOne (Told ((part loosely).bound Object)) s t x) where
  abbrev Bound : Type 0
  Bound = TypeParamBound A E

  abbrev All : Type 0
  All = Many Bound token.Plus

  object_ends : (first : Bool) (l : Toks) → stops_bound false first l ≡ true → AfterMark first
  object_ends true l e = cc e
  object_ends false l e = tt

  pub further_took : (plus : Bool) (x : Bound) (s t : Stream) (v : All) → Visible s.rest → bounds_from (r (a_bound Object)) false plus x s ≡ Ok (v, t) → TookOne (IsFurther part plus x) s t v
  unfolding list_from
  further_took true x s t v h e =
      elim (branch (token.sees_plus s.rest) _ _ s (Ok (v, t)) e) [
        | inl z ↦ let d = chain (token.plus s) _ v t z.1 in
            let m = mark_sound {n = 20} {k = 1} refl (omega arith) s d.rest d.value h d.was in
            let with : All → All = λ w. (x ∷ w.0, d.value ∷ w.1) in
            let f = mapped (listed (stops_bound false) (λ (_ : Bool). r (a_bound Object)) token.sees_plus token.plus false d.rest) with v t d.goes in
            let q = bounds_took part Object AfterMark (stops_bound false) (r (a_bound Object)) object_ends (word_ends false) took false d.rest t f.value (mark_visible false {n = 20} {k = 1} d.value s.rest d.rest.rest m.spelt h) f.was in
            record {
              left = λ n. sym m.left ∙ q.left n;
              seen = q.seen;
              spelt = λ n. subst (λ y. IsFurther part true x y s.rest t.rest) f.is (further refl m.spelt (q.spelt n));
            }
        | inr z ↦ let g = same_pair (x ∷ [], []) v s t z.1 in
            subst (λ y. TookOne (IsFurther part true x) s t y) g.0 (subst (λ y. TookOne (IsFurther part true x) s y (x ∷ [], [])) g.1 (record { left = λ n. n; seen = h; spelt = λ n. nothing_further z.0 }))
      ]
  further_took false x s t v h e =
      let g = same_pair (x ∷ [], []) v s t e in
      subst (λ y. TookOne (IsFurther part false x) s t y) g.0 (subst (λ y. TookOne (IsFurther part false x) s y (x ∷ [], [])) g.1 (record { left = λ n. n; seen = h; spelt = λ n. nothing_further refl }))

  -- bounds of which none names a trait are refused
  kept_if : (from : Span) (v w : All) (s t : Stream) → reading.needs is_trait NoTraitInObject from v s ≡ Ok (w, t) → (v ≡ w) × (s ≡ t) × (list_any is_trait v.0 ≡ true)
  unfolding reading.needs
  kept_if from v w s t e =
      elim (branch (list_any is_trait v.0) (pure v) (refuse_since NoTraitInObject from) s (Ok (w, t)) e) [
        | inl y ↦ let k = same_pair v w s t y.1 in (k.0, k.1, y.0)
        | inr y ↦ cc y.1
      ]

  -- after a first bound, one of all names a trait
  abbrev IsNamed : Bool → Bound → All → Toks → Toks → Type 0
  IsNamed plus x v l k = IsFurther part plus x v l k × (list_any is_trait v.0 ≡ true)

  named_took : (plus : Bool) (from : Span) (x : Bound) (s t : Stream) (v : All) → Visible s.rest → reading.object_bounds r from plus x s ≡ Ok (v, t) → TookOne (IsNamed plus x) s t v
  unfolding reading.object_bounds
  named_took plus from x s t v h e =
      let c = chain (bounds_from (r (a_bound Object)) false plus x s) (reading.needs is_trait NoTraitInObject from) v t e in
      let q = further_took plus x s c.rest c.value h c.was in
      let g = kept_if from c.value v c.rest t c.goes in
      let w : TookOne (IsNamed plus x) s c.rest c.value = record { left = q.left; seen = q.seen; spelt = λ n. (q.spelt n, g.2) } in
      subst (λ z. TookOne (IsNamed plus x) s t z) g.0 (subst (λ z. TookOne (IsNamed plus x) s z c.value) g.1 w)

  -- ---- in a place with plus, and without

  module _ (plus : Bool) (place : TypePlace) (as_plus : allows_plus place ≡ plus) where
    abbrev AreAll : All → Toks → Toks → Type 0
    AreAll = Told (AreObjectBounds part loosely place)

    -- all of them, over what the first one spells
    pub objects_took : (from : Span) (x : Bound) (l : Toks) (s t : Stream) (v : All) → Visible s.rest → reading.object_bounds r from plus x s ≡ Ok (v, t) →
        (t.left ≡ None → s.left ≡ None) × Visible t.rest × (t.left ≡ None → Told ((part loosely).bound Object) x l s.rest → AreAll v l t.rest)
    objects_took from x l s t v h e =
        let q = named_took plus from x s t v h e in (
          q.left,
          q.seen,
          λ n a. let i = q.spelt n in object_told part place v l t.rest (list_told part place plus as_plus x v l s.rest t.rest a i.0) i.1,
        )

    -- ---- a trait object by itself, over the read of its first bound: its law is wanted in the places where it is asked

    module _ (first : Reader Bound) (Asked : Stream → Type 0) (took_first : (s t : Stream) (x : Bound) → Asked s → Visible s.rest → first s ≡ Ok (x, t) → TookOne (Told ((part loosely).bound Object)) s t x) where
      abbrev after_bound : Span → Option token.Dyn → Bound → Reader (TypeTraitObject A E)
      after_bound from w x = reading.object_bounds r from plus x >>= (λ v. pure (trait_object_with [] w v))

      abbrev after_dyn : Span → Option token.Dyn → Reader (TypeTraitObject A E)
      after_dyn from w = first >>= after_bound from w

      object_at : (w : Option token.Dyn) (v : All) (l m k : Toks) → IsOptional IsWord w l m → AreAll v m k → IsObject part loosely place (trait_object_with [] w v) l k
      object_at w v l m k i j = an_object i j.1

      -- it is asked after a `dyn` that may be there
      pub object_took : (s t : Stream) (x : TypeTraitObject A E) → ((w : Option token.Dyn) (u : Stream) → reading.optional_dyn s ≡ Ok (w, u) → Asked u) → Visible s.rest → reading.trait_object r first plus s ≡ Ok (x, t) →
          TookOne (IsObject part loosely place) s t x
      unfolding reading.trait_object reading.optional_dyn
      object_took s t x at v e =
          let c = chain (reading.optional_dyn s) (after_dyn (here s)) x t e in
          let o = optional_sound {Is = IsWord {n = 7}} token.sees_dyn token.dyn_word (named_sound {n = 7}) s c.rest c.value v c.was in
          let d = chain (first c.rest) (after_bound (here s) c.value) x t c.goes in
          let k = took_first c.rest d.rest d.value (at c.value c.rest c.was) o.seen d.was in
          let with : All → TypeTraitObject A E = λ z. trait_object_with [] c.value z in
          let f = mapped (reading.object_bounds r (here s) plus d.value d.rest) with x t d.goes in
          let q = objects_took (here s) d.value c.rest.rest d.rest t f.value k.seen f.was in
          record {
            left = λ n. o.left (k.left (q.0 n));
            seen = q.1;
            spelt = λ n. subst (λ z. IsObject part loosely place z s.rest t.rest) f.is (object_at c.value f.value s.rest c.rest.rest t.rest (o.spelt (k.left (q.0 n))) (q.2 n (k.spelt (q.0 n))));
          }

  -- ---- one that begins with a lifetime: a lifetime alone names no trait

  abbrev from_lifetime : Lifetime → List Bound → List Bound
  from_lifetime y xs = b.Lifetime y ∷ xs

  lone_lifetime : {P : Type 0} (y : Lifetime) → list_any is_trait (from_lifetime y []) ≡ true → P
  lone_lifetime y h = both (list_any is_trait (from_lifetime y [])) h (ap (λ z. z || false) (ap (trait_layer {A = A} {E = E}) (b.outs-Lifetime y)))

  -- where there is a bound of a trait object, a lifetime is one too
  module _ (lifetimes : (e : End) (x : Bound) (l k : Toks) → (part loosely).bound Object e x l k → (y : Lifetime) (m n : Toks) → IsLifetime y m n → (part loosely).bound Object closed (b.Lifetime y) m n) where
    held_lifetime : (y : Lifetime) (l m n k : Toks) (first : Bool) (e : End) (xs : List Bound) (ps : List token.Plus) → first ≡ false → IsLifetime y l m → AreBounds part loosely Object AfterMark first e xs ps n k →
        list_any is_trait (from_lifetime y xs) ≡ true → (part loosely).bound Object closed (b.Lifetime y) l m
    held_lifetime y l m n k first e xs ps g i (no_bounds a) h = cc g
    held_lifetime y l m n k first e xs ps g i (last_plus a) h = lone_lifetime y h
    held_lifetime y l m n k first e xs ps g i (last_bound {e = f} {x = x} a) h = lifetimes f x n k a y l m i
    held_lifetime y l m n k first e xs ps g i (bound_and_plus {e = f} {x = x} {m = j} a o c d) h = lifetimes f x n j a y l m i

    module _ (place : TypePlace) where
      abbrev Bare : All → Toks → Toks → Type 0
      Bare = Told (AreBareBounds part loosely place)

      bare_at : (y : Lifetime) (v : All) (l m k : Toks) → IsLifetime y l m → IsFurther part true (b.Lifetime y) v m k → list_any is_trait v.0 ≡ true → Bare v l k
      bare_at y v l m k i (nothing_further q) h = lone_lifetime y h
      bare_at y v l m k i (further {p = p} {w = w} {m = n} g j d) h =
          let a = held_lifetime y l m n k false d.0 w.0 w.1 refl i d.1 h in
          (d.0, lifetime_first (lifetime_seen y l m i) (bound_and_plus a refl j d.1) h, d.2, d.3)

      pub lifetime_object_took : (s t : Stream) (v : All) → Visible s.rest → reading.lifetime_object r s ≡ Ok (v, t) → TookOne Bare s t v
      unfolding reading.lifetime_object
      lifetime_object_took s t v h e =
          let with : Lifetime → Reader All = λ y. reading.object_bounds r (here s) true (b.Lifetime y) in
          let c = chain (read_lifetime s) with v t e in
          let k = life_sound s c.rest c.value h c.was in
          let q = named_took true (here s) (b.Lifetime c.value) c.rest t v k.seen c.goes in
          record {
            left = λ n. k.left (q.left n);
            seen = q.seen;
            spelt = λ n. let i = q.spelt n in bare_at c.value v s.rest c.rest.rest t.rest (k.spelt (q.left n)) i.0 i.1;
          }
