-- Where a type that begins with `dyn` or `impl` is read, with plus or without, it is spelt by the rules of the whole grammar; `dyn *` is held verbatim.
use Rattle.std.proofs.Common.{◌≡◌, Bool, true, false, [], ◌∷◌, Option, Some, None, Ok, inl, inr, refl, subst, arith}
use Rattle.std.specs.List.{list_any}
use Rattle.syn_ty.proofs.ty_laws.words.Tokens.{Span, TokenStream, AfterMark, Many, listed, Reader, ◌>>=◌, Follows, here, pure, Visible, IsMark, IsWord, Stream, Toks}
use Rattle.syn_ty.proofs.ty_laws.words.Paths.{Along}
use Rattle.syn_ty.proofs.ty_laws.words.Forms.{Object, Opaque, TypePlace, stops_bound, allows_plus, position, refuse_since, since}
use Rattle.syn_ty.proofs.ty_laws.words.Types.{AreBounds, IsVerbatimType, a_dyn_star, IsType, an_object_with_dyn, a_verbatim_type, IsBoundList, several_bounds, one_bound, AreObjectBounds, IsDyn, a_dyn, IsImpl, an_impl, Manner, loosely, End, Holds, Parts, Point, Readers, a_bound, is_trait, IsOptional, absent, present, TypeImplTrait, TypeParamBound, TypeTraitObject, TypeTree, impl_trait_with, trait_object_with}
use Rattle.token_core.specs.declared.error.ErrorKind.TheVariants.{NoTraitInImpl}
use Rattle.token_core.specs.Tokens as token
use Rattle.token_core.proofs.MarkSpells.{mark_sound, mark_visible}
use Rattle.token_core.proofs.Suffixes.{follows_trans}
use Rattle.token_core.proofs.Took.{branch, mapped}
use Rattle.token_core.proofs.Turns.{chain, same_pair}
use Rattle.syn_path.proofs.Words.{TookOne}
use Rattle.syn_forms.proofs.tokens_laws.Fronts.{plainly, took_as}
use Rattle.syn_ty.specs.declared.ty.TypeOf.TheVariants as tree
use Rattle.syn_ty.specs.ty.Reading as reading
use Rattle.syn_path.proofs.Along.{named}
use Rattle.syn_ty.proofs.ty_laws.sound.AlongTypes.{object_bounds_along, optional_star_along}
use Rattle.syn_ty.proofs.ty_laws.sound.Bounds.{bounds_took, word_ends}
use Rattle.syn_ty.proofs.ty_laws.sound.Held.{holds_since}
use Rattle.syn_ty.proofs.ty_laws.sound.Objects.{objects_took}
use Rattle.syn_ty.proofs.ty_laws.sound.Leaves.{named_sound, optional_sound}
use Rattle.syn_ty.proofs.ty_laws.sound.Forms.{Told}

-- ---- `impl`: one of the bounds names a trait

module _ {A E : Type 0} (r : Readers A E) (part : Manner → Parts A E)
    (took : (s t : Stream) (x : TypeParamBound A E) → Visible s.rest → r (a_bound Opaque) s ≡ Ok (x, t) → TookOne (Told ((part loosely).bound Opaque)) s t x) where
  abbrev Opaques : Type 0
  Opaques = Many (TypeParamBound A E) token.Plus

  opaque_ends : (first : Bool) (l : Toks) → stops_bound true first l ≡ true → AfterMark first
  opaque_ends true l e = cc e
  opaque_ends false l e = tt

  abbrev Several : Opaques → Toks → Toks → Type 0
  Several = Told (λ e (w : Opaques). AreBounds part loosely Opaque AfterMark true e w.0 w.1)

  -- bounds of which none is as it is needed are refused
  kept_if : (from : Span) (v w : Opaques) (s t : Stream) → reading.needs is_trait NoTraitInImpl from v s ≡ Ok (w, t) → (v ≡ w) × (s ≡ t) × (list_any is_trait v.0 ≡ true)
  unfolding reading.needs
  kept_if from v w s t e =
      elim (branch (list_any is_trait v.0) (pure v) (refuse_since NoTraitInImpl from) s (Ok (w, t)) e) [
        | inl y ↦ let k = same_pair v w s t y.1 in (k.0, k.1, y.0)
        | inr y ↦ cc y.1
      ]

  module _ (place : TypePlace) where
    abbrev Listed : Opaques → Toks → Toks → Type 0
    Listed = Told (IsBoundList part loosely place Opaque)

    pub opaque_took : (plus : Bool) → allows_plus place ≡ plus → (s t : Stream) (v : Opaques) → Visible s.rest → reading.opaque_bounds r plus s ≡ Ok (v, t) → TookOne Listed s t v
    unfolding reading.opaque_bounds listed
    opaque_took true h s t v a e =
        took_as {Is = Several} {Js = Listed} (λ w. w) s t v v refl (λ l m i. (i.0, several_bounds h i.1, i.2, i.3))
        (bounds_took part Opaque AfterMark (stops_bound true) (r (a_bound Opaque)) opaque_ends (word_ends true) took true s t v a e)
    opaque_took false h s t v a e =
        let one : TypeParamBound A E → Opaques = λ x. (x ∷ [], []) in
        let k = mapped (r (a_bound Opaque) s) one v t e in
        took_as {Is = Told ((part loosely).bound Opaque)} {Js = Listed} one s t k.value v k.is (λ l m i. (i.0, one_bound h i.1, i.2, i.3)) (took s t k.value a k.was)

    abbrev OfImpl : TypeImplTrait A E → Toks → Toks → Type 0
    OfImpl = Told (IsImpl part loosely place)

    impl_at : (w : token.Impl) (v : Opaques) (l m k : Toks) → IsWord w l m → Listed v m k → list_any is_trait v.0 ≡ true → OfImpl (impl_trait_with [] w v) l k
    impl_at w v l m k i j h = (j.0, an_impl i j.1 h, j.2, j.3)

    module _ (plus : Bool) (as_plus : allows_plus place ≡ plus) where
      abbrev after_word : Span → token.Impl → Reader (TypeImplTrait A E)
      after_word from w = reading.impl_bounds r from plus >>= (λ v. pure (impl_trait_with [] w v))

      abbrev after_bounds : Span → Opaques → Reader Opaques
      after_bounds = reading.needs is_trait NoTraitInImpl

      pub impl_took : (s t : Stream) (x : TypeImplTrait A E) → Visible s.rest → reading.impl_trait r plus s ≡ Ok (x, t) → TookOne OfImpl s t x
      unfolding reading.impl_trait reading.impl_bounds
      impl_took s t x v e =
          let c = chain (token.impl_word s) (after_word (here s)) x t e in
          let k = named_sound {n = 12} s c.rest c.value v c.was in
          let with : Opaques → TypeImplTrait A E = λ z. impl_trait_with [] c.value z in
          let d = mapped (reading.impl_bounds r (here s) plus c.rest) with x t c.goes in
          let b = chain (reading.opaque_bounds r plus c.rest) (after_bounds (here s)) d.value t d.was in
          let f = kept_if (here s) b.value d.value b.rest t b.goes in
          let o = opaque_took plus as_plus c.rest b.rest b.value k.seen b.was in
          let q : TookOne OfImpl s b.rest (with b.value) = record {
            left = λ h. k.left (o.left h);
            seen = o.seen;
            spelt = λ h. impl_at c.value b.value s.rest c.rest.rest b.rest.rest (k.spelt (o.left h)) (o.spelt h) f.2;
          } in
          subst (λ z. TookOne OfImpl s t z) d.is (subst (λ z. TookOne OfImpl s z (with d.value)) f.1 (subst (λ z. TookOne OfImpl s b.rest (with z)) f.0 q))

-- ---- `dyn`

star_took : (s t : Stream) (x : token.Star) → Visible s.rest → token.star s ≡ Ok (x, t) → TookOne (IsMark false) s t x
star_took s t x v e = plainly {Is = IsMark false {n = 26} {k = 1}} (λ a l k i w. mark_visible false {n = 26} {k = 1} a l k i w) s t x v (mark_sound {n = 26} {k = 1} refl (omega arith) s t x v e)

module _ {A E : Type 0} (part : Manner → Parts A E) (place : TypePlace) where
  -- a trait object; or `dyn *`, which is held verbatim
  pub data IsDynType : End → TypeTree A E → Toks → Toks → Type 0 where
    a_dyn_object : {e : End} {x : TypeTraitObject A E} {l k : Toks} → IsDyn part loosely place e x l k → IsDynType e (tree.TraitObject x) l k
    a_dyn_held : {e : End} {x : TokenStream} {l k : Toks} → IsVerbatimType part loosely place e l k → Holds x l k → IsDynType e (tree.Verbatim x) l k

  -- as a type
  pub dyn_is_type : (e : End) (x : TypeTree A E) (l k : Toks) → IsDynType e x l k → IsType part loosely place e x l k
  dyn_is_type e x l k (a_dyn_object i) = an_object_with_dyn i
  dyn_is_type e x l k (a_dyn_held i h) = a_verbatim_type (i, h)

module _ {A E : Type 0} (r : Readers A E) (part : Manner → Parts A E)
    (took : (s t : Stream) (x : TypeParamBound A E) → Visible s.rest → r (a_bound Object) s ≡ Ok (x, t) → TookOne (Told ((part loosely).bound Object)) s t x)
    (along : (q : Point) → Along (r q)) where
  abbrev Objects : Type 0
  Objects = Many (TypeParamBound A E) token.Plus

  module _ (plus : Bool) (place : TypePlace) (as_plus : allows_plus place ≡ plus) where
    abbrev Of : TypeTree A E → Toks → Toks → Type 0
    Of = Told (IsDynType part place)

    abbrev AreAll : Objects → Toks → Toks → Type 0
    AreAll = Told (AreObjectBounds part loosely place)

    abbrev IsStar : Option token.Star → Toks → Toks → Type 0
    IsStar = IsOptional (IsMark false {n = 26} {k = 1})

    abbrev Before : token.Dyn → Option token.Star → Objects → Toks → Toks → Type 0
    Before w o v l k = (m : Toks) × (n : Toks) × IsWord w l m × IsStar o m n × AreAll v n k

    object_at : (w : token.Dyn) (v : Objects) (l k : Toks) → Before w None v l k → Of (tree.TraitObject (trait_object_with [] (Some w) v)) l k
    object_at w v l k (m, n, i, absent, j) = (j.0, a_dyn_object (a_dyn i j.1), j.2, j.3)

    held_at : (w : token.Dyn) (o : token.Star) (v : Objects) (x : TokenStream) (l k : Toks) → Before w (Some o) v l k → Holds x l k → Of (tree.Verbatim x) l k
    held_at w o v x l k (m, n, i, present h, j) g = (j.0, a_dyn_held (a_dyn_star i h j.1) g, j.2, j.3)

    -- by what was read
    dyn_of_took : (w : token.Dyn) (o : Option token.Star) (v : Objects) (s d u : Stream) (x : TypeTree A E) → Visible s.rest → Follows s d → TookOne (λ (y : Objects). Before w o y) s d v → reading.dyn_of (position s) w o v d ≡ Ok (x, u) →
        TookOne Of s u x
    unfolding reading.dyn_of
    dyn_of_took w None v s d u x a f q e =
        let z : TypeTree A E = tree.TraitObject (trait_object_with [] (Some w) v) in
        let g = same_pair z x d u e in
        subst (λ y. TookOne Of s u y) g.0 (subst (λ y. TookOne Of s y z) g.1 (record { left = q.left; seen = q.seen; spelt = λ n. object_at w v s.rest d.rest (q.spelt n) }))
    dyn_of_took w (Some o) v s d u x a f q e =
        let k = mapped (since (position s) d) tree.Verbatim x u e in
        let g = holds_since s d u k.value a q.seen f k.was in
        subst (λ y. TookOne Of s u y) k.is (subst (λ y. TookOne Of s y (tree.Verbatim k.value)) g.0 (record { left = q.left; seen = q.seen; spelt = λ n. held_at w o v k.value s.rest d.rest (q.spelt n) g.1 }))

    abbrev after_bound : Stream → token.Dyn → Option token.Star → TypeParamBound A E → Reader (TypeTree A E)
    after_bound s w o x = reading.object_bounds r (here s) plus x >>= (λ v. reading.dyn_of (position s) w o v)

    abbrev after_star : Stream → token.Dyn → Option token.Star → Reader (TypeTree A E)
    after_star s w o = r (a_bound Object) >>= after_bound s w o

    abbrev after_dyn : Stream → token.Dyn → Reader (TypeTree A E)
    after_dyn s w = reading.optional_star >>= after_star s w

    pub dyn_took : (s u : Stream) (x : TypeTree A E) → Visible s.rest → reading.dyn_type r plus s ≡ Ok (x, u) → TookOne Of s u x
    unfolding reading.dyn_type reading.optional_star
    dyn_took s u x v e =
        let c = chain (token.dyn_word s) (after_dyn s) x u e in
        let kc = named_sound {n = 7} s c.rest c.value v c.was in
        let d = chain (reading.optional_star c.rest) (after_star s c.value) x u c.goes in
        let kd = optional_sound {Is = IsMark false {n = 26} {k = 1}} token.sees_star token.star star_took c.rest d.rest d.value kc.seen d.was in
        let f = chain (r (a_bound Object) d.rest) (after_bound s c.value d.value) x u d.goes in
        let kf = took d.rest f.rest f.value kd.seen f.was in
        let g = chain (reading.object_bounds r (here s) plus f.value f.rest) (λ w. reading.dyn_of (position s) c.value d.value w) x u f.goes in
        let kg = objects_took r part took plus place as_plus (here s) f.value d.rest.rest f.rest g.rest g.value kf.seen g.was in
        let on = follows_trans s c.rest g.rest (named {n = 7} s c.rest c.value c.was)
        (follows_trans c.rest d.rest g.rest (optional_star_along c.rest d.rest d.value d.was)
        (follows_trans d.rest f.rest g.rest (along (a_bound Object) d.rest f.rest f.value f.was) (object_bounds_along along (here s) plus f.value f.rest g.rest g.value g.was))) in
        let q : TookOne (λ (y : Objects). Before c.value d.value y) s g.rest g.value = record {
          left = λ n. kc.left (kd.left (kf.left (kg.0 n)));
          seen = kg.1;
          spelt = λ n.
              let nf = kf.left (kg.0 n) in
              (c.rest.rest, d.rest.rest, kc.spelt (kd.left nf), kd.spelt nf, kg.2 n (kf.spelt (kg.0 n)));
        } in
        dyn_of_took c.value d.value g.value s g.rest u x v on q g.goes

    -- as a type
    pub dyn_type_took : (s u : Stream) (x : TypeTree A E) → Visible s.rest → reading.dyn_type r plus s ≡ Ok (x, u) → TookOne (Told (IsType part loosely place)) s u x
    dyn_type_took s u x v e =
        took_as {Is = Of} {Js = Told (IsType part loosely place)} (λ y. y) s u x x refl (λ l k i. (i.0, dyn_is_type part place i.0 x l k i.1, i.2, i.3)) (dyn_took s u x v e)
