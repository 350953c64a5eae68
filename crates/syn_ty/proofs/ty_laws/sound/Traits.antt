-- Where a trait bound is read, it is spelt by the rules of the whole grammar: modifiers, perhaps a binder before them or `?` behind them, never both, and a path.
use Rattle.std.proofs.Common.{◌≡◌, Bool, true, false, Option, Some, None, Ok, refl, subst, arith}
use Rattle.syn_ty.proofs.ty_laws.words.Tokens.{Reader, ◌>>=◌, Visible, IsMark, Stream, Toks}
use Rattle.syn_ty.proofs.ty_laws.words.Paths.{AsWritten}
use Rattle.syn_ty.proofs.ty_laws.words.Forms.{Binder, TypePlace, question}
use Rattle.syn_ty.proofs.ty_laws.words.Types.{TraitBoundModifiers, AreModifiers, IsFor, IsTraitBound, a_trait_bound, a_trait, a_trait_for, a_trait_asked, trait_bound_of, binder_after, optional_binder, trait_after, trait_in, trait_of, is_empty, path, signed, IsBoundPath, Manner, loosely, End, Parts, Readers, a_param, a_type, some_arguments, IsOptional, absent, present, BoundLifetimes, GenericParam, Path, PathArguments, TraitBound, TypeTree}
use Rattle.token_core.specs.Tokens as token
use Rattle.token_core.proofs.MarkSpells.{mark_sound, mark_visible}
use Rattle.token_core.proofs.Turns.{chain, same_pair}
use Rattle.syn_path.proofs.Words.{TookOne}
use Rattle.syn_forms.proofs.tokens_laws.Fronts.{plainly}
use Rattle.syn_ty.specs.generics.Reading.{modifiers}
use Rattle.syn_ty.proofs.generics_laws.Sound.{optional_took}
use Rattle.syn_ty.proofs.ty_laws.sound.Modifiers.{modifiers_took}
use Rattle.syn_ty.proofs.ty_laws.sound.Paths.{path_took}
use Rattle.syn_ty.proofs.ty_laws.sound.Signed.{EmptyPair, signed_took}
use Rattle.syn_ty.proofs.ty_laws.sound.Leaves.{optional_sound}
use Rattle.syn_ty.proofs.ty_laws.sound.Forms.{Told}

question_took : (s t : Stream) (q : token.Question) → Visible s.rest → token.question s ≡ Ok (q, t) → TookOne (IsMark false) s t q
question_took s t q v e = plainly {Is = IsMark false {n = 22} {k = 1}} (λ a l r i w. mark_visible false {n = 22} {k = 1} a l r i w) s t q v (mark_sound {n = 22} {k = 1} refl (omega arith) s t q v e)

-- what stands after the first binder and the modifiers: a path, and before it perhaps a `?` where no binder stood
module _ {A E : Type 0} (part : Manner → Parts A E) where
  abbrev For : Type 0
  For = Option (BoundLifetimes A E)

  abbrev IsPerhapsFor : For → Toks → Toks → Type 0
  IsPerhapsFor = IsOptional (IsFor part loosely)

  data IsAfter : For → TraitBoundModifiers → End → TraitBound A E → Toks → Toks → Type 0 where
    a_path_after : {o : For} {y : TraitBoundModifiers} {e : End} {p : Path A E} {l k : Toks} → IsBoundPath part loosely e p l k → IsAfter o y e (trait_bound_of None o y None p) l k
    an_asked_after : {y : TraitBoundModifiers} {e : End} {q : token.Question} {p : Path A E} {l m k : Toks} →
        IsMark false q l m → IsBoundPath part loosely e p m k → IsAfter None y e (trait_bound_of None None y (Some q) p) l k

  trait_at : (consts : Bool) (o : For) (y : TraitBoundModifiers) (e : End) (x : TraitBound A E) (l m n k : Toks) →
      IsPerhapsFor o l m → AreModifiers consts y m n → IsAfter o y e x n k → IsTraitBound part loosely consts e x l k
  trait_at consts None y e x l m n k absent w (a_path_after i) = a_trait_bound (a_trait w i)
  trait_at consts None y e x l m n k absent w (an_asked_after q i) = a_trait_bound (a_trait_asked w q i)
  trait_at consts (Some o) y e x l m n k (present f) w (a_path_after i) = a_trait_bound (a_trait_for f w i)

module _ {A E : Type 0} (r : Readers A E) (part : Manner → Parts A E)
    (took : (p : TypePlace) (s t : Stream) (x : TypeTree A E) → Visible s.rest → r (a_type p) s ≡ Ok (x, t) → TookOne (Told ((part loosely).ty p)) s t x)
    (took_param : (s t : Stream) (x : GenericParam A E) → Visible s.rest → r (a_param Binder) s ≡ Ok (x, t) → TookOne ((part loosely).param Binder) s t x)
    (took_arguments : (s t : Stream) (x : PathArguments A E) → Visible s.rest → r some_arguments s ≡ Ok (x, t) → TookOne (part loosely).arguments s t x)
    (pair : (x : PathArguments A E) (l k : Toks) → (part loosely).arguments x l k → is_empty x ≡ true → EmptyPair part l k) where
  abbrev MaybeFor : Type 0
  MaybeFor = Option (BoundLifetimes A E)

  abbrev IsPerhapsAsked : Option token.Question → Toks → Toks → Type 0
  IsPerhapsAsked = IsOptional (IsMark false {n = 22} {k = 1})

  for_took : (s t : Stream) (x : MaybeFor) → Visible s.rest → optional_binder r s ≡ Ok (x, t) → TookOne (IsPerhapsFor part) s t x
  for_took = optional_took r ((part loosely).param Binder) took_param

  -- the binder that stood before, or, where none did, one behind a `?`
  data Behind : MaybeFor → Option token.Question → MaybeFor → Toks → Toks → Type 0 where
    the_same : {x : MaybeFor} {q : Option token.Question} {m : Toks} → Behind x q x m m
    another : {q : token.Question} {y : MaybeFor} {m n : Toks} → IsPerhapsFor part y m n → Behind None (Some q) y m n

  behind_took : (x : MaybeFor) (q : Option token.Question) (s t : Stream) (y : MaybeFor) → Visible s.rest → binder_after r x q s ≡ Ok (y, t) → TookOne (Behind x q) s t y
  behind_took None (Some q) s t y v e = let k = for_took s t y v e in record { left = k.left; seen = k.seen; spelt = λ n. another (k.spelt n) }
  behind_took None None s t y v e =
      let g = same_pair None y s t e in
      subst (λ z. TookOne (Behind None None) s t z) g.0 (subst (λ z. TookOne (Behind None None) s z None) g.1 (record { left = λ n. n; seen = v; spelt = λ n. the_same }))
  behind_took (Some x) q s t y v e =
      let g = same_pair (Some x) y s t e in
      subst (λ z. TookOne (Behind (Some x) q) s t z) g.0 (subst (λ z. TookOne (Behind (Some x) q) s z (Some x)) g.1 (record { left = λ n. n; seen = v; spelt = λ n. the_same }))

  abbrev Ends : Path A E → Toks → Toks → Type 0
  Ends = Told (IsBoundPath part loosely)

  abbrev After : MaybeFor → TraitBoundModifiers → TraitBound A E → Toks → Toks → Type 0
  After x u = Told (IsAfter part x u)

  moved : (x : MaybeFor) (u : TraitBoundModifiers) (y z : TraitBound A E) (l k : Toks) (s t : Stream) → (y ≡ z) × (s ≡ t) → After x u y l k → After x u z l k
  moved x u y z l k s t g i = subst (λ w. After x u w l k) g.0 i

  after_is : (x : MaybeFor) (u : TraitBoundModifiers) (q : Option token.Question) (y : MaybeFor) (p : Path A E) (z : TraitBound A E) (l m n k : Toks) (s t : Stream) →
      IsPerhapsAsked q l m → Behind x q y m n → Ends p n k → trait_of u y q p s ≡ Ok (z, t) → After x u z l k
  after_is None u q y p z l m n k s t absent the_same w e = moved None u _ z l k s t (same_pair _ z s t e) (w.0, a_path_after w.1, w.2, w.3)
  after_is None u q y p z l m n k s t (present i) the_same w e = moved None u _ z l k s t (same_pair _ z s t e) (w.0, an_asked_after i w.1, w.2, w.3)
  after_is None u q y p z l m n k s t (present i) (another absent) w e = moved None u _ z l k s t (same_pair _ z s t e) (w.0, an_asked_after i w.1, w.2, w.3)
  after_is None u q y p z l m n k s t (present i) (another (present f)) w e = cc e
  after_is (Some x) u q y p z l m n k s t absent the_same w e = moved (Some x) u _ z l k s t (same_pair _ z s t e) (w.0, a_path_after w.1, w.2, w.3)
  after_is (Some x) u q y p z l m n k s t (present i) the_same w e = cc e

  -- the stream stays where the path ended
  stays : (u : TraitBoundModifiers) (q : Option token.Question) (y : MaybeFor) (p : Path A E) (z : TraitBound A E) (s t : Stream) → trait_of u y q p s ≡ Ok (z, t) → s ≡ t
  stays u q None p z s t e = (same_pair _ z s t e).1
  stays u None (Some y) p z s t e = (same_pair _ z s t e).1
  stays u (Some q) (Some y) p z s t e = cc e

  abbrev after_path : TraitBoundModifiers → MaybeFor → Option token.Question → Path A E → Reader (TraitBound A E)
  after_path u y q p = signed r p >>= trait_of u y q

  abbrev after_binder : TraitBoundModifiers → Option token.Question → MaybeFor → Reader (TraitBound A E)
  after_binder u q y = path r AsWritten >>= after_path u y q

  abbrev after_question : MaybeFor → TraitBoundModifiers → Option token.Question → Reader (TraitBound A E)
  after_question x u q = binder_after r x q >>= after_binder u q

  -- after the first binder and the modifiers
  after_took : (x : MaybeFor) (m : TraitBoundModifiers) (s t : Stream) (z : TraitBound A E) → Visible s.rest → trait_after r x m s ≡ Ok (z, t) → TookOne (After x m) s t z
  unfolding trait_after
  after_took x m s t z v e =
      let c = chain (question s) (after_question x m) z t e in
      let o = optional_sound {Is = IsMark false {n = 22} {k = 1}} token.sees_question token.question question_took s c.rest c.value v c.was in
      let f = chain (binder_after r x c.value c.rest) (after_binder m c.value) z t c.goes in
      let h = behind_took x c.value c.rest f.rest f.value o.seen f.was in
      let g = chain (path r AsWritten f.rest) (after_path m f.value c.value) z t f.goes in
      let w = path_took r part took_arguments AsWritten f.rest g.rest g.value h.seen g.was in
      let b = chain (signed r g.value g.rest) (trait_of m f.value c.value) z t g.goes in
      let u = signed_took r part took pair g.value b.value f.rest.rest g.rest b.rest w.seen b.was in
      let at = stays m c.value f.value b.value z b.rest t b.goes in
      subst (λ (y : Stream). TookOne (After x m) s y z) at (record {
        left = λ n. o.left (h.left (w.left (u.0 n)));
        seen = u.1;
        spelt = λ n.
            let ng = u.0 n in
            let nf = w.left ng in
            after_is x m c.value f.value b.value z s.rest c.rest.rest f.rest.rest b.rest.rest b.rest t (o.spelt (h.left nf)) (h.spelt nf) (u.2 n (w.spelt ng)) b.goes;
      })

  -- a trait bound without parentheses
  pub trait_in_took : (consts : Bool) (s t : Stream) (z : TraitBound A E) → Visible s.rest → trait_in r consts s ≡ Ok (z, t) → TookOne (Told (IsTraitBound part loosely consts)) s t z
  unfolding trait_in
  trait_in_took consts s t z v e =
      let rest : MaybeFor → Reader (TraitBound A E) = λ x. modifiers consts >>= trait_after r x in
      let c = chain (optional_binder r s) rest z t e in
      let o = for_took s c.rest c.value v c.was in
      let f = chain (modifiers consts c.rest) (trait_after r c.value) z t c.goes in
      let m = modifiers_took consts c.rest f.rest f.value o.seen f.was in
      let w = after_took c.value f.value f.rest t z m.seen f.goes in
      record {
        left = λ n. o.left (m.left (w.left n));
        seen = w.seen;
        spelt = λ n.
            let i = w.spelt n in
            let nf = w.left n in
            (i.0, trait_at part consts c.value f.value i.0 z s.rest c.rest.rest f.rest.rest t.rest (o.spelt (m.left nf)) (m.spelt nf) i.1, i.2, i.3);
      }
