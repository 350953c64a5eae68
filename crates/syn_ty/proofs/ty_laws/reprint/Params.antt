-- Parameters, each in its place, and binders print their normal forms clearly, where what stands within them does.
use Rattle.std.proofs.Common.{◌≡◌, Bool, true, false, List, [], ◌++◌, Option, Some, None, option_map, refl, ◌∙◌, ap, subst}
use Rattle.syn_ty.proofs.ty_laws.words.Tokens.{Lifetime, Ident, AreListed, Anywhere, joined, Many, Print, is_ident, is_text, IsMark, IsWord, IsLifetime, Toks, word, row}
use Rattle.syn_ty.proofs.ty_laws.words.Paths.{NormalValues, Values}
use Rattle.syn_ty.proofs.ty_laws.words.Forms.{Parameter, ParamPlace, Plus}
use Rattle.syn_ty.proofs.ty_laws.words.Types.{LifetimeParamOf, AreBounds, no_bounds, IsFor, colon, many, IsGiven, given, IsLifetimeParam, a_lone_lifetime, a_lifetime_with_bounds, AreBoundsAfter, no_colon, after_colon, IsAnyType, any_type, IsTypeParam, a_type_param, IsConstParam, a_const_param, IsParam, a_lifetime_param, a_named_param, a_constant_param, a_bare_param, bound_lifetimes_of, const_param_of, lifetime_param_of, type_param_of, IsBinder, a_binder, Manner, plainly, clearly, End, Parts, Relation, IsOptional, absent, present, BoundLifetimes, ConstParam, GenericParam, TypeParam, TypeParamBound, TypeTree}
use Rattle.token_core.specs.Lifetimes as lifetimes
use Rattle.token_core.specs.Prints as p
use Rattle.token_core.specs.Tokens as token
use Rattle.syn_path.proofs.Words.{AgainFront}
use Rattle.syn_forms.specs.declared.places.ParamPlace.TheVariants as params
use Rattle.syn_forms.proofs.tokens_laws.Mutability.{word_front}
use Rattle.syn_ty.specs.declared.generics.GenericParamOf.TheVariants as g
use Rattle.syn_ty.specs.generics.NormalShapes as shapes
use Rattle.syn_ty.specs.generics.Shapes as shown
use Rattle.syn_ty.specs.ty.Normal as normal
use Rattle.syn_ty.specs.ty.Printing as printing
use Rattle.syn_ty.proofs.ty_laws.reprint.Within.{Again, SuppliedAgain}
use Rattle.syn_ty.proofs.ty_laws.reprint.Joined.{Then, then_front, made_front, optional_again, lifetime_front, IsNamed, named_front, IsAfter, none_after, some_after, after_front, LivesAfter, lives_after, lives_front}
use Rattle.syn_ty.proofs.ty_laws.reprint.Normals.{normal-Lifetime, normal-Type, normal-Const, type_param_normal}
use Rattle.syn_ty.proofs.ty_laws.Prints.{param-Lifetime, param-Type, param-Const, type_param_parts}
use Rattle.syn_ty.proofs.ty_laws.reprint.Leaves.{mark_front, listed_front}

-- ---- lifetimes as parameters, over their attributes

module _ {A E : Type 0} (na : List A → List A) (ne : NormalValues E) (pa : List A → Print) (pe : Values E) (part : Manner → Parts A E) (attrs : (x : List A) (l r : Toks) → (part plainly).attrs x l r → AgainFront (part clearly).attrs na pa x l r) where
  abbrev lifetime_of : List A × (Lifetime × LivesAfter) → LifetimeParamOf A
  lifetime_of z = lifetime_param_of z.0 z.1.0 z.1.1.0 z.1.1.1

  lifetime_by : (a : List A) (x : Lifetime) (y : LivesAfter) (l m n r : Toks) → (part clearly).attrs a l m → IsLifetime x m n → lives_after true y n r → IsLifetimeParam part clearly (lifetime_of (a, (x, y))) l r
  lifetime_by a x y l m n r i j none_after = a_lone_lifetime i j
  lifetime_by a x y l m n r i j (some_after c v) = a_lifetime_with_bounds i j c v

  lifetime_parts : (a : List A) (x : Lifetime) (y : LivesAfter) (l m n r : Toks) → (part plainly).attrs a l m → IsLifetime x m n → lives_after false y n r →
      AgainFront (IsLifetimeParam part clearly) (shapes.lifetime_param na ne) (shown.lifetime_param pa pe) (lifetime_of (a, (x, y))) l r
  lifetime_parts a x y l m n r i j t =
      let after : LivesAfter → LivesAfter = λ z. (colon z.0 z.1.0, z.1) in
      let shows : LivesAfter → Print = λ z. shown.after_colon lifetimes.print z.0 z.1 in
      made_front (Then (part clearly).attrs (Then IsLifetime (lives_after true))) (λ z. (na z.0, (z.1.0, after z.1.1))) (λ z. pa z.0 ++ (lifetimes.print z.1.0 ++ shows z.1.1))
      (IsLifetimeParam part clearly) (shapes.lifetime_param na ne) (shown.lifetime_param pa pe) lifetime_of (λ z. refl) (λ z. refl)
      (λ z b c h. lifetime_by z.0 z.1.0 z.1.1 b h.0 h.2.0 c h.1 h.2.1 h.2.2) (a, (x, y)) l r
      (then_front (part clearly).attrs na pa (Then IsLifetime (lives_after true)) (λ z. (z.0, after z.1)) (λ z. lifetimes.print z.0 ++ shows z.1) a (x, y) l m r (attrs a l m i)
      (then_front IsLifetime (λ z. z) lifetimes.print (lives_after true) after shows x y m n r (lifetime_front x m n j) (lives_front y n r t)))

  pub lifetime_param_again : (x : LifetimeParamOf A) (l r : Toks) → IsLifetimeParam part plainly x l r → AgainFront (IsLifetimeParam part clearly) (shapes.lifetime_param na ne) (shown.lifetime_param pa pe) x l r
  lifetime_param_again x l r (a_lone_lifetime {a = a} {x = y} {m = m} i j) = lifetime_parts a y (None, ([], [])) l m r r i j none_after
  lifetime_param_again x l r (a_lifetime_with_bounds {a = a} {x = y} {c = c} {xs = xs} {ps = ps} {m = m} {n = n} i j k t) = lifetime_parts a y (Some c, (xs, ps)) l m n r i j (some_after k t)

-- ---- bounds of a parameter

module _ {A E : Type 0} (na : List A → List A) (ne : NormalValues E) (pa : List A → Print) (pe : Values E) (part : Manner → Parts A E) where
  -- what is to be given of them
  abbrev pub BoundsAgain : Type 0
  BoundsAgain = (e : End) (v : Many (TypeParamBound A E) token.Plus) (l r : Toks) → AreBounds part plainly Parameter Anywhere true e v.0 v.1 l r →
      AgainFront (λ (z : Many (TypeParamBound A E) token.Plus). AreBounds part clearly Parameter Anywhere true e z.0 z.1) (normal.bounds na ne) (printing.bounds_joined pa pe) v l r

  -- however they end
  abbrev pub SomeBounds : Manner → Relation (Many (TypeParamBound A E) token.Plus)
  SomeBounds how v l r = (e : End) × AreBounds part how Parameter Anywhere true e v.0 v.1 l r

-- ---- parameters, over what stands within them

module _ {A E : Type 0} (na : List A → List A) (ne : NormalValues E) (pa : List A → Print) (pe : Values E) (part : Manner → Parts A E) (held : Again na ne pa pe part) (supplied : SuppliedAgain na ne pa pe part) where
  -- ---- defaults

  abbrev TypeDefault : Type 0
  TypeDefault = Option (token.Equals × TypeTree A E)

  abbrev ConstDefault : Type 0
  ConstDefault = Option (token.Equals × E)

  given_front : {V : Type 0} (S T : Relation V) (n : V → V) (f : V → Print) → ((x : V) (l r : Toks) → S x l r → AgainFront T n f x l r) → (z : token.Equals × V) (l r : Toks) → IsGiven false S z l r →
      AgainFront (IsGiven true T) (λ z. (z.0, n z.1)) (λ z. p.mark z.0 ++ f z.1) z l r
  given_front S T n f again z l r (given {q = q} {x = x} {m = m} i j) =
      let h = then_front (IsMark true) (λ (y : token.Equals). y) (λ (y : token.Equals). p.mark y) T n f q x l m r (mark_front q l m i) (again x m r j) in
      record { spelt = λ k. let t = h.spelt k in given t.1 t.2; visible = λ k u v. h.visible k u v; seen = λ u. h.seen u; stays = h.stays; same = h.same }

  any_type_again : (x : TypeTree A E) (l r : Toks) → IsAnyType part plainly x l r → AgainFront (IsAnyType part clearly) (normal.ty na ne) (printing.ty pa pe) x l r
  any_type_again x l r (any_type {e = e} i) = let h = held.ty Plus e x l r i in record { spelt = λ k. any_type (h.spelt k); visible = λ k u v. h.visible k u v; seen = λ u. h.seen u; stays = h.stays; same = h.same }

  abbrev TypeGiven : Manner → Bool → Relation TypeDefault
  TypeGiven how clear = IsOptional (IsGiven clear (IsAnyType part how))

  type_default_again : (d : TypeDefault) (l r : Toks) → TypeGiven plainly false d l r → AgainFront (TypeGiven clearly true) (normal.type_default na ne) (shown.type_default_by pa pe (printing.ty pa pe)) d l r
  type_default_again d l r absent = record { spelt = λ k. absent; visible = λ k u v. v; seen = λ u. u; stays = refl; same = refl }
  type_default_again d l r (present {a = y} i) =
      let h = given_front (IsAnyType part plainly) (IsAnyType part clearly) (normal.ty na ne) (printing.ty pa pe) any_type_again y l r i in
      record { spelt = λ k. present (h.spelt k); visible = λ k u v. h.visible k u v; seen = λ u. h.seen u; stays = ap (λ z. Some z) h.stays; same = h.same }

  abbrev ConstGiven : Manner → Bool → Relation ConstDefault
  ConstGiven how clear = IsOptional (IsGiven clear (part how).const_default)

  const_default_again : (d : ConstDefault) (l r : Toks) → ConstGiven plainly false d l r → AgainFront (ConstGiven clearly true) (shapes.const_default na ne) (shown.const_default pa pe) d l r
  const_default_again d l r absent = record { spelt = λ k. absent; visible = λ k u v. v; seen = λ u. u; stays = refl; same = refl }
  const_default_again d l r (present {a = y} i) =
      let h = given_front (part plainly).const_default (part clearly).const_default ne.const_argument pe.const_argument supplied.const_default y l r i in
      record { spelt = λ k. present (h.spelt k); visible = λ k u v. h.visible k u v; seen = λ u. h.seen u; stays = ap (λ z. Some z) h.stays; same = h.same }

  -- ---- constants

  abbrev ConstPieces : Type 0
  ConstPieces = List A × (token.Const × (Ident × (token.Colon × (TypeTree A E × ConstDefault))))

  abbrev const_of : ConstPieces → ConstParam A E
  const_of z = const_param_of z.0 z.1.0 z.1.1.0 z.1.1.1.0 z.1.1.1.1.0 z.1.1.1.1.1

  const_by : (z : ConstPieces) (l m n k j o r : Toks) → (part clearly).attrs z.0 l m → IsWord z.1.0 m n → n ≡ word z.1.1.0 k → is_ident z.1.1.0.text ≡ true → IsMark true z.1.1.1.0 k j → IsAnyType part clearly z.1.1.1.1.0 j o → ConstGiven clearly true z.1.1.1.1.1 o r →
      IsConstParam part clearly (const_of z) l r
  const_by z l m n k j o r a w e i c t d = a_const_param a (subst (λ y. IsWord z.1.0 m y) e w) i c t d

  pub const_param_again : (x : ConstParam A E) (l r : Toks) → IsConstParam part plainly x l r → AgainFront (IsConstParam part clearly) (normal.const_param na ne) (printing.const_param pa pe) x l r
  const_param_again x l r (a_const_param {a = a} {w = w} {i = i} {c = c} {x = y} {d = d} {m = m} {n = n} {k = k} {j = j} at b e f h t) =
      let u = then_front (IsAnyType part clearly) (normal.ty na ne) (printing.ty pa pe) (ConstGiven clearly true) (shapes.const_default na ne) (shown.const_default pa pe) y d k j r (any_type_again y k j h) (const_default_again d j r t) in
      let q = then_front (IsMark true) (λ (z : token.Colon). z) (λ (z : token.Colon). p.mark z) _ _ _ c (y, d) n k r (mark_front c n k f) u in
      let s = then_front (IsNamed is_ident) (λ (z : Ident). z) p.ident _ _ _ i (c, (y, d)) (word i n) n r (named_front is_ident i n e) q in
      let v = then_front IsWord (λ (z : token.Const). z) (λ (z : token.Const). p.word z) _ _ _ w (i, (c, (y, d))) m (word i n) r (word_front w m (word i n) b) s in
      let o = then_front (part clearly).attrs na pa _ _ _ a (w, (i, (c, (y, d)))) l m r (supplied.attrs a l m at) v in
      made_front _ _ _ (IsConstParam part clearly) (normal.const_param na ne) (printing.const_param pa pe) const_of (λ z. refl) (λ z. refl)
      (λ z b g h. const_by z b h.0 h.2.0 h.2.2.0 h.2.2.2.0 h.2.2.2.2.0 g h.1 h.2.1 h.2.2.1.0 h.2.2.1.1 h.2.2.2.1 h.2.2.2.2.1 h.2.2.2.2.2) (a, (w, (i, (c, (y, d))))) l r o

  -- ---- types with their bounds: that of the bounds is given

  no_bound : (e : End) (ps : List token.Plus) (l r : Toks) → AreBounds part plainly Parameter Anywhere true e [] ps l r → (l ≡ r) × (ps ≡ [])
  no_bound e ps l r (no_bounds u) = (refl, refl)

  module _ (bounds : BoundsAgain na ne pa pe part) where
    pub some_bounds_again : (v : Many (TypeParamBound A E) token.Plus) (l r : Toks) → SomeBounds na ne pa pe part plainly v l r → AgainFront (SomeBounds na ne pa pe part clearly) (normal.bounds na ne) (printing.bounds_joined pa pe) v l r
    some_bounds_again v l r i = let h = bounds i.0 v l r i.1 in record { spelt = λ k. (i.0, h.spelt k); visible = λ k u w. h.visible k u w; seen = λ u. h.seen u; stays = h.stays; same = h.same }

    abbrev BoundsAfter : Type 0
    BoundsAfter = Option token.Colon × Many (TypeParamBound A E) token.Plus

    bounds_after : (c : Option token.Colon) (xs : List (TypeParamBound A E)) (ps : List token.Plus) (l r : Toks) → AreBoundsAfter part plainly c xs ps l r → IsAfter false (SomeBounds na ne pa pe part plainly) (c, (xs, ps)) l r
    bounds_after c xs ps l r no_colon = none_after
    bounds_after c xs ps l r (after_colon {e = e} i j) = some_after i (e, j)

    after_bounds : (z : BoundsAfter) (l r : Toks) → IsAfter true (SomeBounds na ne pa pe part clearly) z l r → AreBoundsAfter part clearly z.0 z.1.0 z.1.1 l r
    after_bounds z l r none_after = no_colon
    after_bounds z l r (some_after i j) = after_colon i j.1

    pub bounds_after_again : (c : Option token.Colon) (xs : List (TypeParamBound A E)) (ps : List token.Plus) (l r : Toks) → AreBoundsAfter part plainly c xs ps l r →
        AgainFront (λ (z : BoundsAfter). AreBoundsAfter part clearly z.0 z.1.0 z.1.1) (λ (z : BoundsAfter). (colon z.0 z.1.0, normal.bounds na ne z.1)) (λ (z : BoundsAfter). shown.after_colon (printing.bound pa pe) z.0 z.1) (c, (xs, ps)) l r
    bounds_after_again c xs ps l r i =
        let h = after_front (SomeBounds na ne pa pe part plainly) (SomeBounds na ne pa pe part clearly) (normal.bound na ne) (printing.bound pa pe) some_bounds_again (λ qs a b j. no_bound j.0 qs a b j.1) (c, (xs, ps)) l r (bounds_after c xs ps l r i) in
        record { spelt = λ k. after_bounds _ (row (shown.after_colon (printing.bound pa pe) c (xs, ps)) k) k (h.spelt k); visible = λ k u v. h.visible k u v; seen = λ u. h.seen u; stays = h.stays; same = h.same }

    abbrev TypePieces : Type 0
    TypePieces = List A × (Ident × (BoundsAfter × TypeDefault))

    abbrev type_of : TypePieces → TypeParam A E
    type_of z = type_param_of z.0 z.1.0 z.1.1.0.0 z.1.1.0.1 z.1.1.1

    type_by : (z : TypePieces) (l m n k r : Toks) → (part clearly).attrs z.0 l m → m ≡ word z.1.0 n → is_ident z.1.0.text ≡ true → AreBoundsAfter part clearly z.1.1.0.0 z.1.1.0.1.0 z.1.1.0.1.1 n k → TypeGiven clearly true z.1.1.1 k r → IsTypeParam part clearly (type_of z) l r
    type_by z l m n k r a e i c d = a_type_param (subst (λ y. (part clearly).attrs z.0 l y) e a) i c d

    pub type_param_again : (x : TypeParam A E) (l r : Toks) → IsTypeParam part plainly x l r → AgainFront (IsTypeParam part clearly) (normal.type_param na ne) (printing.type_param pa pe) x l r
    type_param_again x l r (a_type_param {a = a} {i = i} {c = c} {xs = xs} {ps = ps} {d = d} {m = m} {n = n} b e t j) =
        let u = then_front _ _ _ (TypeGiven clearly true) (normal.type_default na ne) (shown.type_default_by pa pe (printing.ty pa pe)) (c, (xs, ps)) d m n r (bounds_after_again c xs ps m n t) (type_default_again d n r j) in
        let q = then_front (IsNamed is_ident) (λ (z : Ident). z) p.ident _ _ _ i ((c, (xs, ps)), d) (word i m) m r (named_front is_ident i m e) u in
        let o = then_front (part clearly).attrs na pa _ _ _ a (i, ((c, (xs, ps)), d)) l (word i m) r (supplied.attrs a l (word i m) b) q in
        made_front _ _ _ (IsTypeParam part clearly) (normal.type_param na ne) (printing.type_param pa pe) type_of
        (λ z. type_param_normal na ne z.0 z.1.0 z.1.1.0.0 z.1.1.0.1 z.1.1.1) (λ z. type_param_parts pa pe z.0 z.1.0 z.1.1.0.0 z.1.1.0.1 z.1.1.1)
        (λ z b f h. type_by z b h.0 h.2.0 h.2.2.0 f h.1 h.2.1.0 h.2.1.1 h.2.2.1 h.2.2.2) (a, (i, ((c, (xs, ps)), d))) l r o

    -- ---- a parameter in its place

    abbrev bare_of : List A × Ident → GenericParam A E
    bare_of z = g.«Type» (type_param_of z.0 z.1 None ([], []) None)

    pub param_again : (place : ParamPlace) (x : GenericParam A E) (l r : Toks) → IsParam part plainly place x l r → AgainFront (IsParam part clearly place) (normal.param na ne) (printing.param pa pe) x l r
    param_again place x l r (a_lifetime_param {x = y} i) =
        made_front (IsLifetimeParam part clearly) (shapes.lifetime_param na ne) (shown.lifetime_param pa pe) (IsParam part clearly place) (normal.param na ne) (printing.param pa pe) g.Lifetime
        (normal-Lifetime na ne) (param-Lifetime pa pe) (λ z b c h. a_lifetime_param h) y l r (lifetime_param_again na ne pa pe part supplied.attrs y l r i)
    param_again place x l r (a_named_param {x = y} i) =
        made_front (IsTypeParam part clearly) (normal.type_param na ne) (printing.type_param pa pe) (IsParam part clearly place) (normal.param na ne) (printing.param pa pe) g.«Type»
        (normal-Type na ne) (param-Type pa pe) (λ z b c h. a_named_param h) y l r (type_param_again y l r i)
    param_again place x l r (a_constant_param {x = y} i) =
        made_front (IsConstParam part clearly) (normal.const_param na ne) (printing.const_param pa pe) (IsParam part clearly place) (normal.param na ne) (printing.param pa pe) g.Const
        (normal-Const na ne) (param-Const pa pe) (λ z b c h. a_constant_param h) y l r (const_param_again y l r i)
    param_again place x l r (a_bare_param {a = a} {i = i} b e) =
        made_front _ _ _ (IsParam part clearly params.Generics) (normal.param na ne) (printing.param pa pe) bare_of
        (λ z. normal-Type na ne (type_param_of z.0 z.1 None ([], []) None) ∙ ap (λ y. g.«Type» y) (type_param_normal na ne z.0 z.1 None ([], []) None))
        (λ z. param-Type pa pe (type_param_of z.0 z.1 None ([], []) None) ∙ type_param_parts pa pe z.0 z.1 None ([], []) None)
        (λ z b c h. a_bare_param (subst (λ y. (part clearly).attrs z.0 b y) h.2.0 h.1) h.2.1) (a, i) l r
        (then_front (part clearly).attrs na pa (IsNamed (is_text token.underscore_text)) (λ (z : Ident). z) p.ident a i l (word i r) r (supplied.attrs a l (word i r) b) (named_front (is_text token.underscore_text) i r e))

-- ---- binders

module _ {A E : Type 0} (P Q : Relation (GenericParam A E)) (np : GenericParam A E → GenericParam A E) (pp : GenericParam A E → Print)
    (again : (x : GenericParam A E) (l r : Toks) → P x l r → AgainFront Q np pp x l r) where
  abbrev Binder : Type 0
  Binder = BoundLifetimes A E

  abbrev normal_binder : Binder → Binder
  normal_binder x = bound_lifetimes_of x.for_token x.lt_token (many np x.lifetimes) x.gt_token

  abbrev BinderPieces : Type 0
  BinderPieces = token.For × (token.Lt × (Many (GenericParam A E) token.Comma × token.Gt))

  abbrev binder_of : BinderPieces → Binder
  binder_of z = bound_lifetimes_of z.0 z.1.0 z.1.1.0 z.1.1.1

  abbrev Listed : Relation (Many (GenericParam A E) token.Comma)
  Listed z l r = AreListed (λ (_ : Bool). Q) (IsMark true) Anywhere true z.0 z.1 l r

  pub binder_again : (x : Binder) (l r : Toks) → IsBinder false P x l r → AgainFront (IsBinder true Q) normal_binder (shown.bound_lifetimes_by pp) x l r
  binder_again x l r (a_binder {f = f} {o = o} {xs = xs} {cs = cs} {c = c} {m = m} {n = n} {k = k} i j t q) =
      let u = listed_front (λ (_ : Bool). P) (λ (_ : Bool). Q) (IsMark false) (IsMark true) Anywhere np pp p.mark (λ _. again) mark_front true xs cs n k t in
      let e = then_front Listed (many np) (λ (z : Many (GenericParam A E) token.Comma). joined pp p.mark z.0 z.1) (IsMark true) (λ (z : token.Gt). z) (λ (z : token.Gt). p.mark z) (xs, cs) c n k r u (mark_front c k r q) in
      let d = then_front (IsMark true) (λ (z : token.Lt). z) (λ (z : token.Lt). p.mark z) _ _ _ o ((xs, cs), c) m n r (mark_front o m n j) e in
      let a = then_front IsWord (λ (z : token.For). z) (λ (z : token.For). p.word z) _ _ _ f (o, ((xs, cs), c)) l m r (word_front f l m i) d in
      made_front _ _ _ (IsBinder true Q) normal_binder (shown.bound_lifetimes_by pp) binder_of (λ z. refl) (λ z. refl)
      (λ z b g h. a_binder h.1 h.2.1 h.2.2.1 h.2.2.2) (f, (o, ((xs, cs), c))) l r a

module _ {A E : Type 0} (na : List A → List A) (ne : NormalValues E) (pa : List A → Print) (pe : Values E) (part : Manner → Parts A E) (held : Again na ne pa pe part) where
  pub for_again : (x : BoundLifetimes A E) (l r : Toks) → IsFor part plainly x l r → AgainFront (IsFor part clearly) (normal.bound_lifetimes na ne) (printing.bound_lifetimes pa pe) x l r
  for_again = binder_again ((part plainly).param params.Binder) ((part clearly).param params.Binder) (normal.param na ne) (printing.param pa pe) (held.param params.Binder)

  pub optional_for_again : (o : Option (BoundLifetimes A E)) (l r : Toks) → IsOptional (IsFor part plainly) o l r →
      AgainFront (IsOptional (IsFor part clearly)) (option_map (normal.bound_lifetimes na ne)) (p.optional (printing.bound_lifetimes pa pe)) o l r
  optional_for_again = optional_again (IsFor part plainly) (IsFor part clearly) (normal.bound_lifetimes na ne) (printing.bound_lifetimes pa pe) for_again
