-- Where generics, predicates and where clauses are read, they are spelt by the rules of the whole grammar: over the reads of what they hold, and by themselves.
use Rattle.std.proofs.Common.{◌≡◌, ◌<◌, ◌≤◌, Bool, true, false, not, ◌&&◌, ◌||◌, List, Option, None, Some, Ok, inl, inr, refl, sym, ◌∙◌, ap, subst, arith}
use Rattle.syn_generics.proofs.generics_laws.words.Tokens.{Lifetime, read_lifetime, sees_lifetime, AreListed, Anywhere, Many, Reader, any_text, is_done, optional, second, sees_group, sees_mark, sees_word, third, Visible, IsMark, IsLifetime, Stream, Toks, done, word, mark, lit, group, enter, leave}
use Rattle.syn_generics.proofs.generics_laws.words.Paths.{ReadValues, Along}
use Rattle.syn_generics.proofs.generics_laws.words.Forms.{Generics, Bounded, ahead, held, LifetimePredicate, ends_lifetime_predicate, ends_predicate, predicates_to}
use Rattle.syn_generics.proofs.generics_laws.words.Types.{IsFor, begins_as_generics, binder, optional_binder, sees_ident, reads_below, ty, Manner, loosely, Parts, Readers, a_param, IsOptional, absent, present, BoundLifetimes, GenericParam, TypeParamBound, TypeTree}
use Rattle.syn_generics.proofs.generics_laws.words.Generics.{GenericsOf, PredicateLifetimeOf, PredicateTypeOf, WhereClauseOf, WherePredicateOf, IsLifetimePredicate, a_lifetime_predicate, bounds_of, IsTypePredicate, a_type_predicate, a_type_predicate_for, IsPredicate, of_lifetime, of_type, IsWhereClause, a_where_clause, lifetime_after, predicate_after, predicate_bounds, sees_first_param, sees_generics, sees_lifetime_predicate, type_after, AreGenerics, no_generics, some_generics, empty, generics_of, predicate_lifetime_of, predicate_type_of, where_clause_of}
use Rattle.token_core.specs.Tokens as token
use Rattle.token_core.proofs.Took.{branch, mapped}
use Rattle.token_core.proofs.Turns.{chain, same_pair}
use Rattle.syn_path.proofs.Words.{TookOne}
use Rattle.syn_forms.specs.heads.Reading.{Angled, angled}
use Rattle.syn_forms.specs.lists.Reading.{bounds_to}
use Rattle.syn_forms.specs.predicates.Reading as predicates
use Rattle.syn_forms.proofs.nested_laws.Ahead.{ahead_follows}
use Rattle.syn_forms.proofs.nested_laws.Below.{out}
use Rattle.syn_forms.proofs.tokens_laws.Fronts.{took_as, took_plainly}
use Rattle.syn_generics.specs.declared.generics.WherePredicateOf.TheVariants as w
use Rattle.syn_generics.specs.generics.Alone as alone
use Rattle.syn_generics.specs.generics.Declared as declared
use Rattle.syn_ty.proofs.ty_laws.sound.Angles.{IsAngled, angled_took}
use Rattle.syn_ty.proofs.ty_laws.sound.Params.{After, HeldBelow, AreLives, AreParamBounds, colon_took, list_took, lives_took, mark_took, optional_for_took, param_bounds_took, with_attrs}
use Rattle.syn_ty.proofs.ty_laws.sound.Leaves.{life_sound, named_sound}
use Rattle.syn_ty.proofs.ty_laws.sound.Forms.{Told, unseen}
use Rattle.syn_ty.proofs.ty_laws.sound.Within.{Held, Supplied}

-- ---- the generics of a declaration

module _ {A E : Type 0} (r : Readers A E) (part : Manner → Parts A E) (h : Held r part) where
  abbrev Marked : Angled (GenericParam A E) → Toks → Toks → Type 0
  Marked = IsAngled ((part loosely).param Generics) (r (a_param Generics)) (h.param Generics)

  pub generics_took : (s t : Stream) (x : GenericsOf A E) → Visible s.rest → declared.generics r s ≡ Ok (x, t) → TookOne (AreGenerics part loosely) s t x
  unfolding declared.generics
  generics_took s t x v e =
      elim (branch (token.sees_lt s.rest) _ _ s (Ok (x, t)) e) [
        | inl y ↦ let of : Angled (GenericParam A E) → GenericsOf A E = λ p. generics_of (Some p.0) p.1 (Some p.2) None in
            let k = mapped (angled (r (a_param Generics)) s) of x t y.1 in
            took_as {Is = Marked} {Js = AreGenerics part loosely} of s t k.value x k.is (λ l m i. some_generics i.2 i.3 i.4) (angled_took ((part loosely).param Generics) (r (a_param Generics)) (h.param Generics) s t k.value v k.was)
        | inr y ↦ let q = same_pair empty x s t y.1 in
            subst (λ z. TookOne (AreGenerics part loosely) s t z) q.0 (subst (λ z. TookOne (AreGenerics part loosely) s z empty) q.1 (took_plainly {Is = AreGenerics part loosely} s s empty no_generics refl v))
      ]

-- ---- predicates of lifetimes

-- a word ends no bounds of a predicate
predicate_ends : (l : Toks) → ends_predicate l ≡ true → sees_word any_text l ≡ false
unfolding ends_predicate is_done sees_group sees_mark sees_word
predicate_ends done e = refl
predicate_ends (word i k) e = cc e
predicate_ends (mark p k) e = refl
predicate_ends (lit x k) e = refl
predicate_ends (group d s c k) e = refl
predicate_ends (enter s k) e = predicate_ends k e
predicate_ends (leave k) e = predicate_ends k e

-- a lifetime, `:` and lifetimes
abbrev IsLives : LifetimePredicate → Toks → Toks → Type 0
IsLives p l r = (m : Toks) × (n : Toks) × IsLifetime p.0 l m × IsMark false p.1 m n × AreLives p.2 n r

lifetime_predicate_took : (s t : Stream) (p : LifetimePredicate) → Visible s.rest → predicates.lifetime_predicate s ≡ Ok (p, t) → TookOne IsLives s t p
unfolding predicates.lifetime_predicate
lifetime_predicate_took s t p v e =
    let a = chain (read_lifetime s) _ p t e in
    let ka = life_sound s a.rest a.value v a.was in
    let c = chain (token.colon a.rest) _ p t a.goes in
    let kc = colon_took a.rest c.rest c.value ka.seen c.was in
    let with : Many Lifetime token.Plus → LifetimePredicate = λ z. (a.value, c.value, z) in
    let b = mapped (bounds_to read_lifetime ends_lifetime_predicate c.rest) with p t c.goes in
    let kb = lives_took ends_lifetime_predicate c.rest t b.value kc.seen b.was in
    record {
      left = λ n. ka.left (kc.left (kb.left n));
      seen = kb.seen;
      spelt = λ n. subst (λ z. IsLives z s.rest t.rest) b.is (a.rest.rest, c.rest.rest, ka.spelt (kc.left (kb.left n)), kc.spelt (kb.left n), kb.spelt n);
    }

module _ {A E : Type 0} (part : Manner → Parts A E) where
  lives_at : (a : List A) (p : LifetimePredicate) (l m k : Toks) → (part loosely).attrs a l m → IsLives p m k → IsLifetimePredicate part loosely (predicate_lifetime_of a p.0 p.1 p.2) l k
  lives_at a p l m k i j = a_lifetime_predicate i j.2 j.3 j.4

  pub lifetime_after_took : (a : List A) (s t : Stream) (x : PredicateLifetimeOf A) → Visible s.rest → lifetime_after a s ≡ Ok (x, t) → TookOne (After part a (IsLifetimePredicate part loosely)) s t x
  lifetime_after_took a s t x v e =
      let of : LifetimePredicate → PredicateLifetimeOf A = λ p. predicate_lifetime_of a p.0 p.1 p.2 in
      let k = mapped (predicates.lifetime_predicate s) of x t e in
      took_as {Is = IsLives} {Js = After part a (IsLifetimePredicate part loosely)} of s t k.value x k.is (λ m n i. λ l j. lives_at a k.value l m n j i) (lifetime_predicate_took s t k.value v k.was)

-- ---- predicates, over the read of the type, which may stand where the predicate begins: its law is wanted in the places where it is asked

module _ {A E : Type 0} (type : Reader (TypeTree A E)) (r : Readers A E) (part : Manner → Parts A E) (h : Held r part) (Asked : Stream → Type 0)
    (took_type : (s t : Stream) (x : TypeTree A E) → Asked s → Visible s.rest → type s ≡ Ok (x, t) → TookOne (Told ((part loosely).ty Bounded)) s t x) where
  abbrev Bounds : Type 0
  Bounds = Many (TypeParamBound A E) token.Plus

  abbrev For : Type 0
  For = Option (BoundLifetimes A E)

  abbrev TypeOf : TypeTree A E → Toks → Toks → Type 0
  TypeOf = Told ((part loosely).ty Bounded)

  -- it is asked after the binder
  abbrev Reached : Stream → Type 0
  Reached s = (o : For) (u : Stream) → optional_binder r s ≡ Ok (o, u) → Asked u

  bounds_took : (s t : Stream) (b : Bounds) → Visible s.rest → predicate_bounds r s ≡ Ok (b, t) → TookOne (AreParamBounds part) s t b
  unfolding predicate_bounds
  bounds_took s t b v e = param_bounds_took part r h ends_predicate predicate_ends s t b v e

  type_at : (a : List A) (o : For) (x : TypeTree A E) (c : token.Colon) (b : Bounds) (l m n k j z : Toks) → (part loosely).attrs a l m → IsOptional (IsFor part loosely) o m n → (o ≡ None → token.sees_for m ≡ false) → TypeOf x n k →
      IsMark false c k j → AreParamBounds part b j z → IsTypePredicate part loosely (predicate_type_of a o x c b) l z
  type_at a o x c b l m n k j z i absent u y q p = a_type_predicate i (u refl) y.1 (bounds_of q p.1)
  type_at a o x c b l m n k j z i (present f) u y q p = a_type_predicate_for i f y.1 (bounds_of q p.1)

  unseen_for : (s t : Stream) (o : For) → optional_binder r s ≡ Ok (o, t) → o ≡ None → token.sees_for s.rest ≡ false
  unfolding optional_binder
  unseen_for s t o e n = unseen token.sees_for (binder r) s t o e n

  pub type_after_took : (a : List A) (s t : Stream) (x : PredicateTypeOf A E) → Reached s → Visible s.rest → type_after type r a s ≡ Ok (x, t) → TookOne (After part a (IsTypePredicate part loosely)) s t x
  unfolding type_after
  type_after_took a s t x at v e =
      let o = chain (optional_binder r s) _ x t e in
      let ko = optional_for_took r part h s o.rest o.value v o.was in
      let y = chain (type o.rest) _ x t o.goes in
      let ky = took_type o.rest y.rest y.value (at o.value o.rest o.was) ko.seen y.was in
      let c = chain (token.colon y.rest) _ x t y.goes in
      let kc = colon_took y.rest c.rest c.value ky.seen c.was in
      let with : Bounds → PredicateTypeOf A E = λ z. predicate_type_of a o.value y.value c.value z in
      let b = mapped (predicate_bounds r c.rest) with x t c.goes in
      let kb = bounds_took c.rest t b.value kc.seen b.was in
      record {
        left = λ n. ko.left (ky.left (kc.left (kb.left n)));
        seen = kb.seen;
        spelt = λ n. λ l i.
            let nc = kb.left n in
            let ny = kc.left nc in
            subst (λ z. IsTypePredicate part loosely z l t.rest) b.is
            (type_at a o.value y.value c.value b.value l s.rest o.rest.rest y.rest.rest c.rest.rest t.rest i (ko.spelt (ky.left ny)) (unseen_for s o.rest o.value o.was) (ky.spelt ny) (kc.spelt nc) (kb.spelt n));
      }

  pub predicate_after_took : (a : List A) (s t : Stream) (x : WherePredicateOf A E) → Reached s → Visible s.rest → predicate_after type r a s ≡ Ok (x, t) → TookOne (After part a (IsPredicate part loosely)) s t x
  unfolding predicate_after
  predicate_after_took a s t x at v e =
      elim (branch (sees_lifetime_predicate s.rest) _ _ s (Ok (x, t)) e) [
        | inl y ↦ let k = mapped (lifetime_after a s) w.Lifetime x t y.1 in
            took_as {Is = After part a (IsLifetimePredicate part loosely)} {Js = After part a (IsPredicate part loosely)} w.Lifetime s t k.value x k.is (λ m n i. λ l j. of_lifetime (i l j)) (lifetime_after_took part a s t k.value v k.was)
        | inr y ↦ let k = mapped (type_after type r a s) w.«Type» x t y.1 in
            took_as {Is = After part a (IsTypePredicate part loosely)} {Js = After part a (IsPredicate part loosely)} w.«Type» s t k.value x k.is (λ m n i. λ l j. of_type (i l j)) (type_after_took a s t k.value at v k.was)
      ]

  module _ (attrs : Reader (List A)) (took_attrs : (s t : Stream) (x : List A) → Visible s.rest → attrs s ≡ Ok (x, t) → TookOne (part loosely).attrs s t x) where
    -- the attributes end where the type is asked after the binder
    pub asked_took : (s t : Stream) (x : WherePredicateOf A E) → ((a : List A) (u : Stream) → attrs s ≡ Ok (a, u) → Reached u) → Visible s.rest → declared.predicate attrs type r s ≡ Ok (x, t) → TookOne (IsPredicate part loosely) s t x
    unfolding declared.predicate
    asked_took s t x at v e = with_attrs attrs part took_attrs (IsPredicate part loosely) (predicate_after type r) s t x (λ a u i. predicate_after_took a u t x (at a u i)) v e

-- ---- where clauses

-- what begins as generics do is seen to be generics
shown : (a b c d e g k m : Bool) → a && (b || (c || (((d || e) && (g || k)) || m))) ≡ false → a && (e && g) ≡ false
shown false b c d e g k m h = refl
shown true b c d false g k m h = refl
shown true b c d true false k m h = refl
shown true true c d true true k m h = cc h
shown true false true d true true k m h = cc h
shown true false false true true true k m h = cc h
shown true false false false true true k m h = cc h

no_beginning : (l : Toks) → sees_generics l ≡ false → begins_as_generics l ≡ false
unfolding sees_generics sees_first_param
no_beginning l h =
    shown (token.sees_lt l) (second token.sees_gt l) (second token.sees_pound l) (second sees_lifetime l) (second sees_ident l) (third token.sees_gt l)
    (third token.sees_comma l || ((third token.sees_colon l && not (third token.sees_path_sep l)) || third token.sees_equals l)) (second token.sees_const l) h

-- where generics are refused, none stood there
none_read : (s t : Stream) (u : Unit {0}) → declared.no_generics s ≡ Ok (u, t) → (s ≡ t) × (sees_generics s.rest ≡ false)
unfolding declared.no_generics
none_read s t u e = elim (branch (sees_generics s.rest) _ _ s (Ok (u, t)) e) [ inl y ↦ cc y.1 | inr y ↦ ((same_pair tt u s t y.1).1, y.0) ]

comma_took : (s t : Stream) (c : token.Comma) → Visible s.rest → token.comma s ≡ Ok (c, t) → TookOne (IsMark false) s t c
comma_took s t c v e = mark_took {n = 4} {k = 1} refl (omega arith) s t c v e

module _ {A E : Type 0} (one : Reader (WherePredicateOf A E)) (part : Manner → Parts A E) (took : (s t : Stream) (x : WherePredicateOf A E) → Visible s.rest → one s ≡ Ok (x, t) → TookOne (IsPredicate part loosely) s t x) where
  abbrev Predicates : Type 0
  Predicates = Many (WherePredicateOf A E) token.Comma

  abbrev Is : WherePredicateOf A E → Toks → Toks → Type 0
  Is = IsPredicate part loosely

  abbrev ArePredicates : Predicates → Toks → Toks → Type 0
  ArePredicates b l r = AreListed (λ (_ : Bool). Is) (IsMark false) Anywhere true b.0 b.1 l r

  predicates_took : (s t : Stream) (b : Predicates) → Visible s.rest → predicates_to one s ≡ Ok (b, t) → TookOne ArePredicates s t b
  predicates_took s t b v e = list_took (λ (_ : Bool). ends_predicate) one token.sees_comma token.comma Is (IsMark false) took comma_took true s t b v e

  pub where_took : (s t : Stream) (x : WhereClauseOf A E) → Visible s.rest → declared.where_clause one s ≡ Ok (x, t) → TookOne (IsWhereClause part loosely) s t x
  unfolding declared.where_clause
  where_took s t x v e =
      let c = chain (token.where_word s) _ x t e in
      let kc = named_sound {n = 18} s c.rest c.value v c.was in
      let d = chain (declared.no_generics c.rest) _ x t c.goes in
      let kd = none_read c.rest d.rest d.value d.was in
      let with : Predicates → WhereClauseOf A E = λ z. where_clause_of c.value z in
      let b = mapped (predicates_to one d.rest) with x t d.goes in
      let kb = predicates_took d.rest t b.value (subst (λ (z : Stream). Visible z.rest) kd.0 kc.seen) b.was in
      let left : t.left ≡ None → c.rest.left ≡ None = λ n. ap (λ (z : Stream). z.left) kd.0 ∙ kb.left n in
      record {
        left = λ n. kc.left (left n);
        seen = kb.seen;
        spelt = λ n. subst (λ z. IsWhereClause part loosely z s.rest t.rest) b.is
            (a_where_clause (kc.spelt (left n)) (no_beginning c.rest.rest kd.1) (subst (λ (z : Stream). ArePredicates b.value z.rest t.rest) (sym kd.0) (kb.spelt n)));
      }

-- ---- by themselves: what they hold is read by the knot, further on

-- what may be there, where its read is known at this place
optional_at : {F : Type 0} (Is : F → Toks → Toks → Type 0) (sees : Toks → Bool) (p : Reader F) (s t : Stream) (o : Option F) → ((x : F) → p s ≡ Ok (x, t) → TookOne Is s t x) → Visible s.rest → optional sees p s ≡ Ok (o, t) →
    TookOne (IsOptional Is) s t o
optional_at {F} Is sees p s t o took v e =
    elim (branch (sees s.rest) _ _ s (Ok (o, t)) e) [
      | inl y ↦ let k = mapped (p s) (λ (z : F). Some z) o t y.1 in took_as {Is = Is} {Js = IsOptional Is} (λ (z : F). Some z) s t k.value o k.is (λ l r i. present i) (took k.value k.was)
      | inr y ↦ let q = same_pair None o s t y.1 in
          subst (λ z. TookOne (IsOptional Is) s t z) q.0 (subst (λ z. TookOne (IsOptional Is) s z None) q.1 (took_plainly {Is = IsOptional Is} s s None absent refl v))
    ]

module _ {A E : Type 0} (attrs : Reader (List A)) (values : ReadValues E) (part : Manner → Parts A E) where
  abbrev Below : Stream → Readers A E
  Below s = reads_below attrs values (ahead s)

  pub generics_alone_took : (s t : Stream) (x : GenericsOf A E) → HeldBelow attrs values part s → Visible s.rest → alone.generics attrs values s ≡ Ok (x, t) → TookOne (AreGenerics part loosely) s t x
  unfolding alone.generics
  generics_alone_took s t x h v e = generics_took (Below s) part h s t x v e

  -- the type is read where no more is left than at the predicate
  abbrev pub TypesTold : Stream → Type 0
  TypesTold s = (q u : Stream) (y : TypeTree A E) → ahead q ≤ ahead s → Visible q.rest → ty attrs values Bounded q ≡ Ok (y, u) → TookOne (Told ((part loosely).ty Bounded)) q u y

  no_more : (s u z : Stream) (a : List A) (o : Option (BoundLifetimes A E)) → Along attrs → Along (optional_binder (Below s)) → attrs s ≡ Ok (a, u) → optional_binder (Below s) u ≡ Ok (o, z) → ahead z ≤ ahead s
  no_more s u z a o g k i j =
      let m = ahead_follows s u (g s u a i) in
      let n = ahead_follows u z (k u z o j) in
      omega (arith, m, n)

  pub predicate_alone_took : (s t : Stream) (x : WherePredicateOf A E) → HeldBelow attrs values part s → Supplied attrs values part → Along (optional_binder (Below s)) → TypesTold s → Visible s.rest → alone.predicate attrs values s ≡ Ok (x, t) →
      TookOne (IsPredicate part loosely) s t x
  unfolding alone.predicate
  predicate_alone_took s t x h f k took v e =
      asked_took (ty attrs values Bounded) (Below s) part h (λ z. ahead z ≤ ahead s) (λ q u y m i j. took q u y m i j) attrs f.attrs_took s t x (λ a u i. λ o z j. no_more s u z a o f.attrs_along k i j) v e

  -- predicates are read where less is left than at the clause
  abbrev pub PredicatesTold : Stream → Type 0
  PredicatesTold s = (q u : Stream) (y : WherePredicateOf A E) → ahead q < ahead s → Visible q.rest → alone.predicate attrs values q ≡ Ok (y, u) → TookOne (IsPredicate part loosely) q u y

  pub where_alone_took : (s t : Stream) (x : WhereClauseOf A E) → PredicatesTold s → Visible s.rest → alone.where_clause attrs values s ≡ Ok (x, t) → TookOne (IsWhereClause part loosely) s t x
  unfolding alone.where_clause held
  where_alone_took s t x took v e =
      where_took (held (alone.predicate_in attrs values) (ahead s) tt) part (λ q u y i j. let b = out (ahead s) (alone.predicate attrs values) q u y j in took q u y b.less i b.was) s t x v e

  pub optional_where_alone_took : (s t : Stream) (o : Option (WhereClauseOf A E)) → PredicatesTold s → Visible s.rest → alone.optional_where_clause attrs values s ≡ Ok (o, t) → TookOne (IsOptional (IsWhereClause part loosely)) s t o
  unfolding alone.optional_where_clause
  optional_where_alone_took s t o took v e = optional_at (IsWhereClause part loosely) token.sees_where (alone.where_clause attrs values) s t o (λ x i. where_alone_took s t x took v i) v e
