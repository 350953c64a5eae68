-- Where parameters are read, they are spelt by the rules of the whole grammar: lifetimes, types and constants after their attributes, each in its place; where their bounds end open no `+` follows.
use Rattle.std.proofs.Common.{◌≡◌, ℕ, ◌≤◌, Bool, true, false, List, [], length, Option, Some, None, Ok, inl, inr, refl, sym, ◌∙◌, ap, subst, arith}
use Rattle.syn_ty.proofs.ty_laws.words.Tokens.{Lifetime, Mark, Ident, read_lifetime, sees_lifetime, AreListed, Anywhere, Many, Reader, ◌>>=◌, ◌<$>◌, any_text, ident_name, is_done, is_ident, is_text, optional, read_word, sees_mark, sees_word, Visible, IsMark, IsWord, IsLifetime, Stream, Toks, done, word, mark, lit, group, enter, leave}
use Rattle.syn_ty.proofs.ty_laws.words.Paths.{ReadValues}
use Rattle.syn_ty.proofs.ty_laws.words.Forms.{Parameter, ParamPlace, Binder, Plus, bounds_to, list, ahead}
use Rattle.syn_ty.proofs.ty_laws.words.Types.{LifetimeParamOf, AreBounds, IsFor, IsGiven, given, AreLifetimes, IsLifetimeParam, a_lone_lifetime, a_lifetime_with_bounds, AreBoundsAfter, no_colon, after_colon, IsAnyType, any_type, IsTypeParam, a_type_param, IsConstParam, a_const_param, IsParam, a_lifetime_param, a_named_param, a_constant_param, a_bare_param, const_param_of, lifetime_param_of, type_param_of, binder, optional_binder, param_after, param_step, in_binder, in_generics, reads_below, Manner, loosely, Parts, Readers, a_bound, a_type, Relation, IsOptional, absent, present, BoundLifetimes, ConstParam, GenericParam, TypeParam, TypeParamBound, TypeTree}
use Rattle.token_core.specs.Marks as marks
use Rattle.token_core.specs.Tokens as token
use Rattle.token_core.proofs.Listings.{listed_sound, listed_visible}
use Rattle.token_core.proofs.MarkSpells.{mark_sound, mark_visible}
use Rattle.token_core.proofs.Took.{branch, mapped, seen_word, took_word}
use Rattle.token_core.proofs.Turns.{chain, same_pair}
use Rattle.syn_path.proofs.Words.{TookOne}
use Rattle.syn_forms.specs.declared.places.ParamPlace.TheVariants.{Generics}
use Rattle.syn_forms.specs.params.Reading as parts
use Rattle.syn_forms.specs.params.Reading.{LifetimeParts, TypeParts, ConstParts, bounds_after, default_of, ends_lifetime, ends_type}
use Rattle.syn_forms.proofs.tokens_laws.Fronts.{plainly, took_as}
use Rattle.syn_ty.specs.declared.generics.GenericParamOf.TheVariants as g
use Rattle.syn_ty.specs.generics.Reading as reading
use Rattle.syn_ty.specs.generics.Reading.{lifetime_after, sees_ident, type_after, const_after, underscore_after}
use Rattle.syn_ty.specs.ty.Knot as knot
use Rattle.syn_ty.proofs.generics_laws.Sound as binders
use Rattle.syn_ty.proofs.ty_laws.sound.Bounds.{bounds_took}
use Rattle.syn_ty.proofs.ty_laws.sound.Leaves.{life_sound, named_sound, optional_sound}
use Rattle.syn_ty.proofs.ty_laws.sound.Forms.{Told}
use Rattle.syn_ty.proofs.ty_laws.sound.Within.{Held, Supplied}

-- ---- tokens

-- a mark
pub mark_took : {n k : ℕ} → length (marks.chars_of n) ≡ k → k ≤ 3 → (s t : Stream) (m : Mark n k) → Visible s.rest → marks.read n k s ≡ Ok (m, t) → TookOne (IsMark false) s t m
mark_took {n} {k} fits short s t m v e = plainly {Is = IsMark false {n = n} {k = k}} (λ a l r i w. mark_visible false {n = n} {k = k} a l r i w) s t m v (mark_sound {n = n} {k = k} fits short s t m v e)

pub colon_took : (s t : Stream) (c : token.Colon) → Visible s.rest → token.colon s ≡ Ok (c, t) → TookOne (IsMark false) s t c
colon_took s t c v e = mark_took {n = 7} {k = 1} refl (omega arith) s t c v e

pub plus_took : (s t : Stream) (p : token.Plus) → Visible s.rest → token.plus s ≡ Ok (p, t) → TookOne (IsMark false) s t p
plus_took s t p v e = mark_took {n = 20} {k = 1} refl (omega arith) s t p v e

-- an identifier
abbrev pub Named : Ident → Toks → Toks → Type 0
Named i l r = (l ≡ word i r) × (is_ident i.text ≡ true)

pub ident_took : (s t : Stream) (i : Ident) → Visible s.rest → read_word is_ident ident_name s ≡ Ok (i, t) → TookOne Named s t i
ident_took s t i v e =
    let k = took_word is_ident ident_name s t i v e in
    record { left = λ n. sym k.left ∙ n; seen = subst Visible k.is v; spelt = λ n. (k.is, k.meets) }

-- ---- lists that may end anywhere

module _ {V P : Type 0} (stops : Bool → Toks → Bool) (value : Reader V) (more : Toks → Bool) (joint : Reader P) (Is : Relation V) (Js : Relation P)
    (took : (s t : Stream) (x : V) → Visible s.rest → value s ≡ Ok (x, t) → TookOne Is s t x) (took_joint : (s t : Stream) (p : P) → Visible s.rest → joint s ≡ Ok (p, t) → TookOne Js s t p) where
  abbrev AreJoined : Bool → Many V P → Toks → Toks → Type 0
  AreJoined b w l r = AreListed (λ (_ : Bool). Is) Js Anywhere b w.0 w.1 l r

  value_took : (s t : Stream) (x : V) → Visible s.rest → value s ≡ Ok (x, t) → t.left ≡ None → (s.left ≡ None) × Is x s.rest t.rest
  value_took s t x v e n = let k = took s t x v e in (k.left n, k.spelt n)

  joint_took : (s t : Stream) (p : P) → Visible s.rest → joint s ≡ Ok (p, t) → t.left ≡ None → (s.left ≡ None) × Js p s.rest t.rest
  joint_took s t p v e n = let k = took_joint s t p v e in (k.left n, k.spelt n)

  all_took : (b : Bool) (s t : Stream) (w : Many V P) → Visible s.rest → list stops value more joint b s ≡ Ok (w, t) → t.left ≡ None → (s.left ≡ None) × AreJoined b w s.rest t.rest
  all_took b s t w v e n =
      listed_sound stops (λ (_ : Bool). value) more joint (λ (_ : Bool). Is) Js Anywhere (λ (z : Stream). z.left ≡ None)
      (λ c l i. tt) (λ c a d x u i. (took a d x u i).seen) (λ a d x u i. (took_joint a d x u i).seen) (λ c a d x u i j. value_took a d x u j) (λ a d x u i j. joint_took a d x u j) b s t w v e n

  pub list_took : (b : Bool) (s t : Stream) (w : Many V P) → Visible s.rest → list stops value more joint b s ≡ Ok (w, t) → TookOne (AreJoined b) s t w
  list_took b s t w v e = record {
    left = λ n. (all_took b s t w v e n).0;
    seen = listed_visible stops (λ (_ : Bool). value) more joint (λ (_ : Bool). Is) Js Anywhere (λ (z : Stream). z.left ≡ None)
        (λ c l i. tt) (λ c a d x u i. (took a d x u i).seen) (λ a d x u i. (took_joint a d x u i).seen) (λ c a d x u i j. value_took a d x u j) (λ a d x u i j. joint_took a d x u j) b s t w v e;
    spelt = λ n. (all_took b s t w v e n).1;
  }

-- lifetimes joined by `+`, up to an end
abbrev pub AreLives : Many Lifetime token.Plus → Toks → Toks → Type 0
AreLives w l r = AreLifetimes false w.0 w.1 l r

pub lives_took : (ends : Toks → Bool) (s t : Stream) (w : Many Lifetime token.Plus) → Visible s.rest → bounds_to read_lifetime ends s ≡ Ok (w, t) → TookOne AreLives s t w
lives_took ends s t w v e = list_took (λ (_ : Bool). ends) read_lifetime token.sees_plus token.plus IsLifetime (IsMark false) life_sound plus_took true s t w v e

-- a word ends no bounds of a type parameter
type_ends : (l : Toks) → ends_type l ≡ true → sees_word any_text l ≡ false
unfolding ends_type is_done sees_mark sees_word
type_ends done e = refl
type_ends (word i k) e = cc e
type_ends (mark p k) e = refl
type_ends (lit x k) e = refl
type_ends (group d s c k) e = refl
type_ends (enter s k) e = type_ends k e
type_ends (leave k) e = type_ends k e

-- bounds of a parameter, up to an end: where the last is open no `+` follows
module _ {A E : Type 0} (part : Manner → Parts A E) where
  abbrev pub AreParamBounds : Many (TypeParamBound A E) token.Plus → Toks → Toks → Type 0
  AreParamBounds = Told (λ e (w : Many (TypeParamBound A E) token.Plus). AreBounds part loosely Parameter Anywhere true e w.0 w.1)

  pub param_bounds_took : (r : Readers A E) → Held r part → (ends : Toks → Bool) → ((l : Toks) → ends l ≡ true → sees_word any_text l ≡ false) →
      (s t : Stream) (w : Many (TypeParamBound A E) token.Plus) → Visible s.rest → bounds_to (r (a_bound Parameter)) ends s ≡ Ok (w, t) → TookOne AreParamBounds s t w
  param_bounds_took r h ends no_word s t w v e = bounds_took part Parameter Anywhere (λ (_ : Bool). ends) (r (a_bound Parameter)) (λ b l i. tt) no_word (h.bound Parameter) true s t w v e

-- ---- what stands after a `:`

module _ {B : Type 0} (Are : Relation (Many B token.Plus)) where
  -- nothing, or `:` and a list
  data IsAfter : Option token.Colon → Many B token.Plus → Toks → Toks → Type 0 where
    none_after : {r : Toks} → IsAfter None ([], []) r r
    some_after : {c : token.Colon} {w : Many B token.Plus} {l m r : Toks} → IsMark false c l m → Are w m r → IsAfter (Some c) w l r

  abbrev IsPerhapsColon : Option token.Colon → Toks → Toks → Type 0
  IsPerhapsColon = IsOptional (IsMark false)

  none_at : (l m : Toks) → IsPerhapsColon None l m → IsAfter None ([], []) l m
  none_at l m absent = none_after

  some_at : (c : token.Colon) (w : Many B token.Plus) (l m r : Toks) → IsPerhapsColon (Some c) l m → Are w m r → IsAfter (Some c) w l r
  some_at c w l m r (present i) j = some_after i j

  module _ (ends : Toks → Bool) (bound : Reader B) (took : (s t : Stream) (w : Many B token.Plus) → Visible s.rest → bounds_to bound ends s ≡ Ok (w, t) → TookOne Are s t w) where
    after_took : (o : Option token.Colon) (l : Toks) (s t : Stream) (w : Many B token.Plus) → Visible s.rest → bounds_after ends bound o s ≡ Ok (w, t) →
        (t.left ≡ None → s.left ≡ None) × Visible t.rest × (t.left ≡ None → IsPerhapsColon o l s.rest → IsAfter o w l t.rest)
    after_took None l s t w v e = let q = same_pair ([], []) w s t e in (
      λ n. ap (λ (z : Stream). z.left) q.1 ∙ n,
      subst (λ (z : Stream). Visible z.rest) q.1 v,
      λ n i. subst (λ z. IsAfter None z l t.rest) q.0 (subst (λ (z : Stream). IsAfter None ([], []) l z.rest) q.1 (none_at l s.rest i)),
    )
    after_took (Some c) l s t w v e = let k = took s t w v e in (k.left, k.seen, λ n i. some_at c w l s.rest t.rest i (k.spelt n))

    -- perhaps a `:`, and what stands after it
    both_took : (s m t : Stream) (o : Option token.Colon) (w : Many B token.Plus) → Visible s.rest → optional token.sees_colon token.colon s ≡ Ok (o, m) → bounds_after ends bound o m ≡ Ok (w, t) →
        (t.left ≡ None → s.left ≡ None) × Visible t.rest × (t.left ≡ None → IsAfter o w s.rest t.rest)
    both_took s m t o w v e f =
        let i = optional_sound {Is = IsMark false {n = 7} {k = 1}} token.sees_colon token.colon colon_took s m o v e in
        let j = after_took o s.rest m t w i.seen f in
        (λ n. i.left (j.0 n), j.1, λ n. j.2 n (i.spelt (j.0 n)))

-- ---- `=` and a default

module _ {V : Type 0} (Is : Relation V) (value : Reader V) (took : (s t : Stream) (x : V) → Visible s.rest → value s ≡ Ok (x, t) → TookOne Is s t x) where
  given_took : (s t : Stream) (x : token.Equals × V) → Visible s.rest → parts.given value s ≡ Ok (x, t) → TookOne (IsGiven false Is) s t x
  unfolding parts.given
  given_took s t x v e =
      let c = chain (token.equals s) _ x t e in
      let k = mark_took {n = 11} {k = 1} refl (omega arith) s c.rest c.value v c.was in
      let with : V → token.Equals × V = λ z. (c.value, z) in
      let f = mapped (value c.rest) with x t c.goes in
      let w = took c.rest t f.value k.seen f.was in
      record {
        left = λ n. k.left (w.left n);
        seen = w.seen;
        spelt = λ n. subst (λ z. IsGiven false Is z s.rest t.rest) f.is (given (k.spelt (w.left n)) (w.spelt n));
      }

  pub default_took : (s t : Stream) (o : Option (token.Equals × V)) → Visible s.rest → default_of value s ≡ Ok (o, t) → TookOne (IsOptional (IsGiven false Is)) s t o
  default_took s t o v e = optional_sound {Is = IsGiven false Is} token.sees_equals (parts.given value) given_took s t o v e

-- ---- after attributes

-- after these attributes, together with them
module _ {A E : Type 0} (part : Manner → Parts A E) where
  abbrev pub After : {F : Type 0} → List A → Relation F → Relation F
  After a Is x m r = (l : Toks) → (part loosely).attrs a l m → Is x l r

module _ {A E : Type 0} (attrs : Reader (List A)) (part : Manner → Parts A E) (took_attrs : (s t : Stream) (x : List A) → Visible s.rest → attrs s ≡ Ok (x, t) → TookOne (part loosely).attrs s t x) where
  pub with_attrs : {F : Type 0} (Is : Relation F) (form : List A → Reader F) (s t : Stream) (x : F) →
      ((a : List A) (u : Stream) → attrs s ≡ Ok (a, u) → Visible u.rest → form a u ≡ Ok (x, t) → TookOne (After part a Is) u t x) → Visible s.rest → (attrs >>= form) s ≡ Ok (x, t) → TookOne Is s t x
  with_attrs Is form s t x took v e =
      let c = chain (attrs s) form x t e in
      let k = took_attrs s c.rest c.value v c.was in
      let w = took c.value c.rest c.was k.seen c.goes in
      record { left = λ n. k.left (w.left n); seen = w.seen; spelt = λ n. w.spelt n s.rest (k.spelt (w.left n)) }

  -- ---- lifetimes

  abbrev IsLifetimeParts : LifetimeParts → Toks → Toks → Type 0
  IsLifetimeParts p l r = (m : Toks) × IsLifetime p.0 l m × IsAfter AreLives p.1 p.2 m r

  lifetime_parts_took : (s t : Stream) (p : LifetimeParts) → Visible s.rest → parts.lifetime_parts s ≡ Ok (p, t) → TookOne IsLifetimeParts s t p
  unfolding parts.lifetime_parts
  lifetime_parts_took s t p v e =
      let c = chain (read_lifetime s) _ p t e in
      let k = life_sound s c.rest c.value v c.was in
      let o = chain (optional token.sees_colon token.colon c.rest) _ p t c.goes in
      let with : Many Lifetime token.Plus → LifetimeParts = λ z. (c.value, o.value, z) in
      let b = mapped (bounds_after ends_lifetime read_lifetime o.value o.rest) with p t o.goes in
      let w = both_took AreLives ends_lifetime read_lifetime (lives_took ends_lifetime) c.rest o.rest t o.value b.value k.seen o.was b.was in
      record {
        left = λ n. k.left (w.0 n);
        seen = w.1;
        spelt = λ n. subst (λ z. IsLifetimeParts z s.rest t.rest) b.is (c.rest.rest, k.spelt (w.0 n), w.2 n);
      }

  lifetime_at : (a : List A) (x : Lifetime) (o : Option token.Colon) (w : Many Lifetime token.Plus) (l m n r : Toks) → (part loosely).attrs a l m → IsLifetime x m n → IsAfter AreLives o w n r →
      IsLifetimeParam part loosely (lifetime_param_of a x o w) l r
  lifetime_at a x o w l m n r i j none_after = a_lone_lifetime i j
  lifetime_at a x o w l m n r i j (some_after c k) = a_lifetime_with_bounds i j c k

  pub lifetime_after_took : (a : List A) (s t : Stream) (x : LifetimeParamOf A) → Visible s.rest → lifetime_after attrs a s ≡ Ok (x, t) → TookOne (After part a (IsLifetimeParam part loosely)) s t x
  lifetime_after_took a s t x v e =
      let of : LifetimeParts → LifetimeParamOf A = λ p. lifetime_param_of a p.0 p.1 p.2 in
      let k = mapped (parts.lifetime_parts s) of x t e in
      took_as {Is = IsLifetimeParts} {Js = After part a (IsLifetimeParam part loosely)} of s t k.value x k.is
      (λ m r i. λ l j. lifetime_at a k.value.0 k.value.1 k.value.2 l m i.0 r j i.1 i.2) (lifetime_parts_took s t k.value v k.was)

  -- by themselves
  pub lifetime_param_took : (s t : Stream) (x : LifetimeParamOf A) → Visible s.rest → reading.lifetime_param attrs s ≡ Ok (x, t) → TookOne (IsLifetimeParam part loosely) s t x
  unfolding reading.lifetime_param
  lifetime_param_took s t x v e = with_attrs (IsLifetimeParam part loosely) (lifetime_after attrs) s t x (λ a u i. lifetime_after_took a u t x) v e

-- ---- types and constants

module _ {A E : Type 0} (attrs : Reader (List A)) (values : ReadValues E) (r : Readers A E) (part : Manner → Parts A E) (h : Held r part) (f : Supplied attrs values part) where
  abbrev Tree : Type 0
  Tree = TypeTree A E

  abbrev Bound : Type 0
  Bound = TypeParamBound A E

  abbrev IsAny : Tree → Toks → Toks → Type 0
  IsAny = IsAnyType part loosely

  any_took : (s t : Stream) (x : Tree) → Visible s.rest → r (a_type Plus) s ≡ Ok (x, t) → TookOne IsAny s t x
  any_took s t x v e = let k = h.ty Plus s t x v e in record { left = k.left; seen = k.seen; spelt = λ n. any_type (k.spelt n).1 }

  abbrev AreBounded : Many Bound token.Plus → Toks → Toks → Type 0
  AreBounded = AreParamBounds part

  -- types

  abbrev Typed : Type 0
  Typed = TypeParts Bound Tree

  abbrev IsTypeParts : Typed → Toks → Toks → Type 0
  IsTypeParts p l r = (m : Toks) × (n : Toks) × Named p.0 l m × IsAfter AreBounded p.1 p.2 m n × IsOptional (IsGiven false IsAny) p.3 n r

  type_parts_took : (s t : Stream) (p : Typed) → Visible s.rest → parts.type_parts (r (a_bound Parameter)) (r (a_type Plus)) s ≡ Ok (p, t) → TookOne IsTypeParts s t p
  unfolding parts.type_parts
  type_parts_took s t p v e =
      let c = chain (read_word is_ident ident_name s) _ p t e in
      let k = ident_took s c.rest c.value v c.was in
      let o = chain (optional token.sees_colon token.colon c.rest) _ p t c.goes in
      let b = chain (bounds_after ends_type (r (a_bound Parameter)) o.value o.rest) _ p t o.goes in
      let w = both_took AreBounded ends_type (r (a_bound Parameter)) (param_bounds_took part r h ends_type type_ends) c.rest o.rest b.rest o.value b.value k.seen o.was b.was in
      let with : Option (token.Equals × Tree) → Typed = λ z. (c.value, o.value, b.value, z) in
      let d = mapped (default_of (r (a_type Plus)) b.rest) with p t b.goes in
      let q = default_took IsAny (r (a_type Plus)) any_took b.rest t d.value w.1 d.was in
      record {
        left = λ n. k.left (w.0 (q.left n));
        seen = q.seen;
        spelt = λ n. subst (λ z. IsTypeParts z s.rest t.rest) d.is (c.rest.rest, b.rest.rest, k.spelt (w.0 (q.left n)), w.2 (q.left n), q.spelt n);
      }

  bounds_at : (o : Option token.Colon) (w : Many Bound token.Plus) (l r : Toks) → IsAfter AreBounded o w l r → AreBoundsAfter part loosely o w.0 w.1 l r
  bounds_at o w l r none_after = no_colon
  bounds_at o w l r (some_after i j) = after_colon i j.1

  type_at : (a : List A) (p : Typed) (l m k : Toks) → (part loosely).attrs a l m → IsTypeParts p m k → IsTypeParam part loosely (type_param_of a p.0 p.1 p.2 p.3) l k
  type_at a p l m k i j = a_type_param (subst (λ z. (part loosely).attrs a l z) j.2.0 i) j.2.1 (bounds_at p.1 p.2 j.0 j.1 j.3) j.4

  pub type_after_took : (a : List A) (s t : Stream) (x : TypeParam A E) → Visible s.rest → type_after attrs values r a s ≡ Ok (x, t) → TookOne (After part a (IsTypeParam part loosely)) s t x
  type_after_took a s t x v e =
      let of : Typed → TypeParam A E = λ p. type_param_of a p.0 p.1 p.2 p.3 in
      let k = mapped (parts.type_parts (r (a_bound Parameter)) (r (a_type Plus)) s) of x t e in
      took_as {Is = IsTypeParts} {Js = After part a (IsTypeParam part loosely)} of s t k.value x k.is (λ m r i. λ l j. type_at a k.value l m r j i) (type_parts_took s t k.value v k.was)

  pub type_param_took : (s t : Stream) (x : TypeParam A E) → Visible s.rest → reading.type_param attrs values r s ≡ Ok (x, t) → TookOne (IsTypeParam part loosely) s t x
  unfolding reading.type_param
  type_param_took s t x v e = with_attrs attrs part f.attrs_took (IsTypeParam part loosely) (type_after attrs values r) s t x (λ a u i. type_after_took a u t x) v e

  -- constants

  abbrev Constant : Type 0
  Constant = ConstParts Tree E

  abbrev IsDefault : E → Toks → Toks → Type 0
  IsDefault = (part loosely).const_default

  abbrev IsConstParts : Constant → Toks → Toks → Type 0
  IsConstParts p l r = (m : Toks) × (n : Toks) × (k : Toks) × (j : Toks) × IsWord p.0 l m × Named p.1 m n × IsMark false p.2 n k × IsAny p.3 k j × IsOptional (IsGiven false IsDefault) p.4 j r

  const_parts_took : (s t : Stream) (p : Constant) → Visible s.rest → parts.const_parts (r (a_type Plus)) values.const_argument s ≡ Ok (p, t) → TookOne IsConstParts s t p
  unfolding parts.const_parts
  const_parts_took s t p v e =
      let a = chain (token.const_word s) _ p t e in
      let ka = named_sound {n = 6} s a.rest a.value v a.was in
      let b = chain (read_word is_ident ident_name a.rest) _ p t a.goes in
      let kb = ident_took a.rest b.rest b.value ka.seen b.was in
      let c = chain (token.colon b.rest) _ p t b.goes in
      let kc = colon_took b.rest c.rest c.value kb.seen c.was in
      let y = chain (r (a_type Plus) c.rest) _ p t c.goes in
      let ky = any_took c.rest y.rest y.value kc.seen y.was in
      let with : Option (token.Equals × E) → Constant = λ z. (a.value, b.value, c.value, y.value, z) in
      let d = mapped (default_of values.const_argument y.rest) with p t y.goes in
      let q = default_took IsDefault values.const_argument f.default y.rest t d.value ky.seen d.was in
      record {
        left = λ n. ka.left (kb.left (kc.left (ky.left (q.left n))));
        seen = q.seen;
        spelt = λ n.
            let ny = q.left n in
            let nc = ky.left ny in
            let nb = kc.left nc in
            subst (λ z. IsConstParts z s.rest t.rest) d.is (a.rest.rest, b.rest.rest, c.rest.rest, y.rest.rest, ka.spelt (kb.left nb), kb.spelt nb, kc.spelt nc, ky.spelt ny, q.spelt n);
      }

  const_at : (a : List A) (p : Constant) (l m k : Toks) → (part loosely).attrs a l m → IsConstParts p m k → IsConstParam part loosely (const_param_of a p.0 p.1 p.2 p.3 p.4) l k
  const_at a p l m k i j = a_const_param i (subst (λ z. IsWord p.0 m z) j.5.0 j.4) j.5.1 j.6 j.7 j.8

  pub const_after_took : (a : List A) (s t : Stream) (x : ConstParam A E) → Visible s.rest → const_after attrs values r a s ≡ Ok (x, t) → TookOne (After part a (IsConstParam part loosely)) s t x
  const_after_took a s t x v e =
      let of : Constant → ConstParam A E = λ p. const_param_of a p.0 p.1 p.2 p.3 p.4 in
      let k = mapped (parts.const_parts (r (a_type Plus)) values.const_argument s) of x t e in
      took_as {Is = IsConstParts} {Js = After part a (IsConstParam part loosely)} of s t k.value x k.is (λ m r i. λ l j. const_at a k.value l m r j i) (const_parts_took s t k.value v k.was)

  pub const_param_took : (s t : Stream) (x : ConstParam A E) → Visible s.rest → reading.const_param attrs values r s ≡ Ok (x, t) → TookOne (IsConstParam part loosely) s t x
  unfolding reading.const_param
  const_param_took s t x v e = with_attrs attrs part f.attrs_took (IsConstParam part loosely) (const_after attrs values r) s t x (λ a u i. const_after_took a u t x) v e

  -- ---- a parameter in its place

  abbrev Param : Type 0
  Param = GenericParam A E

  abbrev Of : ParamPlace → List A → Param → Toks → Toks → Type 0
  Of place a = After part a (IsParam part loosely place)

  of_type : (place : ParamPlace) (a : List A) (s t : Stream) (x : Param) → Visible s.rest → (g.«Type» <$> type_after attrs values r a) s ≡ Ok (x, t) → TookOne (Of place a) s t x
  of_type place a s t x v e =
      let k = mapped (type_after attrs values r a s) g.«Type» x t e in
      took_as {Is = After part a (IsTypeParam part loosely)} {Js = Of place a} g.«Type» s t k.value x k.is (λ m r i. λ l j. a_named_param (i l j)) (type_after_took a s t k.value v k.was)

  of_lifetime : (place : ParamPlace) (a : List A) (s t : Stream) (x : Param) → Visible s.rest → (g.Lifetime <$> lifetime_after attrs a) s ≡ Ok (x, t) → TookOne (Of place a) s t x
  of_lifetime place a s t x v e =
      let k = mapped (lifetime_after attrs a s) g.Lifetime x t e in
      took_as {Is = After part a (IsLifetimeParam part loosely)} {Js = Of place a} g.Lifetime s t k.value x k.is (λ m r i. λ l j. a_lifetime_param (i l j)) (lifetime_after_took attrs part f.attrs_took a s t k.value v k.was)

  of_const : (place : ParamPlace) (a : List A) (s t : Stream) (x : Param) → Visible s.rest → (g.Const <$> const_after attrs values r a) s ≡ Ok (x, t) → TookOne (Of place a) s t x
  of_const place a s t x v e =
      let k = mapped (const_after attrs values r a s) g.Const x t e in
      took_as {Is = After part a (IsConstParam part loosely)} {Js = Of place a} g.Const s t k.value x k.is (λ m r i. λ l j. a_constant_param (i l j)) (const_after_took a s t k.value v k.was)

  -- a bare `_`
  bare_at : (a : List A) (i : Ident) (l m k : Toks) → (part loosely).attrs a l m → m ≡ word i k → token.sees_underscore m ≡ true → IsParam part loosely Generics (g.«Type» (type_param_of a i None ([], []) None)) l k
  bare_at a i l m k j is u = a_bare_param (subst (λ z. (part loosely).attrs a l z) is j) (sym (seen_word (is_text token.underscore_text) i k) ∙ subst (λ z. token.sees_underscore z ≡ true) is u)

  of_bare : (a : List A) (s t : Stream) (x : Param) → Visible s.rest → token.sees_underscore s.rest ≡ true → underscore_after a s ≡ Ok (x, t) → TookOne (Of Generics a) s t x
  of_bare a s t x v u e =
      let of : Ident → Param = λ i. g.«Type» (type_param_of a i None ([], []) None) in
      let k = mapped (read_word any_text ident_name s) of x t e in
      let w = took_word any_text ident_name s t k.value v k.was in
      record {
        left = λ n. sym w.left ∙ n;
        seen = subst Visible w.is v;
        spelt = λ n. λ l j. subst (λ z. IsParam part loosely Generics z l t.rest) k.is (bare_at a k.value l s.rest t.rest j w.is u);
      }

  in_binder_took : (a : List A) (s t : Stream) (x : Param) → Visible s.rest → in_binder attrs values r a s ≡ Ok (x, t) → TookOne (Of Binder a) s t x
  unfolding in_binder
  in_binder_took a s t x v e =
      elim (branch (sees_ident s.rest) _ _ s (Ok (x, t)) e) [
        | inl y ↦ of_type Binder a s t x v y.1
        | inr y ↦ elim (branch (sees_lifetime s.rest) _ _ s (Ok (x, t)) y.1) [
          | inl z ↦ of_lifetime Binder a s t x v z.1
          | inr z ↦ elim (branch (token.sees_const s.rest) _ _ s (Ok (x, t)) z.1) [ inl q ↦ of_const Binder a s t x v q.1 | inr q ↦ cc q.1 ]
        ]
      ]

  in_generics_took : (a : List A) (s t : Stream) (x : Param) → Visible s.rest → in_generics attrs values r a s ≡ Ok (x, t) → TookOne (Of Generics a) s t x
  unfolding in_generics
  in_generics_took a s t x v e =
      elim (branch (sees_lifetime s.rest) _ _ s (Ok (x, t)) e) [
        | inl y ↦ of_lifetime Generics a s t x v y.1
        | inr y ↦ elim (branch (sees_ident s.rest) _ _ s (Ok (x, t)) y.1) [
          | inl z ↦ of_type Generics a s t x v z.1
          | inr z ↦ elim (branch (token.sees_const s.rest) _ _ s (Ok (x, t)) z.1) [
            | inl q ↦ of_const Generics a s t x v q.1
            | inr q ↦ elim (branch (token.sees_underscore s.rest) _ _ s (Ok (x, t)) q.1) [ inl u ↦ of_bare a s t x v u.0 u.1 | inr u ↦ cc u.1 ]
          ]
        ]
      ]

  param_after_took : (place : ParamPlace) (a : List A) (s t : Stream) (x : Param) → Visible s.rest → param_after attrs values r place a s ≡ Ok (x, t) → TookOne (Of place a) s t x
  param_after_took Binder a s t x v e = in_binder_took a s t x v e
  param_after_took Generics a s t x v e = in_generics_took a s t x v e

  -- a turn of the knot
  pub param_took : (place : ParamPlace) (s t : Stream) (x : Param) → Visible s.rest → param_step attrs values r place s ≡ Ok (x, t) → TookOne (IsParam part loosely place) s t x
  unfolding param_step
  param_took place s t x v e = with_attrs attrs part f.attrs_took (IsParam part loosely place) (param_after attrs values r place) s t x (λ a u i. param_after_took place a u t x) v e

-- ---- binders

module _ {A E : Type 0} (r : Readers A E) (part : Manner → Parts A E) (h : Held r part) where
  pub for_took : (s t : Stream) (x : BoundLifetimes A E) → Visible s.rest → binder r s ≡ Ok (x, t) → TookOne (IsFor part loosely) s t x
  for_took s t x v e = binders.binder_took r ((part loosely).param Binder) (h.param Binder) s t x v e

  pub optional_for_took : (s t : Stream) (o : Option (BoundLifetimes A E)) → Visible s.rest → optional_binder r s ≡ Ok (o, t) → TookOne (IsOptional (IsFor part loosely)) s t o
  optional_for_took s t o v e = binders.optional_took r ((part loosely).param Binder) (h.param Binder) s t o v e

-- ---- by themselves: what they hold is read by the knot, further on

module _ {A E : Type 0} (attrs : Reader (List A)) (values : ReadValues E) (part : Manner → Parts A E) where
  abbrev pub HeldBelow : Stream → Type 0
  HeldBelow s = Held (reads_below attrs values (ahead s)) part

  pub type_param_alone_took : (s t : Stream) (x : TypeParam A E) → HeldBelow s → Supplied attrs values part → Visible s.rest → knot.type_param attrs values s ≡ Ok (x, t) → TookOne (IsTypeParam part loosely) s t x
  unfolding knot.type_param
  type_param_alone_took s t x h f v e = type_param_took attrs values (reads_below attrs values (ahead s)) part h f s t x v e

  pub const_param_alone_took : (s t : Stream) (x : ConstParam A E) → HeldBelow s → Supplied attrs values part → Visible s.rest → knot.const_param attrs values s ≡ Ok (x, t) → TookOne (IsConstParam part loosely) s t x
  unfolding knot.const_param
  const_param_alone_took s t x h f v e = const_param_took attrs values (reads_below attrs values (ahead s)) part h f s t x v e

  pub for_alone_took : (s t : Stream) (x : BoundLifetimes A E) → HeldBelow s → Visible s.rest → knot.binder attrs values s ≡ Ok (x, t) → TookOne (IsFor part loosely) s t x
  unfolding knot.binder
  for_alone_took s t x h v e = for_took (reads_below attrs values (ahead s)) part h s t x v e

  pub optional_for_alone_took : (s t : Stream) (o : Option (BoundLifetimes A E)) → HeldBelow s → Visible s.rest → knot.optional_binder attrs values s ≡ Ok (o, t) → TookOne (IsOptional (IsFor part loosely)) s t o
  unfolding knot.optional_binder
  optional_for_alone_took s t o h v e = optional_for_took (reads_below attrs values (ahead s)) part h s t o v e
