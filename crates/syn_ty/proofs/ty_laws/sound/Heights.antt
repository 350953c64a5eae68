-- Where a turn of types is read over reads of trees of some height, it is spelt by types over trees of the next height: parentheses may hold a trait object that begins with a lifetime, and both are read in one turn.
use Rattle.std.proofs.Common.{◌≡◌, ℕ, zero, suc, Bool, true, false, List, [], Option, Ok, ap}
use Rattle.syn_ty.proofs.ty_laws.words.Tokens.{Many, Item, Reader, Visible, Stream, Toks}
use Rattle.syn_ty.proofs.ty_laws.words.Paths.{AsWritten, ReadValues, SpelledValues, Along}
use Rattle.syn_ty.proofs.ty_laws.words.Forms.{TypePlace, Plus, allows_plus}
use Rattle.syn_ty.proofs.ty_laws.words.Types.{IsFor, binder, is_empty, is_none, maybe_qualified, IsAnyPath, IsType, IsFnPtr, AreBareBounds, IsImpl, Manner, loosely, End, Parts, Readers, Relation, IsOptional, IsPathAlone, a_path_alone, spelt_to, BoundLifetimes, Path, PathArguments, QSelf, TypeFnPtr, TypeImplTrait, TypeParamBound, TypePath, TypeTree, qualified_with}
use Rattle.token_core.specs.Tokens as token
use Rattle.token_core.proofs.Took.{mapped}
use Rattle.syn_path.proofs.Words.{TookOne}
use Rattle.syn_forms.proofs.tokens_laws.Fronts.{took_as}
use Rattle.syn_ty.specs.declared.path.PathArgumentsOf.TheVariants as a
use Rattle.syn_ty.specs.path.Paths.{none_layer}
use Rattle.syn_ty.specs.path.Reading.{path_type}
use Rattle.syn_ty.specs.path.Spelling.{some_arguments}
use Rattle.syn_ty.specs.ty.Reading as reading
use Rattle.syn_ty.proofs.ty_laws.sound.Signed.{EmptyPair}
use Rattle.syn_ty.proofs.ty_laws.sound.Forms.{Told}
use Rattle.syn_ty.proofs.ty_laws.sound.TypePaths.{Onward, any_path_took}
use Rattle.syn_ty.proofs.ty_laws.sound.Types.{type_took}
use Rattle.syn_ty.proofs.ty_laws.sound.HigherParts.{Up}
use Rattle.syn_ty.proofs.ty_laws.sound.Higher.{higher}
use Rattle.syn_ty.proofs.ty_laws.sound.HigherTypes.{type_up}
use Rattle.syn_ty.proofs.ty_laws.sound.Within.{Held, Supplied}

-- ---- the laws over wider relations

module _ {A : Type 0} {V W : Relation A} (f : (x : A) (l r : Toks) → V x l r → W x l r) where
  pub took_wide : (s t : Stream) (x : A) → TookOne V s t x → TookOne W s t x
  took_wide s t x k = record { left = k.left; seen = k.seen; spelt = λ n. f x s.rest t.rest (k.spelt n) }

module _ {A : Type 0} {V W : End → Relation A} (f : (e : End) (x : A) (l r : Toks) → V e x l r → W e x l r) where
  pub told_wide : (x : A) (l r : Toks) → Told V x l r → Told W x l r
  told_wide x l r i = (i.0, f i.0 x l r i.1, i.2, i.3)

module _ {A E : Type 0} (part over : Manner → Parts A E) (wide : Up (part loosely) (over loosely)) where
  -- what is known of reads
  pub held_wide : (r : Readers A E) → ((x : PathArguments A E) (l k : Toks) → (over loosely).arguments x l k → is_empty x ≡ true → EmptyPair over l k) → Held r part → Held r over
  held_wide r pair h = record {
    ty = λ p s t x v e. took_wide {V = Told ((part loosely).ty p)} {W = Told ((over loosely).ty p)} (told_wide (λ d y l k i. wide.ty p d y l k i)) s t x (h.ty p s t x v e);
    bound = λ p s t x v e. took_wide {V = Told ((part loosely).bound p)} {W = Told ((over loosely).bound p)} (told_wide (λ d y l k i. wide.bound p d y l k i)) s t x (h.bound p s t x v e);
    param = λ p s t x v e. took_wide {V = (part loosely).param p} {W = (over loosely).param p} (λ y l k i. wide.param p y l k i) s t x (h.param p s t x v e);
    argument = λ s t x v e. took_wide {V = (part loosely).argument} {W = (over loosely).argument} (λ y l k i. wide.argument y l k i) s t x (h.argument s t x v e);
    arguments = λ s t x v e. took_wide {V = (part loosely).arguments} {W = (over loosely).arguments} (λ y l k i. wide.arguments y l k i) s t x (h.arguments s t x v e);
    pair = pair;
    along = h.along;
  }

  pub supplied_wide : (attrs : Reader (List A)) (values : ReadValues E) → Supplied attrs values part → Supplied attrs values over
  supplied_wide attrs values g = record {
    attrs_took = λ s t x v e. took_wide {V = (part loosely).attrs} {W = (over loosely).attrs} (λ y l k i. wide.attrs y l k i) s t x (g.attrs_took s t x v e);
    len = λ s t x v e o. wide.len x s.rest (g.len s t x v e o);
    len_left = g.len_left;
    argument = λ s t x v o e. took_wide {V = (part loosely).const_argument} {W = (over loosely).const_argument} (λ y l k i. wide.const_argument y l k i) s t x (g.argument s t x v o e);
    default = λ s t x v e. took_wide {V = (part loosely).const_default} {W = (over loosely).const_default} (λ y l k i. wide.const_default y l k i) s t x (g.default s t x v e);
    attrs_along = g.attrs_along;
    argument_along = g.argument_along;
  }

-- ---- a turn of types by heights

module _ {A E : Type 0} (shown : Bool → List A → Toks → Toks → Type 0) (spelt : SpelledValues E) where
  -- the arguments of a segment are not none
  pub some_at : (n : ℕ) (x : PathArguments A E) (l k : Toks) → (spelt_to shown spelt n loosely).arguments x l k → is_none x ≡ false
  some_at zero x l k i = absurd i
  some_at (suc n) x l k (some_arguments {x = y} i) = ap (none_layer {A = A} {E = E}) (a.outs-AngleBracketed y)

  -- the path of a type by itself, however it begins
  pub path_type_took : (r : Readers A E) (part : Manner → Parts A E) → Held r part → (s t : Stream) (x : TypePath A E) → Visible s.rest → path_type r s ≡ Ok (x, t) → TookOne (IsPathAlone shown spelt part loosely) s t x
  unfolding path_type
  path_type_took r part h s t x u e =
      let with : Option (QSelf A E) × Path A E → TypePath A E = λ y. qualified_with [] y.0 y.1 in
      let k = mapped (maybe_qualified r AsWritten s) with x t e in
      took_as {Is = λ y l m. IsAnyPath part loosely AsWritten y.0 y.1 l m} {Js = IsPathAlone shown spelt part loosely} with s t k.value x k.is (λ l m i. a_path_alone i) (any_path_took r part h AsWritten s t k.value u k.was)

  module _ (n : ℕ) (attrs : Reader (List A)) (values : ReadValues E) (r : Readers A E) (h : Held r (spelt_to shown spelt n)) (g : Supplied attrs values (spelt_to shown spelt n))
      (took_lifetime : (p : TypePlace) (s t : Stream) (w : Many (TypeParamBound A E) token.Plus) → Visible s.rest → reading.lifetime_object r s ≡ Ok (w, t) → TookOne (Told (AreBareBounds (spelt_to shown spelt n) loosely p)) s t w)
      (took_dyn : (p : TypePlace) (s t : Stream) (x : TypeTree A E) → Visible s.rest → reading.dyn_type r (allows_plus p) s ≡ Ok (x, t) → TookOne (Told (IsType (spelt_to shown spelt n) loosely p)) s t x)
      (took_impl : (p : TypePlace) (s t : Stream) (x : TypeImplTrait A E) → Visible s.rest → reading.impl_trait r (allows_plus p) s ≡ Ok (x, t) → TookOne (Told (IsImpl (spelt_to shown spelt n) loosely p)) s t x)
      (took_fn : (l : Option (BoundLifetimes A E)) (k : Toks) (s t : Stream) (x : TypeFnPtr A E) → Visible s.rest → reading.fn_ptr_after attrs values r l s ≡ Ok (x, t) →
      Onward (IsOptional (IsFor (spelt_to shown spelt n) loosely) l k s.rest) (Told (IsFnPtr (spelt_to shown spelt n) loosely) x k t.rest) s t)
      (binder_along : Along (binder r)) (builtin_along : Along reading.builtin) (unsafe_along : (from : List Item) (p : TypePlace) → Along (reading.unsafe_binder r from p)) (place : TypePlace) where
    abbrev part : Manner → Parts A E
    part = spelt_to shown spelt n

    abbrev next : Manner → Parts A E
    next = spelt_to shown spelt (suc n)

    -- two heights more than what it holds
    pub type_told : (s t : Stream) (x : TypeTree A E) → Visible s.rest → reading.type_step attrs values r place s ≡ Ok (x, t) → TookOne (Told ((spelt_to shown spelt (suc (suc n)) loosely).ty place)) s t x
    type_told s t x v e =
        type_took attrs values r part next h g (λ p d y l k i. type_up (higher shown spelt n) i) (λ d y l k i. i) (λ d y l k i. (higher shown spelt n loosely).ty Plus d y l k i)
        (some_at n) took_lifetime took_dyn took_impl took_fn binder_along builtin_along unsafe_along place s t x v e
