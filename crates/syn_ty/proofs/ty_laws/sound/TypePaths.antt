-- Where a type begins with a path, perhaps after a binder, it is spelt by the rules of the whole grammar: a path, a macro call, or a trait object that begins with the path.
use Rattle.std.proofs.Common.{◌≡◌, Bool, true, false, ◌&&◌, ◌||◌, [], ◌∷◌, Option, Some, None, is_some, Ok, inl, inr, refl, sym, ◌∙◌, ap, subst}
use Rattle.syn_ty.proofs.ty_laws.words.Tokens.{Anywhere, Reader, ◌>>=◌, Visible, Stream, Toks}
use Rattle.syn_ty.proofs.ty_laws.words.Paths.{Macro, PathStyle, AsWritten, IsCall}
use Rattle.syn_ty.proofs.ty_laws.words.Forms.{TypePlace, Plus, bounds_from, list_from, plus_follows, stops_bound, allows_plus, Object}
use Rattle.syn_ty.proofs.ty_laws.words.Types.{IsFor, named_bound, is_none, no_arguments, nothing, without, is_mod_style, maybe_qualified, is_segment_word, IsAnyPath, IsPath, IsQualified, qualified, unqualified, IsType, a_path_type, a_macro, a_bound_macro, an_object_without_dyn, ends_lone, IsFirst, a_first, a_first_for, path_alone, path_and_plus, Manner, loosely, closed, Parts, Readers, a_bound, a_type, some_arguments, object_of, sees_call, IsOptional, absent, present, BoundLifetimes, Path, PathArguments, QSelf, TypeParamBound, TypeTree, macro_type_of, qualified_with}
use Rattle.token_core.specs.Tokens as token
use Rattle.token_core.proofs.Took.{branch, mapped}
use Rattle.token_core.proofs.Turns.{chain, same_pair}
use Rattle.syn_path.specs.mac.Reading as macs
use Rattle.syn_path.proofs.mac_laws.Sound.{call_sound}
use Rattle.syn_path.proofs.Words.{TookOne}
use Rattle.syn_forms.specs.paths.Reading as paths
use Rattle.syn_forms.proofs.tokens_laws.Fronts.{took_as}
use Rattle.syn_ty.specs.declared.generics.TypeParamBoundOf.TheVariants as b
use Rattle.syn_ty.specs.declared.ty.TypeOf.TheVariants as v
use Rattle.syn_ty.specs.ty.Reading as reading
use Rattle.syn_ty.specs.ty.Types.{path_type_of}
use Rattle.syn_ty.proofs.ty_laws.sound.Bounds.{word_ends}
use Rattle.syn_ty.proofs.ty_laws.sound.Calls.{and_second, bare_path, call_seen}
use Rattle.syn_ty.proofs.ty_laws.sound.FirstBound.{Bounds, Further, first_took}
use Rattle.syn_ty.proofs.ty_laws.sound.Paths.{path_took}
use Rattle.syn_ty.proofs.ty_laws.sound.Qualified.{qualified_took}
use Rattle.syn_ty.proofs.ty_laws.sound.Forms.{Told, both, never_open}
use Rattle.syn_ty.proofs.ty_laws.sound.Within.{Held}

first_of_two : (b c : Bool) → b || c ≡ true → c ≡ false → b ≡ true
first_of_two true c h g = refl
first_of_two false c h g = both c h g

-- What goes on after tokens that were read before: where those are as it is said, so is the whole.
abbrev pub Onward : Type 0 → Type 0 → Stream → Stream → Type 0
Onward Before Whole s t = (t.left ≡ None → s.left ≡ None) × Visible t.rest × (t.left ≡ None → Before → Whole)

-- ---- a path that a type may qualify, by itself

module _ {A E : Type 0} (r : Readers A E) (part : Manner → Parts A E) (h : Held r part) where
  abbrev pub AnyPath : PathStyle → Option (QSelf A E) × Path A E → Toks → Toks → Type 0
  AnyPath style y l k = IsAnyPath part loosely style y.0 y.1 l k

  pub any_path_took : (style : PathStyle) (s t : Stream) (y : Option (QSelf A E) × Path A E) → Visible s.rest → maybe_qualified r style s ≡ Ok (y, t) → TookOne (AnyPath style) s t y
  unfolding paths.maybe_qualified
  any_path_took style s t y u e =
      elim (branch (token.sees_lt s.rest) _ _ s (Ok (y, t)) e) [
        | inl z ↦ let with : QSelf A E × Path A E → Option (QSelf A E) × Path A E = λ d. (Some d.0, d.1) in
            let f = mapped (paths.qualified (r (a_type Plus)) no_arguments (r some_arguments) style s) with y t z.1 in
            took_as {Is = λ d l k. IsQualified part loosely style d.0 d.1 l k} {Js = AnyPath style} with s t f.value y f.is (λ l k i. qualified i) (qualified_took r part h.ty h.arguments style s t f.value u f.was)
        | inr z ↦ let with : Path A E → Option (QSelf A E) × Path A E = λ d. (None, d) in
            let f = mapped (paths.path no_arguments (r some_arguments) style s) with y t z.1 in
            took_as {Is = IsPath part loosely style} {Js = AnyPath style} with s t f.value y f.is (λ l k i. unqualified i) (path_took r part h.arguments style s t f.value u f.was)
      ]

-- ---- a type that begins with a path

module _ {A E : Type 0} (r : Readers A E) (part : Manner → Parts A E) (h : Held r part)
    (some : (x : PathArguments A E) (l k : Toks) → (part loosely).arguments x l k → is_none x ≡ false) where
  abbrev Tree : Type 0
  Tree = TypeTree A E

  abbrev For : Type 0
  For = Option (BoundLifetimes A E)

  abbrev Bound : Type 0
  Bound = TypeParamBound A E

  abbrev First : For → Path A E → Toks → Toks → Type 0
  First = IsFirst part loosely

  -- the path as a bound, after its binder
  abbrev named : For → Path A E → Bound
  named l p = b.Trait (named_bound l None p)

  module _ (place : TypePlace) where
    abbrev Of : Tree → Toks → Toks → Type 0
    Of = Told (IsType part loosely place)

    -- ---- macro calls

    call_at : (l : For) (p : Path A E) (k m n : Toks) (x : Macro) → First l p k m → ((q : Toks) → IsPath part loosely AsWritten p q m → IsCall false is_segment_word x q n) → Of (v.Macro (macro_type_of x)) k n
    call_at None p k m n x (a_first i w) f = (closed, a_macro (f k i, w), never_open, never_open)
    call_at (Some y) p k m n x (a_first_for {m = q} j i w c) f = (closed, a_bound_macro j (f q i, w) c, never_open, never_open)

    call_took : (l : For) (p : Path A E) (k : Toks) (s t : Stream) (x : Tree) → Visible s.rest → is_mod_style p ≡ true → reading.macro_after p s ≡ Ok (x, t) → Onward (First l p k s.rest) (Of x k t.rest) s t
    call_took l p k s t x u bare e =
        let f = mapped (macs.call_after (without nothing p) s) (λ (m : Macro). v.Macro (macro_type_of m)) x t e in
        let w = call_seen (without nothing p) s t f.value u f.was in (
          λ n. sym w.0 ∙ n,
          w.1,
          λ n i. subst (λ z. Of z k t.rest) f.is
              (call_at l p k s.rest t.rest f.value i (λ q j. (call_sound is_segment_word (without nothing p) q s t f.value (bare_path part some p q s.rest j bare) u f.was).0)),
        )

    -- ---- trait objects

    alone_at : (l : For) (p : Path A E) (k m : Toks) → is_some l ≡ true → (allows_plus place ≡ true → token.sees_plus m ≡ false) → First l p k m → Of (object_of (named l p ∷ [], [])) k m
    alone_at None p k m g o i = cc g
    alone_at (Some y) p k m g o i = (ends_lone place, an_object_without_dyn (path_alone i), o, λ q. cc q)

    -- a lone bound
    alone_took : (l : For) (p : Path A E) (k : Toks) (s t : Stream) (w : Bounds part Anywhere) → Visible s.rest → is_some l ≡ true → (allows_plus place ≡ true → token.sees_plus s.rest ≡ false) →
        (named l p ∷ [], []) ≡ w → s ≡ t → Onward (First l p k s.rest) (Of (object_of w) k t.rest) s t
    alone_took l p k s t w u g o is at = (
      λ n. ap (λ (z : Stream). z.left) at ∙ n,
      subst (λ (z : Stream). Visible z.rest) at u,
      λ n i. subst (λ z. Of (object_of z) k t.rest) is (subst (λ (z : Stream). Of (object_of (named l p ∷ [], [])) k z.rest) at (alone_at l p k s.rest g o i)),
    )

    further_took : (l : For) (p : Path A E) (k : Toks) (s t : Stream) (w : Bounds part Anywhere) → allows_plus place ≡ true → Further part Anywhere (named l p) s t w → Onward (First l p k s.rest) (Of (object_of w) k t.rest) s t
    further_took l p k s t w g f = (
      f.left,
      f.seen,
      λ n i.
          let o = f.spelt n in
          subst (λ z. Of (object_of z) k t.rest) f.is (o.0, an_object_without_dyn (path_and_plus g i f.mark o.1), o.2, o.3),
    )

    any_ends : (c : Bool) (l : Toks) → stops_bound false c l ≡ true → Anywhere c
    any_ends c l e = tt

    object_took : (plus : Bool) → allows_plus place ≡ plus → (l : For) (p : Path A E) (k : Toks) (s t : Stream) (w : Bounds part Anywhere) → Visible s.rest → is_some l || plus_follows plus s.rest ≡ true →
        bounds_from (r (a_bound Object)) false plus (named l p) s ≡ Ok (w, t) → Onward (First l p k s.rest) (Of (object_of w) k t.rest) s t
    unfolding list_from
    object_took true g l p k s t w u goes e =
        elim (first_took part Anywhere r (h.bound Object) (stops_bound false) any_ends (word_ends false) (named l p) s t w u e) [
          | inl f ↦ further_took l p k s t w g f
          | inr o ↦ alone_took l p k s t w u (first_of_two (is_some l) _ goes o.no_plus) (λ q. o.no_plus) o.is o.stays
        ]
    object_took false g l p k s t w u goes e =
        let q = same_pair (named l p ∷ [], []) w s t e in
        alone_took l p k s t w u (first_of_two (is_some l) _ goes refl) (λ n. both (allows_plus place) n g) q.0 q.1

    -- ---- what follows a path

    path_at : (l : For) (p : Path A E) (k m : Toks) (o : Bool) → is_some l || o ≡ false → First l p k m → Of (v.Path (path_type_of p)) k m
    path_at None p k m o g (a_first i w) = (closed, a_path_type (unqualified i, w), never_open, never_open)
    path_at (Some y) p k m o g i = cc g

    after_took : (plus : Bool) → allows_plus place ≡ plus → (l : For) (p : Path A E) (k : Toks) (s t : Stream) (x : Tree) → Visible s.rest → reading.after_path r plus l p s ≡ Ok (x, t) → Onward (First l p k s.rest) (Of x k t.rest) s t
    unfolding reading.after_path
    after_took plus g l p k s t x u e =
        elim (branch (sees_call s.rest && is_mod_style p) _ _ s (Ok (x, t)) e) [
          | inl y ↦ call_took l p k s t x u (and_second (sees_call s.rest) _ y.0) y.1
          | inr y ↦ elim (branch (is_some l || plus_follows plus s.rest) _ _ s (Ok (x, t)) y.1) [
            | inl z ↦ let f = mapped (bounds_from (r (a_bound Object)) false plus (named l p) s) object_of x t z.1 in
                let w = object_took plus g l p k s t f.value u z.0 f.was in
                (w.0, w.1, λ n i. subst (λ d. Of d k t.rest) f.is (w.2 n i))
            | inr z ↦ let q = same_pair (v.Path (path_type_of p)) x s t z.1 in (
              λ n. ap (λ (d : Stream). d.left) q.1 ∙ n,
              subst (λ (d : Stream). Visible d.rest) q.1 u,
              λ n i. subst (λ d. Of d k t.rest) q.0 (subst (λ (d : Stream). Of (v.Path (path_type_of p)) k d.rest) q.1 (path_at l p k s.rest (plus_follows plus s.rest) z.0 i)),
            )
          ]
        ]

    -- ---- the path itself, after a binder that was read before

    abbrev IsPerhapsFor : For → Toks → Toks → Type 0
    IsPerhapsFor = IsOptional (IsFor part loosely)

    -- after a binder neither `::` nor `<` stands
    abbrev pub Named : For → Toks → Type 0
    Named l k = is_some l ≡ true → (token.sees_path_sep k ≡ false) × (token.sees_lt k ≡ false)

    first_at : (l : For) (p : Path A E) (k m n : Toks) → IsPath part loosely AsWritten p m n → token.sees_try m ≡ false → Named l m → IsPerhapsFor l k m → First l p k n
    first_at l p k m n i w o absent = a_first i w
    first_at l p k m n i w o (present j) = a_first_for j i w (o refl).0

    qualified_at : (l : For) (q : QSelf A E) (p : Path A E) (k m n : Toks) → IsQualified part loosely AsWritten q p m n → token.sees_try m ≡ false → Named l m → token.sees_lt m ≡ true → IsPerhapsFor l k m →
        Of (v.Path (qualified_with [] (Some q) p)) k n
    qualified_at l q p k m n i w o g absent = (closed, a_path_type (qualified i, w), never_open, never_open)
    qualified_at l q p k m n i w o g (present j) = both (token.sees_lt m) g (o refl).1

    abbrev after_named : Bool → For → Option (QSelf A E) × Path A E → Reader Tree
    after_named = reading.path_or_object r

    pub named_took : (l : For) (k : Toks) (s t : Stream) (x : Tree) → Visible s.rest → token.sees_try s.rest ≡ false → Named l s.rest → (maybe_qualified r AsWritten >>= after_named (allows_plus place) l) s ≡ Ok (x, t) →
        Onward (IsPerhapsFor l k s.rest) (Of x k t.rest) s t
    unfolding paths.maybe_qualified reading.path_or_object
    named_took l k s t x u no_try o e =
        let c = chain (maybe_qualified r AsWritten s) (after_named (allows_plus place) l) x t e in
        elim (branch (token.sees_lt s.rest) _ _ s (Ok (c.value, c.rest)) c.was) [
          | inl y ↦ let f = mapped (paths.qualified (r (a_type Plus)) no_arguments (r some_arguments) AsWritten s) (λ (z : QSelf A E × Path A E). (Some z.0, z.1)) c.value c.rest y.1 in
              let w = qualified_took r part h.ty h.arguments AsWritten s c.rest f.value u f.was in
              let q = same_pair (v.Path (qualified_with [] (Some f.value.0) f.value.1)) x c.rest t (subst (λ z. after_named (allows_plus place) l z c.rest ≡ Ok (x, t)) (sym f.is) c.goes) in
              let back : t.left ≡ None → c.rest.left ≡ None = λ n. ap (λ (d : Stream). d.left) q.1 ∙ n in (
                λ n. w.left (back n),
                subst (λ (d : Stream). Visible d.rest) q.1 w.seen,
                λ n i. subst (λ d. Of d k t.rest) q.0 (subst (λ (d : Stream). Of (v.Path (qualified_with [] (Some f.value.0) f.value.1)) k d.rest) q.1 (qualified_at l f.value.0 f.value.1 k s.rest c.rest.rest (w.spelt (back n)) no_try o y.0 i)),
              )
          | inr y ↦ let f = mapped (paths.path no_arguments (r some_arguments) AsWritten s) (λ (z : Path A E). (None, z)) c.value c.rest y.1 in
              let w = path_took r part h.arguments AsWritten s c.rest f.value u f.was in
              let a = after_took (allows_plus place) refl l f.value k c.rest t x w.seen (subst (λ z. after_named (allows_plus place) l z c.rest ≡ Ok (x, t)) (sym f.is) c.goes) in
              (λ n. w.left (a.0 n), a.1, λ n i. a.2 n (first_at l f.value k s.rest c.rest.rest (w.spelt (a.0 n)) no_try o i))
        ]
