-- Where a turn of types is read, what was taken is spelt by the rules of the whole grammar, over the same law of what a type holds.
use Rattle.std.proofs.lemmas.Slice.Eq.{bytes_eq-Decides}
use Rattle.std.proofs.Common.{◌≡◌, Bool, true, false, ◌||◌, List, Option, Some, None, is_some, Ok, inl, inr, refl, ap, subst}
use Rattle.syn_ty.proofs.ty_laws.words.Tokens.{Parenthesis, Bracket, sees_invisible, is_keyword, sees_lifetime, Many, text_of, Item, Reader, Follows, is_text, sees_group, sees_mark, sees_word, Visible, Stream, Bytes, Toks, done, word, mark, lit, group, enter, leave}
use Rattle.syn_ty.proofs.ty_laws.words.Paths.{is_mod_word, ReadValues, Along}
use Rattle.syn_ty.proofs.ty_laws.words.Forms.{Binder, TypePlace, Plus, allows_plus, position}
use Rattle.syn_ty.proofs.ty_laws.words.Types.{IsFor, binder, is_none, IsType, IsPointer, IsBorrow, an_impl_type, a_fn_type, a_ptr_type, a_reference_type, an_infer_type, a_never_type, an_object_without_dyn, IsFnPtr, AreBareBounds, IsImpl, Manner, loosely, End, closed, Parts, Readers, begins_named, object_of, sees_bindable, sees_builtin, sees_fn_ptr, sees_unsafe_binder, IsInfer, IsNever, IsOptional, absent, present, BoundLifetimes, PathArguments, TypeFnPtr, TypeImplTrait, TypeParamBound, TypeTree}
use Rattle.token_core.specs.Tokens as token
use Rattle.token_core.proofs.Suffixes.{follows_self}
use Rattle.token_core.proofs.Took.{branch, mapped}
use Rattle.token_core.proofs.Turns.{chain}
use Rattle.syn_path.proofs.Words.{TookOne}
use Rattle.syn_forms.proofs.tokens_laws.Fronts.{plainly, took_as}
use Rattle.syn_ty.specs.declared.ty.TypeOf.TheVariants as v
use Rattle.syn_ty.specs.ty.Reading as reading
use Rattle.syn_ty.proofs.generics_laws.Sound.{binder_took}
use Rattle.syn_ty.proofs.ty_laws.sound.Groups.{brackets_took}
use Rattle.syn_ty.proofs.ty_laws.sound.Parens.{paren_took}
use Rattle.syn_ty.proofs.ty_laws.sound.Paths.{or_first}
use Rattle.syn_ty.proofs.ty_laws.sound.Leaves.{infer_sound, never_sound, visible_infer, visible_never}
use Rattle.syn_ty.proofs.ty_laws.sound.Forms.{Told, borrow_took, both, never_open, pointer_took}
use Rattle.syn_ty.proofs.ty_laws.sound.TypePaths.{Onward, named_took}
use Rattle.syn_ty.proofs.ty_laws.sound.Verbatim.{builtin_type_took, unsafe_binder_took}
use Rattle.syn_ty.proofs.ty_laws.sound.Within.{Held, Supplied}

-- ---- how a path begins

-- a word of a path of mod style is not `try`
no_mod_try : (t : Bytes) → is_text (text_of 15) t ≡ true → is_mod_word t ≡ false
unfolding is_keyword
no_mod_try t h = ap is_mod_word ((bytes_eq-Decides t _).0 h)

no_try_word : (t : Bytes) (b : Bool) → is_text (text_of 15) t ≡ b → is_mod_word t ≡ true → is_text (text_of 15) t ≡ false
no_try_word t true h k = both (is_mod_word t) k (no_mod_try t h)
no_try_word t false h k = h

or_false : (b : Bool) → b || false ≡ true → b ≡ true
or_false true h = refl
or_false false h = cc h

-- what begins with such a word, `::` or `<` does not begin with `try`
no_try : (l : Toks) → Visible l → sees_word is_mod_word l || (token.sees_path_sep l || token.sees_lt l) ≡ true → token.sees_try l ≡ false
unfolding sees_word sees_mark
no_try done u h = refl
no_try (word i k) u h = no_try_word i.text (is_text (text_of 15) i.text) refl (or_false (is_mod_word i.text) h)
no_try (mark p k) u h = refl
no_try (lit x k) u h = refl
no_try (group d s c k) u h = refl
no_try (enter s k) u h = absurd u
no_try (leave k) u h = absurd u

-- before such a word stands neither `::` nor `<`
word_alone : (l : Toks) → Visible l → sees_word is_mod_word l ≡ true → (token.sees_path_sep l ≡ false) × (token.sees_lt l ≡ false)
unfolding sees_word sees_mark
word_alone done u h = cc h
word_alone (word i k) u h = (refl, refl)
word_alone (mark p k) u h = cc h
word_alone (lit x k) u h = cc h
word_alone (group d s c k) u h = cc h
word_alone (enter s k) u h = absurd u
word_alone (leave k) u h = absurd u

-- no invisible group stands on a list without them
pub none_invisible : (l : Toks) → Visible l → sees_invisible l ≡ false
unfolding sees_invisible
none_invisible done u = refl
none_invisible (word i k) u = refl
none_invisible (mark p k) u = refl
none_invisible (lit x k) u = refl
none_invisible (group d s c k) u = refl
none_invisible (enter s k) u = absurd u
none_invisible (leave k) u = absurd u

one_is_left : (b c d : Bool) → (b || c) || d ≡ true → c ≡ false → b || d ≡ true
one_is_left true c d h g = refl
one_is_left false true d h g = cc g
one_is_left false false d h g = h

no_call : (b c : Bool) → b || c ≡ true → c ≡ false → b ≡ true
no_call true c h g = refl
no_call false c h g = both c h g

module _ {A E : Type 0} (attrs : Reader (List A)) (values : ReadValues E) (r : Readers A E) (part over : Manner → Parts A E) (h : Held r part) (g : Supplied attrs values part)
    (raised : (p : TypePlace) (e : End) (x : TypeTree A E) (l k : Toks) → IsType part loosely p e x l k → IsType over loosely p e x l k)
    (within : (e : End) (x : TypeTree A E) (l k : Toks) → IsType part loosely Plus e x l k → (over loosely).ty Plus e x l k)
    (wider : (e : End) (x : TypeTree A E) (l k : Toks) → (part loosely).ty Plus e x l k → IsType part loosely Plus e x l k)
    (some : (x : PathArguments A E) (l k : Toks) → (part loosely).arguments x l k → is_none x ≡ false)
    (took_lifetime : (p : TypePlace) (s t : Stream) (w : Many (TypeParamBound A E) token.Plus) → Visible s.rest → reading.lifetime_object r s ≡ Ok (w, t) → TookOne (Told (AreBareBounds part loosely p)) s t w)
    (took_dyn : (p : TypePlace) (s t : Stream) (x : TypeTree A E) → Visible s.rest → reading.dyn_type r (allows_plus p) s ≡ Ok (x, t) → TookOne (Told (IsType part loosely p)) s t x)
    (took_impl : (p : TypePlace) (s t : Stream) (x : TypeImplTrait A E) → Visible s.rest → reading.impl_trait r (allows_plus p) s ≡ Ok (x, t) → TookOne (Told (IsImpl part loosely p)) s t x)
    (took_fn : (l : Option (BoundLifetimes A E)) (k : Toks) (s t : Stream) (x : TypeFnPtr A E) → Visible s.rest → reading.fn_ptr_after attrs values r l s ≡ Ok (x, t) →
    Onward (IsOptional (IsFor part loosely) l k s.rest) (Told (IsFnPtr part loosely) x k t.rest) s t)
    (binder_along : Along (binder r)) (builtin_along : Along reading.builtin) (unsafe_along : (from : List Item) (p : TypePlace) → Along (reading.unsafe_binder r from p)) (place : TypePlace) where
  abbrev Tree : Type 0
  Tree = TypeTree A E

  abbrev For : Type 0
  For = Option (BoundLifetimes A E)

  abbrev IsPerhapsFor : For → Toks → Toks → Type 0
  IsPerhapsFor = IsOptional (IsFor part loosely)

  abbrev Of : Tree → Toks → Toks → Type 0
  Of = Told (IsType part loosely place)

  abbrev Over : Tree → Toks → Toks → Type 0
  Over = Told (IsType over loosely place)

  over_is : (x : Tree) (l k : Toks) → Of x l k → Over x l k
  over_is x l k i = (i.0, raised place i.0 x l k i.1, i.2, i.3)

  over_took : (s t : Stream) (x : Tree) → TookOne Of s t x → TookOne Over s t x
  over_took s t x k = record { left = k.left; seen = k.seen; spelt = λ n. over_is x s.rest t.rest (k.spelt n) }

  -- ---- without a binder: the last tokens

  abbrev plus : Bool
  plus = allows_plus place

  last_took : (s t : Stream) (x : Tree) → Visible s.rest → reading.by_last_tokens attrs values r plus s ≡ Ok (x, t) → TookOne Of s t x
  unfolding reading.by_last_tokens
  last_took s t x u e =
      elim (branch (token.sees_bang s.rest) _ _ s (Ok (x, t)) e) [
        | inl y ↦ let k = mapped (reading.never s) v.Never x t y.1 in
            took_as {Is = IsNever false} {Js = Of} v.Never s t k.value x k.is (λ l m i. (closed, a_never_type i, never_open, never_open))
            (plainly {Is = IsNever false} visible_never s t k.value u (never_sound s t k.value u k.was))
        | inr y ↦ elim (branch (token.sees_impl s.rest) _ _ s (Ok (x, t)) y.1) [
          | inl z ↦ let k = mapped (reading.impl_trait r plus s) v.ImplTrait x t z.1 in
              took_as {Is = Told (IsImpl part loosely place)} {Js = Of} v.ImplTrait s t k.value x k.is (λ l m i. (i.0, an_impl_type i.1, i.2, i.3)) (took_impl place s t k.value u k.was)
          | inr z ↦ elim (branch (token.sees_underscore s.rest) _ _ s (Ok (x, t)) z.1) [
            | inl d ↦ let k = mapped (reading.infer s) v.Infer x t d.1 in
                took_as {Is = IsInfer} {Js = Of} v.Infer s t k.value x k.is (λ l m i. (closed, an_infer_type i, never_open, never_open))
                (plainly {Is = IsInfer} visible_infer s t k.value u (infer_sound s t k.value u k.was))
            | inr d ↦ elim (branch (sees_lifetime s.rest) _ _ s (Ok (x, t)) d.1) [
              | inl f ↦ let k = mapped (reading.lifetime_object r s) object_of x t f.1 in
                  took_as {Is = Told (AreBareBounds part loosely place)} {Js = Of} object_of s t k.value x k.is (λ l m i. (i.0, an_object_without_dyn i.1, i.2, i.3)) (took_lifetime place s t k.value u k.was)
              | inr f ↦ cc (f.1)
            ]
          ]
        ]
      ]

  -- ---- `dyn`, brackets, `*`, `&`

  token_took : (s t : Stream) (x : Tree) → Visible s.rest → reading.by_token attrs values r plus s ≡ Ok (x, t) → TookOne Of s t x
  unfolding reading.by_token
  token_took s t x u e =
      elim (branch (token.sees_dyn s.rest) _ _ s (Ok (x, t)) e) [
        | inl y ↦ took_dyn place s t x u y.1
        | inr y ↦ elim (branch (sees_group Bracket s.rest) _ _ s (Ok (x, t)) y.1) [
          | inl z ↦ brackets_took attrs values r part h g place s t x u z.1
          | inr z ↦ elim (branch (token.sees_star s.rest) _ _ s (Ok (x, t)) z.1) [
            | inl d ↦ let k = mapped (reading.ptr r s) v.Ptr x t d.1 in
                took_as {Is = Told (IsPointer part loosely)} {Js = Of} v.Ptr s t k.value x k.is (λ l m i. (i.0, a_ptr_type i.1, i.2, i.3)) (pointer_took r part h.ty s t k.value u k.was)
            | inr d ↦ elim (branch (token.sees_and s.rest) _ _ s (Ok (x, t)) d.1) [
              | inl f ↦ let k = mapped (reading.reference r s) v.Reference x t f.1 in
                  took_as {Is = Told (IsBorrow part loosely)} {Js = Of} v.Reference s t k.value x k.is (λ l m i. (i.0, a_reference_type i.1, i.2, i.3)) (borrow_took r part h.ty s t k.value u k.was)
              | inr f ↦ last_took s t x u f.1
            ]
          ]
        ]
      ]

  -- ---- what begins as a path does

  -- after a binder a word stands
  abbrev Fits : For → Toks → Type 0
  Fits l m = (begins_named m ≡ true) × (is_some l ≡ true → sees_bindable m ≡ true)

  fits_try : (l : For) (m : Toks) → Visible m → Fits l m → sees_fn_ptr m ≡ false → token.sees_try m ≡ false
  unfolding begins_named sees_bindable
  fits_try l m u f n = no_try m u (one_is_left (sees_word is_mod_word m) (sees_fn_ptr m) _ f.0 n)

  fits_word : (l : For) (m : Toks) → Visible m → Fits l m → sees_fn_ptr m ≡ false → is_some l ≡ true → (token.sees_path_sep m ≡ false) × (token.sees_lt m ≡ false)
  unfolding sees_bindable
  fits_word l m u f n o = word_alone m u (no_call (sees_word is_mod_word m) (sees_fn_ptr m) (f.1 o) n)

  named_type_took : (l : For) (k s t : Stream) (x : Tree) → Visible k.rest → Follows k s → Visible s.rest → Fits l s.rest → reading.named_type attrs values r place (position k) l s ≡ Ok (x, t) →
      Onward (IsPerhapsFor l k.rest s.rest) (Of x k.rest t.rest) s t
  unfolding reading.named_type
  named_type_took l k s t x w f u o e =
      elim (branch (sees_unsafe_binder s.rest) _ _ s (Ok (x, t)) e) [
        | inl y ↦ unsafe_binder_took r part h place unsafe_along l k s t x w f u y.1
        | inr y ↦ elim (branch (sees_fn_ptr s.rest) _ _ s (Ok (x, t)) y.1) [
          | inl z ↦ let c = mapped (reading.fn_ptr_after attrs values r l s) v.FnPtr x t z.1 in
              let q = took_fn l k.rest s t c.value u c.was in
              (q.0, q.1, λ n i. let j = q.2 n i in subst (λ d. Of d k.rest t.rest) c.is (j.0, a_fn_type j.1, j.2, j.3))
          | inr z ↦ elim (branch (sees_builtin s.rest) _ _ s (Ok (x, t)) z.1) [
            | inl d ↦ builtin_type_took r part h place builtin_along l k s t x w f u d.0 d.1
            | inr d ↦ named_took r part h some place l k.rest s t x u (fits_try l s.rest u o z.0) (λ n. fits_word l s.rest u o z.0 n) d.1
          ]
        ]
      ]

  fits_bound : (m : Toks) → sees_bindable m ≡ true → begins_named m ≡ true
  unfolding begins_named
  fits_bound m n = or_first _ _ n

  -- after a binder
  bound_took : (s t : Stream) (x : Tree) → Visible s.rest → reading.bound_type attrs values r place (position s) s ≡ Ok (x, t) → TookOne Of s t x
  unfolding reading.bound_type
  bound_took s t x u e =
      let c = chain (binder r s) _ x t e in
      let k = binder_took r ((part loosely).param Binder) (h.param Binder) s c.rest c.value u c.was in
      elim (branch (sees_bindable c.rest.rest) _ _ c.rest (Ok (x, t)) c.goes) [
        | inl y ↦ let q = named_type_took (Some c.value) s c.rest t x u (binder_along s c.rest c.value c.was) k.seen (fits_bound c.rest.rest y.0, λ n. y.0) y.1 in
            record { left = λ n. k.left (q.0 n); seen = q.1; spelt = λ n. q.2 n (present (k.spelt (q.0 n))) }
        | inr y ↦ cc (y.1)
      ]

  -- ---- all of them

  unbound_took : (s t : Stream) (x : Tree) → Visible s.rest → reading.unbound_type attrs values r place (position s) s ≡ Ok (x, t) → TookOne Over s t x
  unfolding reading.unbound_type
  unbound_took s t x u e =
      elim (branch (sees_group Parenthesis s.rest) _ _ s (Ok (x, t)) e) [
        | inl y ↦ paren_took r part over h raised within wider took_lifetime place s t x u y.1
        | inr y ↦ elim (branch (begins_named s.rest) _ _ s (Ok (x, t)) y.1) [
          | inl z ↦ let q = named_type_took None s s t x u (follows_self s) u (z.0, λ n. cc n) z.1 in
              over_took s t x (record { left = q.0; seen = q.1; spelt = λ n. q.2 n absent })
          | inr z ↦ over_took s t x (token_took s t x u z.1)
        ]
      ]

  pub type_took : (s t : Stream) (x : Tree) → Visible s.rest → reading.type_step attrs values r place s ≡ Ok (x, t) → TookOne Over s t x
  unfolding reading.type_step
  type_took s t x u e =
      elim (branch (sees_invisible s.rest) _ _ s (Ok (x, t)) e) [
        | inl y ↦ both (sees_invisible s.rest) y.0 (none_invisible s.rest u)
        | inr y ↦ elim (branch (token.sees_for s.rest) _ _ s (Ok (x, t)) y.1) [
          | inl z ↦ over_took s t x (bound_took s t x u z.1)
          | inr z ↦ unbound_took s t x u z.1
        ]
      ]
