-- What a type in parentheses that may be the first bound of a trait object spells: a path, or `?` and a path in parentheses; and what begins with `?` as a trait bound.
use Rattle.std.proofs.Common.{◌≡◌, Bool, true, false, List, [], ◌∷◌, Option, Some, None, refl, sym, ◌∙◌, ap, subst}
use Rattle.syn_ty.proofs.ty_laws.words.Tokens.{DelimSpan, Parenthesis, sees_lifetime, AreListed, none_left, last_value, value_and_mark, Nowhere, Many, IsMark, is_mark, more_chars, is_word, Toks, done, group}
use Rattle.syn_ty.proofs.ty_laws.words.Paths.{AsWritten}
use Rattle.syn_ty.proofs.ty_laws.words.Forms.{Plus}
use Rattle.syn_ty.proofs.ty_laws.words.Types.{out-roll-TraitBoundOf, TraitBoundModifiers, out-roll-TypePathOf, no_constness, a_const, a_conditional_const, AreModifiers, some_modifiers, IsFor, IsTrait, IsTraitBound, a_trait_bound, a_trait, a_trait_for, a_trait_asked, no_modifiers, held_bound, named_bound, trait_bound_of, a_binder, Sep, AreSigned, IsBoundPath, a_signed, signed_after, signed_last, with_parens, without_parens, IsAnyPath, IsPath, IsSegment, a_path, a_word, a_word_with_arguments, qualified, unqualified, IsType, a_path_type, a_macro, a_bound_macro, an_object_with_dyn, an_object_without_dyn, an_impl_type, a_fn_type, a_ptr_type, a_reference_type, a_paren_type, a_tuple_type, a_slice_type, an_array_type, an_infer_type, a_never_type, a_verbatim_type, AreBareBounds, AreFurther, IsAsked, IsDyn, IsFirst, a_dyn, a_first, an_asked, asked_first, asked_in_two, held_and_plus, in_parens, lifetime_first, none_further, path_alone, path_and_plus, some_further, Manner, loosely, End, Parts, first_bound, object_of, unqualified_layer, IsOptional, absent, present, BoundLifetimes, Path, PathSegment, QSelf, TraitBound, TypeParamBound, TypeTraitObject, TypeTree, qualified_with, trait_object_with}
use Rattle.token_core.specs.Groups as groups
use Rattle.token_core.specs.Tokens as token
use Rattle.token_core.proofs.Unseen.{no_mark-other, no_mark-word}
use Rattle.syn_ty.specs.declared.generics.TypeParamBoundOf.TheVariants as b
use Rattle.syn_ty.specs.declared.ty.TypeOf.TheVariants as v
use Rattle.syn_ty.specs.generics.Params as params
use Rattle.syn_ty.specs.ty.Reading.{lone_bound}
use Rattle.syn_ty.proofs.ty_laws.Kinds as kinds
use Rattle.syn_ty.proofs.ty_laws.sound.Forms.{both}

module _ {A E : Type 0} (part : Manner → Parts A E) where
  abbrev For : Type 0
  For = Option (BoundLifetimes A E)

  abbrev Bound : Type 0
  Bound = TypeParamBound A E

  abbrev Bounds : Type 0
  Bounds = Many Bound token.Plus

  -- ---- no `?` stands before a path or a binder

  no_question-sep : (c : Sep) (l m : Toks) → IsMark false c l m → token.sees_question l ≡ false
  no_question-sep c l m (is_mark (more_chars y)) = no_mark-other 63 [] _ _ refl

  no_question-segment : (x : PathSegment A E) (l m : Toks) → IsSegment part loosely AsWritten x l m → token.sees_question l ≡ false
  no_question-segment x l m (a_word w) = no_mark-word 63 [] _ _
  no_question-segment x l m (a_word_with_arguments w s z) = no_mark-word 63 [] _ _

  no_question-listed : (f : Bool) (xs : List (PathSegment A E)) (cs : List Sep) (l m : Toks) → AreListed (λ (_ : Bool). IsSegment part loosely AsWritten) (IsMark false) Nowhere f xs cs l m → token.sees_question l ≡ false
  no_question-listed f xs cs l m (none_left i) = absurd i
  no_question-listed f xs cs l m (last_value {x = x} i) = no_question-segment x l m i
  no_question-listed f xs cs l m (value_and_mark {x = x} {m = k} i j n) = no_question-segment x l k i

  no_question-signed : (e : End) (xs : List (PathSegment A E)) (cs : List Sep) (l m : Toks) → AreSigned part loosely e xs cs l m → token.sees_question l ≡ false
  no_question-signed e xs cs l m (signed_last (a_signed w i j)) = no_mark-word 63 [] _ _
  no_question-signed e xs cs l m (signed_after {s = x} {m = k} i j n) = no_question-segment x l k i

  no_question-leading : (o : Option Sep) (l m : Toks) → IsOptional (IsMark false) o l m → token.sees_question m ≡ false → token.sees_question l ≡ false
  no_question-leading o l m absent h = h
  no_question-leading o l m (present {a = c} i) h = no_question-sep c l m i

  no_question-path : (p : Path A E) (l m : Toks) → IsPath part loosely AsWritten p l m → token.sees_question l ≡ false
  no_question-path p l m (a_path {c = o} {xs = xs} {cs = cs} {m = k} i n) = no_question-leading o l k i (no_question-listed true xs cs k m n)

  no_question : (e : End) (p : Path A E) (l m : Toks) → IsBoundPath part loosely e p l m → token.sees_question l ≡ false
  no_question e p l m (without_parens i) = no_question-path p l m i
  no_question e p l m (with_parens {c = o} {xs = xs} {cs = cs} {m = k} i n) = no_question-leading o l k i (no_question-signed e xs cs k m n)

  no_question-for : (x : BoundLifetimes A E) (l m : Toks) → IsFor part loosely x l m → token.sees_question l ≡ false
  no_question-for x l m (a_binder is_word i j n) = no_mark-word 63 [] _ _

  -- ---- a bound in parentheses

  held_is : (s : DelimSpan) (o : For) (q : Option token.Question) (p : Path A E) → b.Trait (held_bound (groups.paren s) (named_bound o q p)) ≡ in_parens s o q p
  held_is s o q p = ap (λ z. b.Trait (params.held_layer (groups.paren s) z)) (out-roll-TraitBoundOf A E (record { paren_token = None; lifetimes = o; modifiers = no_modifiers; maybe = q; path = p }))

  -- also where it stood in parentheses before
  held_again : (s i : DelimSpan) (o : For) (q : Option token.Question) (p : Path A E) → b.Trait (held_bound (groups.paren s) (trait_bound_of (Some (groups.paren i)) o no_modifiers q p)) ≡ in_parens s o q p
  held_again s i o q p =
      ap (λ z. b.Trait (params.held_layer (groups.paren s) z)) (out-roll-TraitBoundOf A E (record { paren_token = Some (groups.paren i); lifetimes = o; modifiers = no_modifiers; maybe = q; path = p }))

  -- `?` and a path, and the bound that they are in parentheses
  pub record Asked (s : DelimSpan) (y : Bound) (c : Toks) : Type 0 where
    pub question : token.Question
    pub path : Path A E
    pub spelt : IsAsked part loosely question path c done
    pub is : in_parens s None (Some question) path ≡ y

  -- no modifier begins with `?`
  none_asked : (x : TraitBoundModifiers) (l m : Toks) → AreModifiers false x l m → token.sees_question l ≡ true → (x ≡ no_modifiers) × (l ≡ m)
  none_asked x l m (some_modifiers no_constness absent) h = (refl, refl)
  none_asked x l m (some_modifiers no_constness (present is_word)) h = both (token.sees_question l) h (no_mark-word 63 [] _ _)
  none_asked x l m (some_modifiers (a_const g i) j) h = cc g
  none_asked x l m (some_modifiers (a_conditional_const g i) j) h = cc g

  trait_asked : (s : DelimSpan) (e : End) (o : For) (x : TraitBoundModifiers) (q : Option token.Question) (p : Path A E) (c : Toks) → IsTrait part loosely false e o x q p c done → token.sees_question c ≡ true →
      Asked s (b.Trait (held_bound (groups.paren s) (trait_bound_of None o x q p))) c
  trait_asked s e o x q p c (a_trait {m = m} w i) h =
      let n = none_asked x c m w h in
      both (token.sees_question c) h (ap token.sees_question n.1 ∙ no_question e p m done i)
  trait_asked s e o x q p c (a_trait_for {o = f} {m = m} i w j) h = both (token.sees_question c) h (no_question-for f c m i)
  trait_asked s e o x q p c (a_trait_asked {q = k} {m = m} w i j) h =
      let n = none_asked x c m w h in
      record {
        question = k;
        path = p;
        spelt = subst (λ z. IsAsked part loosely k p z done) (sym n.1) (an_asked i j);
        is = sym (held_is s None (Some k) p) ∙ ap (λ z. b.Trait (held_bound (groups.paren s) (trait_bound_of None None z (Some k) p))) (sym n.0);
      }

  pub asked_of : (s : DelimSpan) (e : End) (x : TraitBound A E) (c : Toks) → IsTraitBound part loosely false e x c done → token.sees_question c ≡ true → Asked s (b.Trait (held_bound (groups.paren s) x)) c
  asked_of s e x c (a_trait_bound {o = o} {x = m} {q = q} {p = p} i) h = trait_asked s e o m q p c i h

  -- ---- a type as the first bound

  pub data Starts (s : DelimSpan) : Bound → Toks → Type 0 where
    starts_held : {o : For} {p : Path A E} {c : Toks} → IsFirst part loosely o p c done → Starts s (in_parens s o None p) c
    starts_asked : {q : token.Question} {p : Path A E} {i : DelimSpan} {c : Toks} → IsAsked part loosely q p c done → Starts s (in_parens s None (Some q) p) (group Parenthesis i c done)

  moved : (s : DelimSpan) (x y : Bound) (c : Toks) → Some x ≡ Some y → Starts s x c → Starts s y c
  moved s x y c h i = let g : x ≡ y = cc in subst (λ z. Starts s z c) g i

  never : {P : Type 0} (o : Option Bound) (y : Bound) → o ≡ Some y → o ≡ None → P
  never o y h k = cc (sym k ∙ h)

  path_is : (s : DelimSpan) (p : Path A E) → first_bound (groups.paren s) (v.Path (qualified_with [] None p)) ≡ Some (in_parens s None None p)
  path_is s p =
      kinds.first-Path A E (groups.paren s) (qualified_with [] None p) ∙ ap (unqualified_layer (groups.paren s)) (out-roll-TypePathOf A E (record { attrs = []; qself = None; path = p })) ∙ ap Some (held_is s None None p)

  qualified_is : (s : DelimSpan) (q : QSelf A E) (p : Path A E) → first_bound (groups.paren s) (v.Path (qualified_with [] (Some q) p)) ≡ None
  qualified_is s q p = kinds.first-Path A E (groups.paren s) (qualified_with [] (Some q) p) ∙ ap (unqualified_layer (groups.paren s)) (out-roll-TypePathOf A E (record { attrs = []; qself = Some q; path = p }))

  path_starts : (s : DelimSpan) (o : Option (QSelf A E)) (p : Path A E) (c : Toks) (y : Bound) → IsAnyPath part loosely AsWritten o p c done → token.sees_try c ≡ false →
      first_bound (groups.paren s) (v.Path (qualified_with [] o p)) ≡ Some y → Starts s y c
  path_starts s o p c y (unqualified i) w h = moved s (in_parens s None None p) y c (sym (path_is s p) ∙ h) (starts_held (a_first i w))
  path_starts s o p c y (qualified {q = q} i) w h = never (first_bound (groups.paren s) (v.Path (qualified_with [] (Some q) p))) y h (qualified_is s q p)

  -- of a trait object without `dyn`
  object_is : (s : DelimSpan) (w : Bounds) → first_bound (groups.paren s) (object_of w) ≡ lone_bound (groups.paren s) None w
  object_is s w = kinds.first-TraitObject A E (groups.paren s) (trait_object_with [] None w)

  further_starts : (s i : DelimSpan) (e : End) (q : token.Question) (p : Path A E) (xs : List Bound) (ps : List token.Plus) (c m : Toks) (y : Bound) → IsAsked part loosely q p c done → AreFurther part loosely e xs ps m done →
      lone_bound (groups.paren s) None (in_parens i None (Some q) p ∷ xs, ps) ≡ Some y → Starts s y (group Parenthesis i c m)
  further_starts s i e q p xs ps c m y j none_further h =
      moved s (in_parens s None (Some q) p) y (group Parenthesis i c done)
      (ap Some (sym (kinds.held-Trait A E (groups.paren s) (trait_bound_of (Some (groups.paren i)) None no_modifiers (Some q) p) ∙ held_again s i None (Some q) p)) ∙ h) (starts_asked j)
  further_starts s i e q p xs ps c m y j (some_further {xs = []} k n) h = cc h
  further_starts s i e q p xs ps c m y j (some_further {xs = x ∷ ys} k n) h = cc h

  plus_after : {P : Type 0} (s : DelimSpan) (x : Bound) (xs : List Bound) (k : token.Plus) (ps : List token.Plus) (y : Bound) → lone_bound (groups.paren s) None (x ∷ xs, k ∷ ps) ≡ Some y → P
  plus_after s x [] k ps y h = cc h
  plus_after s x (z ∷ xs) k ps y h = cc h

  bare_starts : (s : DelimSpan) (e : End) (w : Bounds) (c : Toks) (y : Bound) → AreBareBounds part loosely Plus e w c done → sees_lifetime c ≡ false → lone_bound (groups.paren s) None w ≡ Some y → Starts s y c
  bare_starts s e w c y (path_alone {x = x} {p = p} i) n h =
      moved s (in_parens s (Some x) None p) y c (ap Some (sym (kinds.held-Trait A E (groups.paren s) (named_bound (Some x) None p) ∙ held_is s (Some x) None p)) ∙ h) (starts_held i)
  bare_starts s e w c y (path_and_plus {c = k} {xs = xs} {ps = ps} g i j m) n h = plus_after s _ xs k ps y h
  bare_starts s e w c y (held_and_plus {k = k} {xs = xs} {ps = ps} g i j m) n h = plus_after s _ xs k ps y h
  bare_starts s e w c y (asked_first {q = q} {p = p} {s = i} {xs = xs} {ps = ps} {c = d} {m = m} j k) n h = further_starts s i e q p xs ps d m y j k h
  bare_starts s e w c y (asked_in_two {k = k} {xs = xs} {ps = ps} g i j m) n h = plus_after s _ xs k ps y h
  bare_starts s e w c y (lifetime_first g i j) n h = both (sees_lifetime c) g n

  dyn_starts : (s : DelimSpan) (e : End) (x : TypeTraitObject A E) (c : Toks) (y : Bound) → IsDyn part loosely Plus e x c done → first_bound (groups.paren s) (v.TraitObject x) ≡ Some y → Starts s y c
  dyn_starts s e x c y (a_dyn {w = w} {v = u} i j) h = never (first_bound (groups.paren s) (v.TraitObject (trait_object_with [] (Some w) u))) y h (kinds.first-TraitObject A E (groups.paren s) (trait_object_with [] (Some w) u))

  -- a type that may be the first bound, and does not begin with a lifetime
  pub type_starts : (s : DelimSpan) (e : End) (x : TypeTree A E) (c : Toks) (y : Bound) → IsType part loosely Plus e x c done → sees_lifetime c ≡ false → first_bound (groups.paren s) x ≡ Some y → Starts s y c
  type_starts s e x c y (a_path_type {o = o} {p = p} i) n h = path_starts s o p c y i.0 i.1 h
  type_starts s e x c y (a_macro {x = z} i) n h = never _ y h (kinds.first-Macro A E (groups.paren s) _)
  type_starts s e x c y (a_bound_macro i j k) n h = never _ y h (kinds.first-Macro A E (groups.paren s) _)
  type_starts s e x c y (an_object_with_dyn {x = z} i) n h = dyn_starts s e z c y i h
  type_starts s e x c y (an_object_without_dyn {w = w} i) n h = bare_starts s e w c y i n (sym (object_is s w) ∙ h)
  type_starts s e x c y (an_impl_type {x = z} i) n h = never _ y h (kinds.first-ImplTrait A E (groups.paren s) z)
  type_starts s e x c y (a_fn_type {x = z} i) n h = never _ y h (kinds.first-FnPtr A E (groups.paren s) z)
  type_starts s e x c y (a_ptr_type {x = z} i) n h = never _ y h (kinds.first-Ptr A E (groups.paren s) z)
  type_starts s e x c y (a_reference_type {x = z} i) n h = never _ y h (kinds.first-Reference A E (groups.paren s) z)
  type_starts s e x c y (a_paren_type {x = z} i) n h = never _ y h (kinds.first-Paren A E (groups.paren s) z)
  type_starts s e x c y (a_tuple_type {x = z} i) n h = never _ y h (kinds.first-Tuple A E (groups.paren s) z)
  type_starts s e x c y (a_slice_type {x = z} i) n h = never _ y h (kinds.first-Slice A E (groups.paren s) z)
  type_starts s e x c y (an_array_type {x = z} i) n h = never _ y h (kinds.first-Array A E (groups.paren s) z)
  type_starts s e x c y (an_infer_type {x = z} i) n h = never _ y h (kinds.first-Infer A E (groups.paren s) z)
  type_starts s e x c y (a_never_type {x = z} i) n h = never _ y h (kinds.first-Never A E (groups.paren s) z)
  type_starts s e x c y (a_verbatim_type {t = z} i) n h = never _ y h (kinds.first-Verbatim A E (groups.paren s) z)
