-- One turn of types is complete: a type that a list spells clearly in its place is what the reader answers, over the laws of the single forms.
use Rattle.std.proofs.Common.{◌≡◌, ℕ, ◌≤◌, Bool, true, false, List, [], ◌∷◌, Option, Some, None, refl, sym, ◌∙◌, ap, subst}
use Rattle.std.specs.List.{list_any}
use Rattle.syn_ty.proofs.ty_laws.words.Tokens.{Lifetime, DelimSpan, Span, Parenthesis, sees_lifetime, AfterMark, Nowhere, Many, Reader, sees_mark, IsMark, is_mark, last_char, IsWord, IsLifetime, Scope, Toks, done, group, mark, word, TokenStream, punct}
use Rattle.syn_ty.proofs.ty_laws.words.Paths.{Macro, AsWritten, macro_of, IsCall, a_macro, sees_sep, ReadValues}
use Rattle.syn_ty.proofs.ty_laws.words.Forms.{Object, TypePlace, Plus, NoPlus, plus_follows, ahead, allows_plus, position}
use Rattle.syn_ty.proofs.ty_laws.words.Types.{Abi, FnPtrVariadicOf, TypeInferOf, TypeNeverOf, IsFor, AreBounds, no_bounds, last_bound, bound_and_plus, IsReturn, is_segment_word, IsAnyPath, unqualified, qualified, NoLifetime, IsVerbatimType, an_unsafe_binder, a_dyn_star, a_builtin, IsBorrow, a_borrow, a_mutable_borrow, a_lifetime_borrow, IsBracketed, bracketed, IsCounted, counted, IsEnclosed, enclosed, IsPointer, a_pointer, IsTupled, no_element, some_elements, IsType, a_path_type, a_bound_macro, an_object_with_dyn, an_object_without_dyn, an_impl_type, a_fn_type, a_ptr_type, a_reference_type, a_paren_type, a_tuple_type, a_slice_type, an_array_type, an_infer_type, a_never_type, a_verbatim_type, IsAbi, AreInputs, IsFnPtr, a_fn_ptr, in_parens, AreBareBounds, path_alone, path_and_plus, held_and_plus, asked_first, asked_in_two, lifetime_first, AreFurther, AreObjectBounds, IsAsked, IsDyn, a_dyn, IsFirst, a_first, a_first_for, IsImpl, an_impl, Manner, clearly, End, Parts, Holds, Readers, is_trait, object_of, IsInfer, an_infer, IsNever, a_never, IsOptional, absent, present, BoundLifetimes, NamedArg, Path, QSelf, ReturnType, TypeArray, TypeFnPtr, TypeImplTrait, TypeParamBound, TypeParen, TypePtr, TypeReference, TypeSlice, TypeTraitObject, TypeTree, TypeTuple, fn_ptr_with, macro_type_of, qualified_with}
use Rattle.token_core.specs.Groups as groups
use Rattle.token_core.specs.Tokens as token
use Rattle.token_core.proofs.Steps.{Reads_to}
use Rattle.token_core.proofs.Took.{at}
use Rattle.syn_path.specs.mac.Spelling.{bang_at}
use Rattle.syn_forms.proofs.nested_laws.Ahead.{weight}
use Rattle.syn_ty.specs.declared.ty.TypeOf.TheVariants as v
use Rattle.syn_ty.specs.generics.Reading as generics
use Rattle.syn_ty.specs.ty.Admitted.{a_macro as a_macro_type}
use Rattle.syn_ty.specs.ty.Reading as reading
use Rattle.syn_ty.proofs.ty_laws.complete.BoundLists.{plus_stops, plus_there}
use Rattle.syn_ty.proofs.ty_laws.complete.Calls.{as_path, bang_no_pound, bang_stops, call_goes, call_path, lone_goes, object_goes, path_goes, path_object_met, qualified_goes}
use Rattle.syn_ty.proofs.ty_laws.complete.Leaves.{infer_complete, never_complete}
use Rattle.syn_ty.proofs.ty_laws.complete.Less.{no_no, optional_no, some}
use Rattle.syn_ty.proofs.ty_laws.complete.Within.{Fits, Meets, PathStops, PathsMeet, Stops}
use Rattle.syn_ty.proofs.ty_laws.complete.Named.{any_path_first, by_builtin, by_fn, by_path, by_unsafe, for_less, path_first, path_no_lt, perhaps_bound}
use Rattle.syn_ty.proofs.ty_laws.complete.Paths.{path_less}
use Rattle.syn_ty.proofs.ty_laws.complete.Signed.{left_after, path_stops}
use Rattle.syn_ty.proofs.ty_laws.complete.Tokens.{Turn, and_turn, bang_turn, bracket_turn, dyn_turn, fn_begins, impl_turn, infer_turn, lifetime_turn, paren_turn, star_turn, unsafe_begins, word_no_lt, word_no_sep}
use Rattle.syn_ty.proofs.ty_laws.complete.Verbatim.{builtin_begins, builtin_seen, builtin_type_met, unsafe_met, unsafe_seen}

-- ---- the laws of the single forms

module _ {A E : Type 0} (attrs : Reader (List A)) (values : ReadValues E) (r : Readers A E) (part : Manner → Parts A E) (limit : ℕ) where
  pub record TypeForms : Type 0 where
    -- `ptr`
    pub pointer : (d : End) (x : TypePtr A E) (l k : Toks) (f : Option Span) (e : Span) (sc : Scope) → ahead (at l f e sc) ≤ limit → IsPointer part clearly d x l k → Fits d k → Reads_to (reading.ptr r) x l k f e sc
    -- `reference`
    pub borrow : (d : End) (x : TypeReference A E) (l k : Toks) (f : Option Span) (e : Span) (sc : Scope) → ahead (at l f e sc) ≤ limit → IsBorrow part clearly d x l k → Fits d k → Reads_to (reading.reference r) x l k f e sc
    -- `slice_or_array`
    pub slice : (x : TypeSlice A E) (l k : Toks) (f : Option Span) (e : Span) (sc : Scope) → ahead (at l f e sc) ≤ limit → IsBracketed part clearly x l k → Reads_to (reading.slice_or_array values r) (v.Slice x) l k f e sc
    pub array : (x : TypeArray A E) (l k : Toks) (f : Option Span) (e : Span) (sc : Scope) → ahead (at l f e sc) ≤ limit → IsCounted part clearly x l k → Reads_to (reading.slice_or_array values r) (v.Array x) l k f e sc
    -- `paren_type`: `parens` and `of_parens`
    pub enclosed : (plus : Bool) (x : TypeParen A E) (l k : Toks) (f : Option Span) (e : Span) (sc : Scope) → ahead (at l f e sc) ≤ limit → IsEnclosed part clearly Plus x l k → (plus ≡ true → token.sees_plus k ≡ false) → Reads_to (reading.paren_type r plus) (v.Paren x) l k f e sc
    pub tupled : (plus : Bool) (x : TypeTuple A E) (l k : Toks) (f : Option Span) (e : Span) (sc : Scope) → ahead (at l f e sc) ≤ limit → IsTupled part clearly NoLifetime x l k → Reads_to (reading.paren_type r plus) (v.Tuple x) l k f e sc
    pub asked_first : (plus : Bool) (d : End) (q : token.Question) (p : Path A E) (s : DelimSpan) (xs : List (TypeParamBound A E)) (ps : List token.Plus) (c m k : Toks) (f : Option Span) (e : Span) (sc : Scope) → ahead (at (group Parenthesis s c m) f e sc) ≤ limit →
        IsAsked part clearly q p c done → AreFurther part clearly d xs ps m k → Fits d k → Reads_to (reading.paren_type r plus) (object_of (in_parens s None (Some q) p ∷ xs, ps)) (group Parenthesis s c m) k f e sc
    pub held_and_plus : (plus : Bool) → plus ≡ true → (d : End) (o : Option (BoundLifetimes A E)) (p : Path A E) (s : DelimSpan) (a : token.Plus) (xs : List (TypeParamBound A E)) (ps : List token.Plus) (c m n k : Toks) (f : Option Span) (e : Span) (sc : Scope) →
        ahead (at (group Parenthesis s c m) f e sc) ≤ limit → IsFirst part clearly o p c done → IsMark true a m n → AreBounds part clearly Object Nowhere false d xs ps n k → Fits d k →
        Reads_to (reading.paren_type r plus) (object_of (in_parens s o None p ∷ xs, a ∷ ps)) (group Parenthesis s c m) k f e sc
    pub asked_in_two : (plus : Bool) → plus ≡ true → (d : End) (q : token.Question) (p : Path A E) (s i : DelimSpan) (a : token.Plus) (xs : List (TypeParamBound A E)) (ps : List token.Plus) (c m n k : Toks) (f : Option Span) (e : Span) (sc : Scope) →
        ahead (at (group Parenthesis s (group Parenthesis i c done) m) f e sc) ≤ limit → IsAsked part clearly q p c done → IsMark true a m n → AreBounds part clearly Object Nowhere false d xs ps n k → Fits d k →
        Reads_to (reading.paren_type r plus) (object_of (in_parens s None (Some q) p ∷ xs, a ∷ ps)) (group Parenthesis s (group Parenthesis i c done) m) k f e sc
    -- `dyn_type`
    pub dyn : (place : TypePlace) (d : End) (x : TypeTraitObject A E) (l k : Toks) (f : Option Span) (e : Span) (sc : Scope) → ahead (at l f e sc) ≤ limit → IsDyn part clearly place d x l k → Fits d k → Reads_to (reading.dyn_type r (allows_plus place)) (v.TraitObject x) l k f e sc
    pub dyn_star : (place : TypePlace) (d : End) (t : TokenStream) (w : token.Dyn) (s : token.Star) (bs : Many (TypeParamBound A E) token.Plus) (l m n k : Toks) (f : Option Span) (e : Span) (sc : Scope) → ahead (at l f e sc) ≤ limit →
        IsWord w l m → IsMark true s m n → AreObjectBounds part clearly place d bs n k → Holds t l k → Fits d k → Reads_to (reading.dyn_type r (allows_plus place)) (v.Verbatim t) l k f e sc
    -- `impl_trait`
    pub impl : (place : TypePlace) (d : End) (x : TypeImplTrait A E) (l k : Toks) (f : Option Span) (e : Span) (sc : Scope) → ahead (at l f e sc) ≤ limit → IsImpl part clearly place d x l k → Fits d k → Reads_to (reading.impl_trait r (allows_plus place)) x l k f e sc
    -- `lifetime_object`
    pub lifetime : (d : End) (xs : List (TypeParamBound A E)) (ps : List token.Plus) (l k : Toks) (f : Option Span) (e : Span) (sc : Scope) → ahead (at l f e sc) ≤ limit → sees_lifetime l ≡ true → AreBounds part clearly Object AfterMark true d xs ps l k →
        list_any is_trait xs ≡ true → Fits d k → Reads_to (reading.lifetime_object r) (xs, ps) l k f e sc
    -- `fn_ptr_after`, where a binder may have been read before
    pub fn_ptr : (d : End) (b : Option (BoundLifetimes A E)) (u : Option token.Unsafe) (i : Option Abi) (w : token.Fn) (s : DelimSpan) (y : Many (NamedArg A E) token.Comma) (z : Option (FnPtrVariadicOf A)) (o : ReturnType A E) (l m n c j k : Toks) (f : Option Span) (e : Span) (sc : Scope) →
        ahead (at l f e sc) ≤ limit → IsOptional IsWord u l m → IsOptional IsAbi i m n → IsWord w n (group Parenthesis s c j) → AreInputs part clearly y z c → IsReturn part clearly NoPlus d o j k → Fits d k →
        Reads_to (reading.fn_ptr_after attrs values r b) (fn_ptr_with [] b u i w (groups.paren s) y z o) l k f e sc
    -- `binder`
    pub binder : (x : BoundLifetimes A E) (l k : Toks) (f : Option Span) (e : Span) (sc : Scope) → ahead (at l f e sc) ≤ limit → IsFor part clearly x l k → Reads_to (generics.binder r) x l k f e sc
    -- a bound that begins with a lifetime is that lifetime
    pub life : (d : End) (x : TypeParamBound A E) (l k : Toks) → (part clearly).bound Object d x l k → sees_lifetime l ≡ true → (y : Lifetime) × IsLifetime y l k

-- ---- what follows

plus_no_pound : (p : token.Plus) (l r : Toks) → IsMark true p l r → token.sees_pound l ≡ false
unfolding sees_mark
plus_no_pound p l r (is_mark (last_char x)) = refl

no_plus_follows : (b : Bool) (k : Toks) → (b ≡ true → token.sees_plus k ≡ false) → plus_follows b k ≡ false
no_plus_follows true k h = h refl
no_plus_follows false k h = refl

-- ---- one turn

module _ {A E : Type 0} (attrs : Reader (List A)) (values : ReadValues E) (r : Readers A E) (part : Manner → Parts A E) (limit : ℕ) (meets : Meets r part limit) (paths : PathsMeet r part limit) (forms : TypeForms attrs values r part limit) (place : TypePlace) where
  abbrev Tree : Type 0
  Tree = TypeTree A E

  abbrev For : Type 0
  For = Option (BoundLifetimes A E)

  abbrev plus : Bool
  plus = allows_plus place

  abbrev OneTurn : Tree → Toks → Toks → Option Span → Span → Scope → Type 0
  OneTurn = Turn attrs values r place

  -- no more is left after a binder
  for_light : (o : For) (l m : Toks) → IsOptional (IsFor part clearly) o l m → weight m ≤ weight l
  for_light o l m i = (optional_no (λ b z k j. some (for_less part meets.firsts b z k j)) o l m i).light

  -- ---- a path, perhaps after a binder, and what follows it

  first_turn : (o : For) (p : Path A E) (x : Tree) (l n k : Toks) (f : Option Span) (e : Span) (sc : Scope) → ahead (at l f e sc) ≤ limit → IsFirst part clearly o p l n → PathStops AsWritten n → token.sees_pound n ≡ false →
      ((d : Span) → Reads_to (reading.path_or_object r plus o (None, p)) x n k f d sc) → OneTurn x l k f e sc
  first_turn None p x l n k f e sc lim (a_first i w) stops np goes =
      let b = path_first part meets.firsts p l n i w in
      perhaps_bound attrs values r part limit meets.firsts forms.binder place x None l l k f e sc lim absent b.begins.name (λ q. cc q)
      (λ d. by_path attrs values r part limit meets.firsts forms.binder place paths (position (at l f e sc)) None None p x l n k f d sc lim b np (unqualified i) stops (λ q. cc q) goes)
  first_turn (Some y) p x l n k f e sc lim (a_first_for {m = m} j i w c) stops np goes =
      let b = path_first part meets.firsts p m n i w in
      let light = for_light (Some y) l m (present j) in
      perhaps_bound attrs values r part limit meets.firsts forms.binder place x (Some y) l m k f e sc lim (present j) b.begins.name (λ q. b.begins.bindable c (path_no_lt part meets.firsts p m n i))
      (λ d. by_path attrs values r part limit meets.firsts forms.binder place paths (position (at l f e sc)) (Some y) None p x m n k f d sc (left_after l m f f e d sc limit light lim) b np (unqualified i) stops (λ q. cc q) goes)

  path_turn : (o : Option (QSelf A E)) (p : Path A E) (l k : Toks) (f : Option Span) (e : Span) (sc : Scope) → ahead (at l f e sc) ≤ limit → IsAnyPath part clearly AsWritten o p l k → token.sees_try l ≡ false → Stops k → token.sees_pound k ≡ false →
      (plus ≡ true → token.sees_plus k ≡ false) → OneTurn (v.Path (qualified_with [] o p)) l k f e sc
  path_turn None p l k f e sc lim (unqualified i) w stops np no_plus =
      first_turn None p (v.Path (qualified_with [] None p)) l k k f e sc lim (a_first i w) (path_stops k stops) np (λ d. path_goes r plus p k f d sc stops.no_call (no_plus_follows plus k no_plus))
  path_turn (Some q) p l k f e sc lim (qualified i) w stops np no_plus =
      let b = any_path_first part meets.firsts (Some q) p l k (qualified i) w in
      perhaps_bound attrs values r part limit meets.firsts forms.binder place (v.Path (qualified_with [] (Some q) p)) None l l k f e sc lim absent b.begins.name (λ z. cc z)
      (λ d. by_path attrs values r part limit meets.firsts forms.binder place paths (position (at l f e sc)) None (Some q) p (v.Path (qualified_with [] (Some q) p)) l k k f d sc lim b np (qualified i) (path_stops k stops)
      (λ z. stops.no_sep) (λ c. qualified_goes r plus None q p k f c sc))

  -- ---- macro calls

  call_turn : (x : Macro) (l k : Toks) (f : Option Span) (e : Span) (sc : Scope) → ahead (at l f e sc) ≤ limit → IsCall true is_segment_word x l k → token.sees_try l ≡ false → OneTurn (v.Macro (macro_type_of x)) l k f e sc
  call_turn x l k f e sc lim (a_macro {p = p} {a = a} {j = j} {e = w} {d = d} {s = s} {c = c} {tokens = t} i u g h) n =
      first_turn None (as_path A E p) (v.Macro (macro_type_of (macro_of p (bang_at a) (w, t)))) l (mark (punct 33 j a) (group d s c k)) k f e sc lim (a_first (call_path part p l (mark (punct 33 j a) (group d s c k)) i) n)
      (bang_stops a j d s c k) (bang_no_pound a j d s c k) (λ q. call_goes r plus None p a j w d s c k t f q sc g h)

  bound_call_turn : (b : BoundLifetimes A E) (x : Macro) (l m k : Toks) (f : Option Span) (e : Span) (sc : Scope) → ahead (at l f e sc) ≤ limit → IsFor part clearly b l m → IsCall true is_segment_word x m k → token.sees_try m ≡ false → sees_sep m ≡ false →
      OneTurn (v.Macro (macro_type_of x)) l k f e sc
  bound_call_turn b x l m k f e sc lim y (a_macro {p = p} {a = a} {j = j} {e = w} {d = d} {s = s} {c = c} {tokens = t} i u g h) n z =
      first_turn (Some b) (as_path A E p) (v.Macro (macro_type_of (macro_of p (bang_at a) (w, t)))) l (mark (punct 33 j a) (group d s c k)) k f e sc lim (a_first_for y (call_path part p m (mark (punct 33 j a) (group d s c k)) i) n z)
      (bang_stops a j d s c k) (bang_no_pound a j d s c k) (λ q. call_goes r plus (Some b) p a j w d s c k t f q sc g h)

  -- ---- trait objects without `dyn`

  first_light : (o : For) (p : Path A E) (l m : Toks) → IsFirst part clearly o p l m → weight m ≤ weight l
  first_light None p l m (a_first i w) = (some (path_less part meets.firsts AsWritten p l m i)).light
  first_light (Some y) p l m (a_first_for {m = n} j i w c) = (no_no (some (for_less part meets.firsts y l n j)) (some (path_less part meets.firsts AsWritten p n m i))).light

  first_life : (d : End) (xs : List (TypeParamBound A E)) (ps : List token.Plus) (l k : Toks) → sees_lifetime l ≡ true → AreBounds part clearly Object AfterMark true d xs ps l k → (y : Lifetime) × (m : Toks) × IsLifetime y l m
  first_life d xs ps l k h (no_bounds a) = absurd a
  first_life d xs ps l k h (last_bound {e = e} {x = x} i) = let z = forms.life e x l k i h in (z.0, k, z.1)
  first_life d xs ps l k h (bound_and_plus {e = e} {x = x} {m = m} i o j q) = let z = forms.life e x l m i h in (z.0, m, z.1)

  object_turn : (d : End) (w : Many (TypeParamBound A E) token.Plus) (l k : Toks) (f : Option Span) (e : Span) (sc : Scope) → ahead (at l f e sc) ≤ limit → AreBareBounds part clearly place d w l k → Fits d k → token.sees_pound k ≡ false →
      (plus ≡ true → token.sees_plus k ≡ false) → OneTurn (object_of w) l k f e sc
  object_turn d w l k f e sc lim (path_alone {x = y} {p = p} i) fits np no_plus =
      first_turn (Some y) p (object_of w) l k k f e sc lim i (path_stops k fits.stops) np (λ q. lone_goes r plus y p k f q sc fits.stops.no_call (no_plus_follows plus k no_plus))
  object_turn d w l k f e sc lim (path_and_plus {o = o} {p = p} {c = c} {xs = xs} {ps = ps} {m = m} {n = n} g i j q) fits np no_plus =
      let stops = plus_stops c m n j in
      first_turn o p (object_of w) l m k f e sc lim i (path_stops m stops) (plus_no_pound c m n j)
      (λ z. object_goes r plus o p (object_of w) m k f z sc stops.no_call (ap (λ b. plus_follows b m) g ∙ plus_there c m n j)
      (subst (λ b. Reads_to (reading.path_object r b o p) (object_of w) m k f z sc) (sym g) (path_object_met r part limit meets d o p c xs ps m n k f z sc (left_after l m f f e z sc limit (first_light o p l m i) lim) j q fits)))
  object_turn d w l k f e sc lim (held_and_plus {o = o} {p = p} {s = s} {k = a} {xs = xs} {ps = ps} {c = c} {m = m} {n = n} g i j q) fits np no_plus =
      paren_turn attrs values r place (object_of w) s c m k f e sc (forms.held_and_plus plus g d o p s a xs ps c m n k f e sc lim i j q fits)
  object_turn d w l k f e sc lim (asked_first {q = q} {p = p} {s = s} {xs = xs} {ps = ps} {c = c} {m = m} i j) fits np no_plus =
      paren_turn attrs values r place (object_of w) s c m k f e sc (forms.asked_first plus d q p s xs ps c m k f e sc lim i j fits)
  object_turn d w l k f e sc lim (asked_in_two {q = q} {p = p} {s = s} {i = t} {k = a} {xs = xs} {ps = ps} {c = c} {m = m} {n = n} g i j y) fits np no_plus =
      paren_turn attrs values r place (object_of w) s (group Parenthesis t c done) m k f e sc (forms.asked_in_two plus g d q p s t a xs ps c m n k f e sc lim i j y fits)
  object_turn d w l k f e sc lim (lifetime_first {xs = xs} {ps = ps} g i n) fits np no_plus =
      let y = first_life d xs ps l k g i in
      lifetime_turn attrs values r place w y.0 l y.1 k f e sc y.2 (forms.lifetime d xs ps l k f e sc lim g i n fits)

  -- ---- pointers to functions

  fn_turn : (d : End) (x : TypeFnPtr A E) (l k : Toks) (f : Option Span) (e : Span) (sc : Scope) → ahead (at l f e sc) ≤ limit → IsFnPtr part clearly d x l k → Fits d k → OneTurn (v.FnPtr x) l k f e sc
  fn_turn d x l k f e sc lim (a_fn_ptr {b = b} {u = u} {i = i} {w = w} {s = s} {v = y} {d = z} {o = o} {m = m} {n = n} {k = q} {c = c} {j = j} g h a t is out) fits =
      let begins = fn_begins u i w m n q (group Parenthesis s c j) h a t in
      perhaps_bound attrs values r part limit meets.firsts forms.binder place (v.FnPtr x) b l m k f e sc lim g begins.name (λ p. begins.bindable)
      (λ p. by_fn attrs values r part limit meets.firsts forms.binder place (position (at l f e sc)) b x m k f p sc begins.no_binder begins.sees
      (forms.fn_ptr d b u i w s y z o m n q c j k f p sc (left_after l m f f e p sc limit (for_light b l m g) lim) h a t is out fits))

  -- ---- what is held verbatim

  verbatim_turn : (d : End) (t : TokenStream) (l k : Toks) (f : Option Span) (e : Span) (sc : Scope) → ahead (at l f e sc) ≤ limit → IsVerbatimType part clearly place d l k → Holds t l k → Fits d k → (plus ≡ true → token.sees_plus k ≡ false) →
      OneTurn (v.Verbatim t) l k f e sc
  verbatim_turn d t l k f e sc lim (an_unsafe_binder {b = b} {u = u} {o = o} {xs = xs} {cs = cs} {g = g} {x = x} {m = m} {n = n} {k = q} {j = j} {i = i} a h p y z is) holds fits no_plus =
      let sees = unsafe_seen u o m n q h p in
      perhaps_bound attrs values r part limit meets.firsts forms.binder place (v.Verbatim t) b l m k f e sc lim a (unsafe_begins u m n h) (λ c. sees.1)
      (λ c. by_unsafe attrs values r part limit meets.firsts forms.binder place (position (at l f e sc)) b (v.Verbatim t) m k f c sc sees.0
      (unsafe_met r part limit meets place d t u o xs cs g x l m n q j i k f e c sc (left_after l m f f e c sc limit (for_light b l m a) lim) h p y z is fits no_plus holds))
  verbatim_turn d t l k f e sc lim (a_dyn_star {w = w} {s = s} {v = y} {m = m} {n = n} i j a) holds fits no_plus =
      dyn_turn attrs values r place (v.Verbatim t) w l m k f e sc i (forms.dyn_star place d t w s y l m n k f e sc lim i j a holds fits)
  verbatim_turn d t l k f e sc lim (a_builtin {b = b} {w = w} {i = i} {p = p} {s = s} {m = m} {c = c} a h j g) holds fits no_plus =
      let begins = builtin_begins w m h in
      let sees = builtin_seen w p m (word i (group Parenthesis s c k)) h j in
      perhaps_bound attrs values r part limit meets.firsts forms.binder place (v.Verbatim t) b l (word w m) k f e sc lim a begins.name (λ q. begins.bindable (word_no_sep w m) (word_no_lt w m))
      (λ q. by_builtin attrs values r part limit meets.firsts forms.binder place (position (at l f e sc)) b (v.Verbatim t) (word w m) m k f q sc begins sees (builtin_type_met t w i p s l m c k f e q sc j g holds))

  -- ---- forms by their first words, marks and groups

  dyn_object_turn : (d : End) (x : TypeTraitObject A E) (l k : Toks) (f : Option Span) (e : Span) (sc : Scope) → ahead (at l f e sc) ≤ limit → IsDyn part clearly place d x l k → Fits d k → OneTurn (v.TraitObject x) l k f e sc
  dyn_object_turn d x l k f e sc lim (a_dyn {w = w} {m = m} i j) fits = dyn_turn attrs values r place (v.TraitObject x) w l m k f e sc i (forms.dyn place d x l k f e sc lim (a_dyn i j) fits)

  impl_type_turn : (d : End) (x : TypeImplTrait A E) (l k : Toks) (f : Option Span) (e : Span) (sc : Scope) → ahead (at l f e sc) ≤ limit → IsImpl part clearly place d x l k → Fits d k → OneTurn (v.ImplTrait x) l k f e sc
  impl_type_turn d x l k f e sc lim (an_impl {w = w} {m = m} i j n) fits = impl_turn attrs values r place x w l m k f e sc i (forms.impl place d x l k f e sc lim (an_impl i j n) fits)

  pointer_turn : (d : End) (x : TypePtr A E) (l k : Toks) (f : Option Span) (e : Span) (sc : Scope) → ahead (at l f e sc) ≤ limit → IsPointer part clearly d x l k → Fits d k → OneTurn (v.Ptr x) l k f e sc
  pointer_turn d x l k f e sc lim (a_pointer {s = s} {m = m} i j h) fits = star_turn attrs values r place x s l m k f e sc i (forms.pointer d x l k f e sc lim (a_pointer i j h) fits)

  borrow_turn : (d : End) (x : TypeReference A E) (l k : Toks) (f : Option Span) (e : Span) (sc : Scope) → ahead (at l f e sc) ≤ limit → IsBorrow part clearly d x l k → Fits d k → OneTurn (v.Reference x) l k f e sc
  borrow_turn d x l k f e sc lim (a_borrow {a = a} {m = m} i h j) fits = and_turn attrs values r place x a l m k f e sc i (forms.borrow d x l k f e sc lim (a_borrow i h j) fits)
  borrow_turn d x l k f e sc lim (a_mutable_borrow {a = a} {m = m} i h j) fits = and_turn attrs values r place x a l m k f e sc i (forms.borrow d x l k f e sc lim (a_mutable_borrow i h j) fits)
  borrow_turn d x l k f e sc lim (a_lifetime_borrow {a = a} {m = m} i h g j) fits = and_turn attrs values r place x a l m k f e sc i (forms.borrow d x l k f e sc lim (a_lifetime_borrow i h g j) fits)

  enclosed_turn : (x : TypeParen A E) (l k : Toks) (f : Option Span) (e : Span) (sc : Scope) → ahead (at l f e sc) ≤ limit → IsEnclosed part clearly Plus x l k → (plus ≡ true → token.sees_plus k ≡ false) → OneTurn (v.Paren x) l k f e sc
  enclosed_turn x l k f e sc lim (enclosed {s = s} {c = c} i) no_plus = paren_turn attrs values r place (v.Paren x) s c k k f e sc (forms.enclosed plus x l k f e sc lim (enclosed i) no_plus)

  tupled_turn : (x : TypeTuple A E) (l k : Toks) (f : Option Span) (e : Span) (sc : Scope) → ahead (at l f e sc) ≤ limit → IsTupled part clearly NoLifetime x l k → OneTurn (v.Tuple x) l k f e sc
  tupled_turn x l k f e sc lim (no_element {s = s}) = paren_turn attrs values r place (v.Tuple x) s done k k f e sc (forms.tupled plus x l k f e sc lim no_element)
  tupled_turn x l k f e sc lim (some_elements {s = s} {c = c} g i j h) = paren_turn attrs values r place (v.Tuple x) s c k k f e sc (forms.tupled plus x l k f e sc lim (some_elements g i j h))

  slice_turn : (x : TypeSlice A E) (l k : Toks) (f : Option Span) (e : Span) (sc : Scope) → ahead (at l f e sc) ≤ limit → IsBracketed part clearly x l k → OneTurn (v.Slice x) l k f e sc
  slice_turn x l k f e sc lim (bracketed {s = s} {c = c} i) = bracket_turn attrs values r place (v.Slice x) s c k k f e sc (forms.slice x l k f e sc lim (bracketed i))

  array_turn : (x : TypeArray A E) (l k : Toks) (f : Option Span) (e : Span) (sc : Scope) → ahead (at l f e sc) ≤ limit → IsCounted part clearly x l k → OneTurn (v.Array x) l k f e sc
  array_turn x l k f e sc lim (counted {s = s} {c = c} i j h) = bracket_turn attrs values r place (v.Array x) s c k k f e sc (forms.array x l k f e sc lim (counted i j h))

  infer_type_turn : (x : TypeInferOf A) (l k : Toks) (f : Option Span) (e : Span) (sc : Scope) → IsInfer x l k → OneTurn (v.Infer x) l k f e sc
  infer_type_turn x l k f e sc (an_infer {w = w} i) = infer_turn attrs values r place x w l k k f e sc i (infer_complete x l k f e sc (an_infer i))

  never_turn : (x : TypeNeverOf A) (l k : Toks) (f : Option Span) (e : Span) (sc : Scope) → IsNever true x l k → OneTurn (v.Never x) l k f e sc
  never_turn x l k f e sc (a_never {b = b} i) = bang_turn attrs values r place x b l k k f e sc i (never_complete x l k f e sc (a_never i))

  -- ---- all of them

  pub type_met : (d : End) (x : Tree) (l k : Toks) (f : Option Span) (e : Span) (sc : Scope) → ahead (at l f e sc) ≤ limit → IsType part clearly place d x l k → Fits d k → (plus ≡ true → token.sees_plus k ≡ false) → Reads_to (reading.type_step attrs values r place) x l k f e sc
  type_met d x l k f e sc lim (a_path_type {o = o} {p = p} i) fits no_plus = path_turn o p l k f e sc lim i.0 i.1 fits.stops fits.stops.no_pound no_plus
  type_met d x l k f e sc lim (a_macro_type {x = y} i) fits no_plus = call_turn y l k f e sc lim i.0 i.1
  type_met d x l k f e sc lim (a_bound_macro {b = b} {x = y} {m = m} i j h) fits no_plus = bound_call_turn b y l m k f e sc lim i j.0 j.1 h
  type_met d x l k f e sc lim (an_object_with_dyn {x = y} i) fits no_plus = dyn_object_turn d y l k f e sc lim i fits
  type_met d x l k f e sc lim (an_object_without_dyn {w = w} i) fits no_plus = object_turn d w l k f e sc lim i fits fits.stops.no_pound no_plus
  type_met d x l k f e sc lim (an_impl_type {x = y} i) fits no_plus = impl_type_turn d y l k f e sc lim i fits
  type_met d x l k f e sc lim (a_fn_type {x = y} i) fits no_plus = fn_turn d y l k f e sc lim i fits
  type_met d x l k f e sc lim (a_ptr_type {x = y} i) fits no_plus = pointer_turn d y l k f e sc lim i fits
  type_met d x l k f e sc lim (a_reference_type {x = y} i) fits no_plus = borrow_turn d y l k f e sc lim i fits
  type_met d x l k f e sc lim (a_paren_type {x = y} i) fits no_plus = enclosed_turn y l k f e sc lim i no_plus
  type_met d x l k f e sc lim (a_tuple_type {x = y} i) fits no_plus = tupled_turn y l k f e sc lim i
  type_met d x l k f e sc lim (a_slice_type {x = y} i) fits no_plus = slice_turn y l k f e sc lim i
  type_met d x l k f e sc lim (an_array_type {x = y} i) fits no_plus = array_turn y l k f e sc lim i
  type_met d x l k f e sc lim (an_infer_type {x = y} i) fits no_plus = infer_type_turn y l k f e sc i
  type_met d x l k f e sc lim (a_never_type {x = y} i) fits no_plus = never_turn y l k f e sc i
  type_met d x l k f e sc lim (a_verbatim_type {t = t} (i, h)) fits no_plus = verbatim_turn d t l k f e sc lim i h fits no_plus
