-- The bounds after `dyn` and `impl`, and those of a trait object without `dyn`, by itself or from a lifetime on, that a list spells clearly are what their reads answer; `dyn *` is held verbatim.
use Rattle.std.specs.List.{list_any}
use Rattle.std.proofs.lemmas.Bool.{eqb-true}
use Rattle.std.proofs.lemmas.Slice.Eq.{bytes_eq-Decides}
use Rattle.std.proofs.Common.{◌≡◌, ◌||◌, ◌==◌, ℕ, ◌<◌, ◌≤◌, Bool, true, false, List, [], Option, Some, None, Ok, refl, sym, ◌∙◌, ap, subst, arith}
use Rattle.syn_ty.proofs.ty_laws.words.Tokens.{Lifetime, Span, Ident, Punct, is_keyword, read_lifetime, sees_lifetime, AreListed, none_left, last_value, value_and_mark, Nowhere, AfterMark, Many, Item, Reader, ◌>>=◌, pure, here, is_text, sees_group, sees_mark, sees_word, IsMark, is_mark, last_char, more_chars, IsWord, is_word, is_lifetime, Scope, Stream, Bytes, Toks, done, word, mark, lit, group, enter, leave, TokenStream, punct}
use Rattle.syn_ty.proofs.ty_laws.words.Paths.{AsWritten}
use Rattle.syn_ty.proofs.ty_laws.words.Forms.{BoundPlace, Object, Opaque, TypePlace, sees_bound, stops_bound, is_bare_word, ahead, allows_const, allows_plus, position}
use Rattle.syn_ty.proofs.ty_laws.words.Types.{TraitBoundModifiers, AreModifiers, IsTrait, a_trait, a_trait_for, a_trait_asked, a_trait_bound, IsBound, a_lifetime_bound, a_bare_bound, a_bound_in_parens, a_capture_bound, AreBounds, bound_step, a_binder, Sep, AreSigned, IsBoundPath, a_signed, signed_after, signed_last, with_parens, without_parens, is_segment_word, IsPath, IsSegment, a_path, a_word, a_word_with_arguments, IsBoundList, several_bounds, one_bound, AreObjectBounds, object_bounds, IsDyn, a_dyn, IsImpl, an_impl, IsObject, an_object, Manner, clearly, End, Holds, Parts, Readers, a_bound, is_trait, IsOptional, absent, present, BoundLifetimes, Path, PathSegment, TypeImplTrait, TypeParamBound, TypeTraitObject, trait_object_with}
use Rattle.token_core.specs.declared.error.ErrorKind.{ErrorKind}
use Rattle.token_core.specs.declared.error.ErrorKind.TheVariants.{NoTraitInImpl, NoTraitInObject}
use Rattle.token_core.specs.Tokens as token
use Rattle.token_core.proofs.MarkSpells.{mark_complete, mark_seen}
use Rattle.token_core.proofs.Steps.{link, chosen, Reads_to}
use Rattle.token_core.proofs.Took.{at, mapped}
use Rattle.token_core.proofs.Unseen.{no_mark-other}
use Rattle.token_core.proofs.WordSpells.{word_complete, word_seen}
use Rattle.syn_ty.specs.declared.generics.TypeParamBoundOf.TheVariants as b
use Rattle.syn_ty.specs.declared.ty.TypeOf.TheVariants as tree
use Rattle.syn_ty.specs.ty.Reading as reading
use Rattle.syn_ty.proofs.ty_laws.complete.BoundLists.{IsFurther, nothing_further, FirstOf, first_of, plus_stopped, bounds_met, one_bound_met, bounds_from_met}
use Rattle.syn_ty.proofs.ty_laws.complete.Capture.{since_met}
use Rattle.syn_ty.proofs.ty_laws.complete.Leaves.{later}
use Rattle.syn_ty.proofs.ty_laws.complete.Less.{mark_no, word_takes}
use Rattle.syn_ty.proofs.ty_laws.complete.Within.{Fits, Meets}
use Rattle.syn_ty.proofs.ty_laws.complete.Modifiers.{modifiers_begin}

-- ---- no `*` stands where a bound begins

star_no_bound : (consts : Bool) (p : Punct) (k : Toks) → p.ch ≡ 42 → sees_bound consts (mark p k) ≡ true → token.sees_star (mark p k) ≡ false
unfolding sees_bound sees_mark sees_word sees_lifetime sees_group
star_no_bound true p k e h = let g : sees_bound true (mark p k) ≡ false = ap (λ n. sees_bound true (mark (punct n p.spacing p.span) k)) e in cc (sym h ∙ g)
star_no_bound false p k e h = let g : sees_bound false (mark p k) ≡ false = ap (λ n. sees_bound false (mark (punct n p.spacing p.span) k)) e in cc (sym h ∙ g)

no_star-mark : (consts : Bool) (p : Punct) (k : Toks) (b : Bool) → (p.ch == 42) ≡ b → sees_bound consts (mark p k) ≡ true → token.sees_star (mark p k) ≡ false
no_star-mark consts p k true e h = star_no_bound consts p k (eqb-true p.ch 42 e) h
no_star-mark consts p k false e h = no_mark-other 42 [] p k e

pub no_star : (consts : Bool) (l : Toks) → sees_bound consts l ≡ true → token.sees_star l ≡ false
unfolding sees_bound sees_mark sees_word sees_lifetime sees_group
no_star consts done h = refl
no_star consts (word i k) h = refl
no_star consts (mark p k) h = no_star-mark consts p k (p.ch == 42) refl h
no_star consts (lit x k) h = refl
no_star consts (group d s c k) h = refl
no_star consts (enter s k) h = no_star consts k h
no_star consts (leave k) h = no_star consts k h

-- ---- lists of bounds after `dyn` and `impl`

-- by their first bound, after which the others are read, with plus or without
abbrev pub Heads : {A E : Type 0} → (Manner → Parts A E) → BoundPlace → Bool → Many (TypeParamBound A E) token.Plus → Toks → Toks → Type 0
Heads part kind = FirstOf part kind AfterMark (stops_bound (allows_const kind))

module _ {A E : Type 0} (part : Manner → Parts A E) (place : TypePlace) (kind : BoundPlace) where
  pub list_heads : (plus : Bool) → allows_plus place ≡ plus → (d : End) (v : Many (TypeParamBound A E) token.Plus) (l k : Toks) → IsBoundList part clearly place kind d v l k → Fits d k → Heads part kind plus v l k
  list_heads true a d v l k (several_bounds {xs = xs} {ps = ps} h i) o = first_of part kind AfterMark (stops_bound (allows_const kind)) true d xs ps l k (λ n. n) refl i (plus_stopped part kind true d k o)
  list_heads true a d v l k (one_bound h i) o = cc (sym a ∙ h)
  list_heads false a d v l k (several_bounds h i) o = cc (sym a ∙ h)
  list_heads false a d v l k (one_bound {x = x} h i) o = record { end = d; bound = x; middle = k; spelt = i; fits = o; rest = nothing_further refl }

module _ {A E : Type 0} (r : Readers A E) (part : Manner → Parts A E) (limit : ℕ) (meets : Meets r part limit) where
  abbrev Bound : Type 0
  Bound = TypeParamBound A E

  abbrev Bounds : Type 0
  Bounds = Many Bound token.Plus

  -- bounds of which one is as it is needed are kept
  pub needs_met : (test : Bound → Bool) (kind : ErrorKind) (from : Span) (v : Bounds) (s : Stream) → list_any test v.0 ≡ true → reading.needs test kind from v s ≡ Ok (v, s)
  unfolding reading.needs
  needs_met test kind from v s h = chosen (list_any test v.0) true _ _ s _ h refl

  -- after a first bound
  pub object_bounds_met : (plus : Bool) (from : Span) (x : Bound) (v : Bounds) (l k : Toks) (f : Option Span) (e : Span) (sc : Scope) → ahead (at l f e sc) ≤ limit →
      IsFurther part Object AfterMark (stops_bound false) plus x v l k → list_any is_trait v.0 ≡ true → Reads_to (reading.object_bounds r from plus x) v l k f e sc
  unfolding reading.object_bounds
  object_bounds_met plus from x v l k f e sc h i n =
      let q = bounds_from_met r part limit meets Object plus x v l k f e sc h i in
      record { last = q.last; reads = link _ q.reads (needs_met is_trait NoTraitInObject from v (at k f q.last sc) n) }

  -- after a bound no more is left than before it
  after_bound : (d : End) (x : Bound) (kind : BoundPlace) (l m : Toks) (f g : Option Span) (a e : Span) (sc : Scope) → (part clearly).bound kind d x l m → ahead (at l f a sc) ≤ limit → ahead (at m g e sc) ≤ limit
  after_bound d x kind l m f g a e sc i h = let less = (meets.firsts.bound kind d x l m i).1.lighter in let w = later l m f g a e sc limit less h in omega (arith, w)

  -- the bounds after `impl`
  pub opaque_bounds_met : (plus : Bool) (place : TypePlace) → allows_plus place ≡ plus → (d : End) (v : Bounds) (l k : Toks) (f : Option Span) (e : Span) (sc : Scope) → ahead (at l f e sc) < limit →
      IsBoundList part clearly place Opaque d v l k → Fits d k → Reads_to (reading.opaque_bounds r plus) v l k f e sc
  unfolding reading.opaque_bounds
  opaque_bounds_met true place a d v l k f e sc h (several_bounds {xs = xs} {ps = ps} g j) o = bounds_met r part limit meets Opaque d xs ps l k f e sc h j o
  opaque_bounds_met true place a d v l k f e sc h (one_bound g j) o = cc (sym a ∙ g)
  opaque_bounds_met false place a d v l k f e sc h (several_bounds g j) o = cc (sym a ∙ g)
  opaque_bounds_met false place a d v l k f e sc h (one_bound {x = x} g j) o = one_bound_met r part limit meets Opaque d x l k f e sc h j o

  module _ (plus : Bool) (place : TypePlace) (as_plus : allows_plus place ≡ plus) where
    -- bounds of which one names a trait, by the first one
    record Objects (v : Bounds) (l k : Toks) : Type 0 where
      heads : Heads part Object plus v l k
      named : list_any is_trait v.0 ≡ true

    objects : (d : End) (v : Bounds) (l k : Toks) → AreObjectBounds part clearly place d v l k → Fits d k → Objects v l k
    objects d v l k (object_bounds i n) o = record { heads = list_heads part place Object plus as_plus d v l k i o; named = n }

    -- where the first one is read, so are all of them, and what goes on goes on after them
    objects_then : {B : Type 0} (first : Reader Bound) (from : Span) (g : Bounds → Reader B) (v : Bounds) (l k : Toks) (f : Option Span) (e : Span) (sc : Scope) → ahead (at l f e sc) ≤ limit → (a : Objects v l k) →
        Reads_to first a.heads.bound l a.heads.middle f e sc → (last : Span) × ((first >>= (λ x. reading.object_bounds r from plus x >>= g)) (at l f e sc) ≡ g v (at k f last sc))
    objects_then first from g v l k f e sc h a q =
        let c = a.heads in
        let p = object_bounds_met plus from c.bound v c.middle k f q.last sc (after_bound c.end c.bound Object l c.middle f f e q.last sc c.spelt h) c.rest a.named in
        (p.last, link _ q.reads (link _ p.reads refl))

    -- ---- `dyn`

    no_star_met : (x : Bound) (d : End) (l m : Toks) (f : Option Span) (e : Span) (sc : Scope) → (part clearly).bound Object d x l m → reading.optional_star (at l f e sc) ≡ Ok (None, at l f e sc)
    unfolding reading.optional_star
    no_star_met x d l m f e sc i = chosen (token.sees_star l) false _ _ (at l f e sc) _ (no_star false l (meets.firsts.bound Object d x l m i).0.sees) refl

    star_met : (x : token.Star) (l m : Toks) (f : Option Span) (e : Span) (sc : Scope) → IsMark true x l m → Reads_to reading.optional_star (Some x) l m f e sc
    unfolding reading.optional_star
    star_met x l m f e sc i =
        let q = mark_complete true {n = 26} {k = 1} refl (omega arith) x l m f e sc i in
        record { last = q.last; reads = chosen (token.sees_star l) true _ _ (at l f e sc) _ (mark_seen true {n = 26} {k = 1} x l m i) (link _ q.reads refl) }

    -- what stands after `dyn` and perhaps `*`
    after_dyn : (at_first : List Item) (from : Span) (w : token.Dyn) (s : Option token.Star) (v : Bounds) (l k : Toks) (f : Option Span) (e : Span) (sc : Scope) → ahead (at l f e sc) < limit → (a : Objects v l k) →
        (last : Span) × ((r (a_bound Object) >>= (λ x. reading.object_bounds r from plus x >>= (λ y. reading.dyn_of at_first w s y))) (at l f e sc) ≡ reading.dyn_of at_first w s v (at k f last sc))
    after_dyn at_first from w s v l k f e sc h a =
        objects_then (r (a_bound Object)) from (λ y. reading.dyn_of at_first w s y) v l k f e sc (omega (arith, h)) a (meets.bound Object a.heads.end a.heads.bound l a.heads.middle f e sc h a.heads.spelt a.heads.fits)

    pub dyn_met : (d : End) (x : TypeTraitObject A E) (l k : Toks) (f : Option Span) (e : Span) (sc : Scope) → ahead (at l f e sc) ≤ limit → IsDyn part clearly place d x l k → Fits d k →
        Reads_to (reading.dyn_type r plus) (tree.TraitObject x) l k f e sc
    unfolding reading.dyn_type reading.dyn_of
    dyn_met d x l k f e sc h (a_dyn {w = w} {v = v} {m = m} i j) o =
        let a = objects d v m k j o in
        let u = word_complete {n = 7} w l m f e sc i in
        let q = after_dyn (position (at l f e sc)) (here (at l f e sc)) w None v m k f u.last sc (later l m f f e u.last sc limit (word_takes w l m i).lighter h) a in
        record { last = q.0; reads = link _ u.reads (link _ (no_star_met a.heads.bound a.heads.end m a.heads.middle f u.last sc a.heads.spelt) q.1) }

    held_met : (w : token.Dyn) (s : token.Star) (v : Bounds) (x : TokenStream) (l k : Toks) (f : Option Span) (e a : Span) (sc : Scope) → Holds x l k →
        reading.dyn_of (position (at l f e sc)) w (Some s) v (at k f a sc) ≡ Ok (tree.Verbatim x, at k f a sc)
    unfolding reading.dyn_of
    held_met w s v x l k f e a sc g = link _ (since_met x l k f f e a sc g) refl

    -- with a `*`, held verbatim
    pub dyn_star_met : (d : End) (x : TokenStream) (w : token.Dyn) (s : token.Star) (v : Bounds) (l m n k : Toks) (f : Option Span) (e : Span) (sc : Scope) → ahead (at l f e sc) ≤ limit →
        IsWord w l m → IsMark true s m n → AreObjectBounds part clearly place d v n k → Holds x l k → Fits d k → Reads_to (reading.dyn_type r plus) (tree.Verbatim x) l k f e sc
    unfolding reading.dyn_type
    dyn_star_met d x w s v l m n k f e sc h i t j g o =
        let u = word_complete {n = 7} w l m f e sc i in
        let y = star_met s m n f u.last sc t in
        let lighter = (word_takes w l m i).lighter in
        let light = (mark_no s m n t).light in
        let q = after_dyn (position (at l f e sc)) (here (at l f e sc)) w (Some s) v n k f y.last sc (later l n f f e y.last sc limit (omega (arith, lighter, light)) h) (objects d v n k j o) in
        record { last = q.0; reads = link _ u.reads (link _ y.reads (q.1 ∙ held_met w s v x l k f e q.0 sc g)) }

    -- ---- `impl`

    pub impl_met : (d : End) (x : TypeImplTrait A E) (l k : Toks) (f : Option Span) (e : Span) (sc : Scope) → ahead (at l f e sc) ≤ limit → IsImpl part clearly place d x l k → Fits d k → Reads_to (reading.impl_trait r plus) x l k f e sc
    unfolding reading.impl_trait reading.impl_bounds
    impl_met d x l k f e sc h (an_impl {w = w} {v = v} {m = m} i j n) o =
        let u = word_complete {n = 12} w l m f e sc i in
        let q = opaque_bounds_met plus place as_plus d v m k f u.last sc (later l m f f e u.last sc limit (word_takes w l m i).lighter h) j o in
        let p : reading.impl_bounds r (here (at l f e sc)) plus (at m f u.last sc) ≡ Ok (v, at k f q.last sc) = link _ q.reads (needs_met is_trait NoTraitInImpl (here (at l f e sc)) v (at k f q.last sc) n) in
        record { last = q.last; reads = link _ u.reads (link _ p refl) }

    -- ---- a trait object by itself: its first bound is read by a turn, and does not begin with `dyn`

    no_dyn_met : (l : Toks) (f : Option Span) (e : Span) (sc : Scope) → token.sees_dyn l ≡ false → reading.optional_dyn (at l f e sc) ≡ Ok (None, at l f e sc)
    unfolding reading.optional_dyn
    no_dyn_met l f e sc h = chosen (token.sees_dyn l) false _ _ (at l f e sc) _ h refl

    some_dyn_met : (w : token.Dyn) (l m : Toks) (f : Option Span) (e : Span) (sc : Scope) → IsWord w l m → Reads_to reading.optional_dyn (Some w) l m f e sc
    unfolding reading.optional_dyn
    some_dyn_met w l m f e sc i =
        let q = word_complete {n = 7} w l m f e sc i in
        record { last = q.last; reads = chosen (token.sees_dyn l) true _ _ (at l f e sc) _ (word_seen {n = 7} w l m i) (link _ q.reads refl) }

    module _ (first : Reader Bound)
        (reads_first : (d : End) (x : Bound) (l k : Toks) (f : Option Span) (e : Span) (sc : Scope) → ahead (at l f e sc) ≤ limit → (part clearly).bound Object d x l k → Fits d k → Reads_to first x l k f e sc)
        (no_dyn : (d : End) (x : Bound) (l k : Toks) → (part clearly).bound Object d x l k → token.sees_dyn l ≡ false) where
      abbrev after_dyn_of : Option token.Dyn → Bounds → TypeTraitObject A E
      after_dyn_of w v = trait_object_with [] w v

      after_word : (w : Option token.Dyn) (from : Span) (v : Bounds) (l k : Toks) (f : Option Span) (e : Span) (sc : Scope) → ahead (at l f e sc) ≤ limit → (a : Objects v l k) →
          Reads_to (first >>= (λ x. reading.object_bounds r from plus x >>= (λ y. pure (after_dyn_of w y)))) (after_dyn_of w v) l k f e sc
      after_word w from v l k f e sc h a =
          let q = objects_then first from (λ y. pure (after_dyn_of w y)) v l k f e sc h a (reads_first a.heads.end a.heads.bound l a.heads.middle f e sc h a.heads.spelt a.heads.fits) in
          record { last = q.0; reads = q.1 }

      pub object_met : (x : TypeTraitObject A E) (l k : Toks) (f : Option Span) (e : Span) (sc : Scope) → ahead (at l f e sc) ≤ limit → IsObject part clearly place x l k → ((d : End) → Fits d k) →
          Reads_to (reading.trait_object r first plus) x l k f e sc
      unfolding reading.trait_object
      object_met x l k f e sc h (an_object {e = d} {w = w} {v = v} absent j) o =
          let a = objects d v l k j (o d) in
          let q = after_word None (here (at l f e sc)) v l k f e sc h a in
          record { last = q.last; reads = link _ (no_dyn_met l f e sc (no_dyn a.heads.end a.heads.bound l a.heads.middle a.heads.spelt)) q.reads }
      object_met x l k f e sc h (an_object {e = d} {v = v} {m = m} (present {a = w} i) j) o =
          let u = some_dyn_met w l m f e sc i in
          let less = later l m f f e u.last sc limit (word_takes w l m i).lighter h in
          let q = after_word (Some w) (here (at l f e sc)) v m k f u.last sc (omega (arith, less)) (objects d v m k j (o d)) in
          record { last = q.last; reads = link _ u.reads q.reads }

  -- ---- one that begins with a lifetime: the first bound is read by a turn

  module _ (reads_first : (d : End) (x : Bound) (l k : Toks) (f : Option Span) (e : Span) (sc : Scope) → ahead (at l f e sc) ≤ limit → (part clearly).bound Object d x l k → Fits d k → Reads_to (bound_step r Object) x l k f e sc) where
    -- a bound that begins with a lifetime is one
    record Lived (x : Bound) (l k : Toks) (f : Option Span) (e : Span) (sc : Scope) : Type 0 where
      lifetime : Lifetime
      last : Span
      was : read_lifetime (at l f e sc) ≡ Ok (lifetime, at k f last sc)
      is : b.Lifetime lifetime ≡ x

    lived : (d : End) (x : Bound) (l k : Toks) (f : Option Span) (e : Span) (sc : Scope) → ahead (at l f e sc) ≤ limit → (part clearly).bound Object d x l k → Fits d k → sees_lifetime l ≡ true → Lived x l k f e sc
    unfolding bound_step
    lived d x l k f e sc h i o g =
        let q = reads_first d x l k f e sc h i o in
        let p = mapped (read_lifetime (at l f e sc)) b.Lifetime x (at k f q.last sc) (sym (chosen (sees_lifetime l) true _ _ (at l f e sc) _ g refl) ∙ q.reads) in
        record { lifetime = p.value; last = q.last; was = p.was; is = p.is }

    lived_met : (x : Bound) (v : Bounds) (l m k : Toks) (f : Option Span) (e : Span) (sc : Scope) → (y : Lived x l m f e sc) → ahead (at m f y.last sc) ≤ limit → IsFurther part Object AfterMark (stops_bound false) true x v m k →
        list_any is_trait v.0 ≡ true → Reads_to (reading.lifetime_object r) v l k f e sc
    unfolding reading.lifetime_object
    lived_met x v l m k f e sc y h i n =
        let q = object_bounds_met true (here (at l f e sc)) (b.Lifetime y.lifetime) v m k f y.last sc h (subst (λ z. IsFurther part Object AfterMark (stops_bound false) true z v m k) (sym y.is) i) n in
        record { last = q.last; reads = link _ y.was q.reads }

    pub lifetime_met : (d : End) (xs : List Bound) (ps : List token.Plus) (l k : Toks) (f : Option Span) (e : Span) (sc : Scope) → ahead (at l f e sc) ≤ limit → sees_lifetime l ≡ true →
        AreBounds part clearly Object AfterMark true d xs ps l k → list_any is_trait xs ≡ true → Fits d k → Reads_to (reading.lifetime_object r) (xs, ps) l k f e sc
    lifetime_met d xs ps l k f e sc h g i n o =
        let c = first_of part Object AfterMark (stops_bound false) true d xs ps l k (λ z. z) refl i (plus_stopped part Object true d k o) in
        let y = lived c.end c.bound l c.middle f e sc h c.spelt c.fits g in
        lived_met c.bound (xs, ps) l c.middle k f e sc y (after_bound c.end c.bound Object l c.middle f f e y.last sc c.spelt h) c.rest n

-- ---- no bound begins with `dyn`

dyn_apart : (t : Bytes) (c : Bool) → is_text token.dyn_text t ≡ c → is_segment_word t ≡ true → is_text token.dyn_text t ≡ false
unfolding is_keyword
dyn_apart t true h g = let n : is_segment_word t ≡ false = ap is_segment_word ((bytes_eq-Decides t token.dyn_text).0 h) in cc (sym g ∙ n)
dyn_apart t false h g = h

segment_no_dyn : (i : Ident) (k : Toks) → is_segment_word i.text ≡ true → token.sees_dyn (word i k) ≡ false
unfolding sees_word
segment_no_dyn i k h = dyn_apart i.text (is_text token.dyn_text i.text) refl h

sep_no_dyn : (c : Sep) (l m : Toks) → IsMark true c l m → token.sees_dyn l ≡ false
unfolding sees_word
sep_no_dyn c l m (is_mark (more_chars y)) = refl

question_no_dyn : (q : token.Question) (l m : Toks) → IsMark true q l m → token.sees_dyn l ≡ false
unfolding sees_word
question_no_dyn q l m (is_mark (last_char y)) = refl

modifiers_no_dyn : (consts : Bool) (x : TraitBoundModifiers) (l m : Toks) → AreModifiers consts x l m → token.sees_dyn m ≡ false → token.sees_dyn l ≡ false
unfolding sees_word
modifiers_no_dyn consts = modifiers_begin consts (λ l. token.sees_dyn l ≡ false) const_no_dyn (λ s c k h. refl) async_no_dyn
  where
    const_no_dyn : (w : token.Const) (l m : Toks) → IsWord w l m → token.sees_dyn l ≡ false
    const_no_dyn w l m is_word = refl

    async_no_dyn : (w : token.Async) (l m : Toks) → IsWord w l m → token.sees_dyn l ≡ false
    async_no_dyn w l m is_word = refl

leading_no_dyn : (o : Option Sep) (l m : Toks) → IsOptional (IsMark true) o l m → token.sees_dyn m ≡ false → token.sees_dyn l ≡ false
leading_no_dyn o l m absent h = h
leading_no_dyn o l m (present {a = c} i) h = sep_no_dyn c l m i

module _ {A E : Type 0} (part : Manner → Parts A E) where
  named_no_dyn : (x : PathSegment A E) (l m : Toks) → IsSegment part clearly AsWritten x l m → token.sees_dyn l ≡ false
  named_no_dyn x l m (a_word {i = i} h) = segment_no_dyn i m h
  named_no_dyn x l m (a_word_with_arguments {i = i} {l = n} h s z) = segment_no_dyn i n (ap (λ c. c || is_bare_word i.text) h)

  listed_no_dyn : (f : Bool) (xs : List (PathSegment A E)) (cs : List Sep) (l m : Toks) → AreListed (λ (_ : Bool). IsSegment part clearly AsWritten) (IsMark true) Nowhere f xs cs l m → token.sees_dyn l ≡ false
  listed_no_dyn f xs cs l m (none_left i) = absurd i
  listed_no_dyn f xs cs l m (last_value {x = x} i) = named_no_dyn x l m i
  listed_no_dyn f xs cs l m (value_and_mark {x = x} {m = k} i j n) = named_no_dyn x l k i

  signed_no_dyn : (e : End) (xs : List (PathSegment A E)) (cs : List Sep) (l m : Toks) → AreSigned part clearly e xs cs l m → token.sees_dyn l ≡ false
  signed_no_dyn e xs cs l m (signed_last (a_signed {i = i} {l = n} h j s)) = segment_no_dyn i n h
  signed_no_dyn e xs cs l m (signed_after {s = x} {m = k} i j n) = named_no_dyn x l k i

  path_no_dyn : (p : Path A E) (l m : Toks) → IsPath part clearly AsWritten p l m → token.sees_dyn l ≡ false
  path_no_dyn p l m (a_path {c = o} {xs = xs} {cs = cs} {m = k} i n) = leading_no_dyn o l k i (listed_no_dyn true xs cs k m n)

  bound_path_no_dyn : (e : End) (p : Path A E) (l m : Toks) → IsBoundPath part clearly e p l m → token.sees_dyn l ≡ false
  bound_path_no_dyn e p l m (without_parens i) = path_no_dyn p l m i
  bound_path_no_dyn e p l m (with_parens {c = o} {xs = xs} {cs = cs} {m = k} i n) = leading_no_dyn o l k i (signed_no_dyn e xs cs k m n)

  trait_no_dyn : (consts : Bool) (e : End) (o : Option (BoundLifetimes A E)) (x : TraitBoundModifiers) (q : Option token.Question) (p : Path A E) (l m : Toks) → IsTrait part clearly consts e o x q p l m → token.sees_dyn l ≡ false
  unfolding sees_word
  trait_no_dyn consts e o x q p l m (a_trait {m = n} j i) = modifiers_no_dyn consts x l n j (bound_path_no_dyn e p n m i)
  trait_no_dyn consts e o x q p l m (a_trait_for (a_binder is_word i j n) k h) = refl
  trait_no_dyn consts e o x q p l m (a_trait_asked {q = y} {m = n} {n = k} j h i) = modifiers_no_dyn consts x l n j (question_no_dyn y n k h)

  pub bound_no_dyn : (e : End) (x : TypeParamBound A E) (l k : Toks) → IsBound part clearly Object e x l k → token.sees_dyn l ≡ false
  unfolding sees_word
  bound_no_dyn e x l k (a_lifetime_bound is_lifetime) = refl
  bound_no_dyn e x l k (a_bare_bound (a_trait_bound {o = o} {x = y} {q = q} {p = p} i)) = trait_no_dyn false e o y q p l k i
  bound_no_dyn e x l k (a_bound_in_parens i) = refl
  bound_no_dyn e x l k (a_capture_bound h i) = cc h
