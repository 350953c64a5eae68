-- Where a type begins with parentheses, it is spelt by the rules of the whole grammar: a type in parentheses, a tuple, or a trait object whose first bound stands in them.
use Rattle.std.proofs.Common.{◌≡◌, Bool, true, false, List, [], ◌∷◌, Option, Some, None, Ok, ◌⊎◌, inl, inr, refl, sym, ◌∙◌, ap, subst}
use Rattle.syn_ty.proofs.ty_laws.words.Tokens.{DelimSpan, Parenthesis, sees_lifetime, Nowhere, Many, never, Reader, in_group, is_done, leaves, Visible, IsMark, Stream, Toks, done, group}
use Rattle.syn_ty.proofs.ty_laws.words.Forms.{ParenContent, Object, Binder, TypePlace, Plus, more_elements, plus_follows, allows_plus}
use Rattle.syn_ty.proofs.ty_laws.words.Types.{AreBounds, IsTraitBound, held_bound, trait_in, IsType, NoLifetime, a_paren_type, a_tuple_type, an_object_without_dyn, enclosed, AreBareBounds, asked_first, asked_in_two, held_and_plus, none_further, some_further, Manner, loosely, End, closed, Parts, Readers, a_bound, a_type, first_bound, object_of, TraitBound, TypeParamBound, TypeTree, paren_of, tuple_of}
use Rattle.token_core.specs.Groups as groups
use Rattle.token_core.specs.Tokens as token
use Rattle.token_core.proofs.Took.{branch, mapped, took_all}
use Rattle.token_core.proofs.Turns.{chain, same_pair}
use Rattle.token_core.proofs.Unseen.{no_lifetime-done}
use Rattle.syn_path.proofs.Words.{TookOne}
use Rattle.syn_forms.specs.declared.groups.ParenContent.TheVariants as held
use Rattle.syn_forms.specs.groups.Reading as inner
use Rattle.syn_forms.specs.lists.Reading.{each_bound_from}
use Rattle.syn_forms.proofs.tokens_laws.Fronts.{took_whole}
use Rattle.syn_ty.specs.declared.generics.TypeParamBoundOf.TheVariants as b
use Rattle.syn_ty.specs.declared.ty.TypeOf.TheVariants as v
use Rattle.syn_ty.specs.ty.Parts.{opened}
use Rattle.syn_ty.specs.ty.Reading as reading
use Rattle.syn_ty.proofs.ty_laws.sound.Leaves as plain
use Rattle.syn_ty.proofs.ty_laws.sound.Calls.{and_second}
use Rattle.syn_ty.proofs.ty_laws.sound.FirstBound.{Further, Lone, first_took}
use Rattle.syn_ty.proofs.ty_laws.sound.FirstParts.{Starts, asked_of, starts_asked, starts_held, type_starts}
use Rattle.syn_ty.proofs.ty_laws.sound.Groups.{Elements, TypeAt, tupled_at}
use Rattle.syn_ty.proofs.ty_laws.sound.Paths.{and_first}
use Rattle.syn_ty.proofs.ty_laws.sound.Leaves.{IsHeld, held_sound, more_sound}
use Rattle.syn_ty.proofs.ty_laws.sound.Forms.{Told, both, never_open}
use Rattle.syn_ty.proofs.ty_laws.sound.Traits.{trait_in_took}
use Rattle.syn_ty.proofs.ty_laws.sound.TypePaths.{Onward}
use Rattle.syn_ty.proofs.ty_laws.sound.Within.{Held}

-- A trait object that begins with a lifetime is read in parentheses where a type is: so the parentheses hold a type of one turn, which the wider relations tell.
module _ {A E : Type 0} (r : Readers A E) (part over : Manner → Parts A E) (h : Held r part)
    (raised : (p : TypePlace) (e : End) (x : TypeTree A E) (l k : Toks) → IsType part loosely p e x l k → IsType over loosely p e x l k)
    (within : (e : End) (x : TypeTree A E) (l k : Toks) → IsType part loosely Plus e x l k → (over loosely).ty Plus e x l k)
    (wider : (e : End) (x : TypeTree A E) (l k : Toks) → (part loosely).ty Plus e x l k → IsType part loosely Plus e x l k)
    (took_lifetime : (p : TypePlace) (s t : Stream) (w : Many (TypeParamBound A E) token.Plus) → Visible s.rest → reading.lifetime_object r s ≡ Ok (w, t) → TookOne (Told (AreBareBounds part loosely p)) s t w) where
  abbrev Tree : Type 0
  Tree = TypeTree A E

  abbrev Bound : Type 0
  Bound = TypeParamBound A E

  abbrev Bounds : Type 0
  Bounds = Many Bound token.Plus

  abbrev Content : Type 0
  Content = ParenContent Tree Bounds (TraitBound A E)

  -- ---- what the parentheses hold

  IsContent : Content → Toks → Type 0
  IsContent (held.Elements w) l = Elements r part h w l × (sees_lifetime l ≡ false)
  IsContent (held.Object w) l = (e : End) × AreBareBounds part loosely Plus e w l done
  IsContent (held.Asked x) l = (e : End) × IsTraitBound part loosely false e x l done × (token.sees_question l ≡ true)
  IsContent (held.One x) l = (e : End) × (part loosely).ty Plus e x l done × (sees_lifetime l ≡ false)

  abbrev typ : Reader Tree
  typ = r (a_type Plus)

  elements_sound : (s t : Stream) (w : Content) → Visible s.rest → sees_lifetime s.rest ≡ false → inner.type_or_elements typ s ≡ Ok (w, t) → leaves t ≡ None → IsContent w s.rest
  unfolding IsContent
  elements_sound s t w u n e o =
      let c = chain (typ s) _ w t e in
      let k = h.ty Plus s c.rest c.value u c.was in
      elim (branch (token.sees_comma c.rest.rest) _ _ c.rest (Ok (w, t)) c.goes) [
        | inl y ↦ let f = mapped (more_elements typ c.value c.rest) held.Elements w t y.1 in
            let q = more_sound r (TypeAt r part h) h.ty c.value s.rest c.rest t f.value k.seen f.was o in
            subst (λ z. IsContent z s.rest) f.is (q.1 (k.spelt q.0), n)
        | inr y ↦ let q = same_pair (held.One c.value) w c.rest t y.1 in
            let i = took_whole {Is = Told ((part loosely).ty Plus)} s c.rest c.value k (ap leaves q.1 ∙ o) in
            subst (λ z. IsContent z s.rest) q.0 (i.0, i.1, n)
      ]

  content_sound : (s t : Stream) (w : Content) → Visible s.rest → reading.paren_content r s ≡ Ok (w, t) → leaves t ≡ None → IsContent w s.rest
  unfolding IsContent reading.paren_content inner.type_paren_content
  content_sound s t w u e o =
      elim (branch (is_done s.rest) _ _ s (Ok (w, t)) e) [
        | inl y ↦ let q = same_pair (held.Elements ([], [])) w s t y.1 in
            subst (λ z. IsContent z s.rest) q.0 (subst (λ z. IsContent (held.Elements ([], [])) z) (sym (took_all s u (ap leaves q.1 ∙ o))) (plain.no_elements, no_lifetime-done))
        | inr y ↦ elim (branch (sees_lifetime s.rest) _ _ s (Ok (w, t)) y.1) [
          | inl z ↦ let f = mapped (reading.lifetime_object r s) held.Object w t z.1 in
              let i = took_whole {Is = Told (AreBareBounds part loosely Plus)} s t f.value (took_lifetime Plus s t f.value u f.was) o in
              subst (λ d. IsContent d s.rest) f.is (i.0, i.1)
          | inr z ↦ elim (branch (token.sees_question s.rest) _ _ s (Ok (w, t)) z.1) [
            | inl d ↦ let f = mapped (trait_in r false s) held.Asked w t d.1 in
                let i = took_whole {Is = Told (IsTraitBound part loosely false)} s t f.value (trait_in_took r part h.ty (h.param Binder) h.arguments h.pair false s t f.value u f.was) o in
                subst (λ j. IsContent j s.rest) f.is (i.0, i.1, d.0)
            | inr d ↦ elements_sound s t w u z.0 d.1 o
          ]
        ]
      ]

  -- ---- what follows

  module _ (place : TypePlace) where
    abbrev Of : Tree → Toks → Toks → Type 0
    Of = Told (IsType part loosely place)

    abbrev Over : Tree → Toks → Toks → Type 0
    Over = Told (IsType over loosely place)

    over_is : (x : Tree) (l k : Toks) → Of x l k → Over x l k
    over_is x l k i = (i.0, raised place i.0 x l k i.1, i.2, i.3)

    abbrev Before : DelimSpan → Content → Toks → Toks → Type 0
    Before g w l m = IsHeld Parenthesis IsContent (g, w) l m

    -- it stands in the group that was read
    grouped : (g : DelimSpan) (x : Tree) (c l m k : Toks) → l ≡ group Parenthesis g c m → Of x (group Parenthesis g c m) k → Over x l k
    grouped g x c l m k e i = over_is x l k (subst (λ z. Of x z k) (sym e) i)

    -- the answer alone
    stays : (x y : Tree) (s t : Stream) (l : Toks) (B : Type 0) → Visible s.rest → (x ≡ y) × (s ≡ t) → (B → Over x l s.rest) → Onward B (Over y l t.rest) s t
    stays x y s t l B u q f = (
      λ n. ap (λ (d : Stream). d.left) q.1 ∙ n,
      subst (λ (d : Stream). Visible d.rest) q.1 u,
      λ n i. subst (λ d. Over d l t.rest) q.0 (subst (λ (d : Stream). Over x l d.rest) q.1 (f i)),
    )

    -- ---- a type in parentheses

    tuple_at : (g : DelimSpan) (w : Many Tree token.Comma) (l m : Toks) → Before g (held.Elements w) l m → Over (v.Tuple (tuple_of (groups.paren g) w)) l m
    unfolding IsContent
    tuple_at g w l m i =
        over_is (v.Tuple (tuple_of (groups.paren g) w)) l m (closed, a_tuple_type (tupled_at r part h NoLifetime g w i.content l m i.is i.holds.0 i.holds.1), never_open, never_open)

    object_at : (g : DelimSpan) (w : Bounds) (l m : Toks) → Before g (held.Object w) l m → Over (v.Paren (paren_of (groups.paren g) (object_of w))) l m
    unfolding IsContent
    object_at g w l m i =
        let c = within i.holds.0 (object_of w) i.content done (an_object_without_dyn i.holds.1) in
        (closed, subst (λ z. IsType over loosely place closed (v.Paren (paren_of (groups.paren g) (object_of w))) z m) (sym i.is) (a_paren_type (enclosed c)), never_open, never_open)

    one_at : (g : DelimSpan) (x : Tree) (l m : Toks) → Before g (held.One x) l m → Over (v.Paren (paren_of (groups.paren g) x)) l m
    unfolding IsContent
    one_at g x l m i = grouped g (v.Paren (paren_of (groups.paren g) x)) i.content l m m i.is (closed, a_paren_type (enclosed i.holds.1), never_open, never_open)

    -- ---- a trait object

    -- after the first bound each `+` has a further one
    never_ends : (c : Bool) (l : Toks) → never c l ≡ true → Nowhere c
    never_ends c l e = cc e

    never_word : {P : Type 0} (l : Toks) → never false l ≡ true → P
    never_word l e = cc e

    went : (x : Bound) (s t : Stream) (w : Bounds) → Visible s.rest → each_bound_from (r (a_bound Object)) x s ≡ Ok (w, t) → Further part Nowhere x s t w ⊎ Lone part Nowhere x s t w
    went x s t w u e = first_took part Nowhere r (h.bound Object) never never_ends (λ l. never_word l) x s t w u e

    asked_at : (g : DelimSpan) (x : TraitBound A E) (l m : Toks) → Before g (held.Asked x) l m → token.sees_plus m ≡ false → Over (object_of (b.Trait (held_bound (groups.paren g) x) ∷ [], [])) l m
    unfolding IsContent
    asked_at g x l m i n =
        let a = asked_of part g i.holds.0 x i.content i.holds.1 i.holds.2 in
        grouped g (object_of (b.Trait (held_bound (groups.paren g) x) ∷ [], [])) i.content l m m i.is
        (subst (λ z. Of (object_of (z ∷ [], [])) (group Parenthesis g i.content m) m) a.is (opened, an_object_without_dyn (asked_first a.spelt none_further), (λ q. n), λ q. cc q))

    asked_further : (g : DelimSpan) (x : TraitBound A E) (l : Toks) (s t : Stream) (w : Bounds) → Further part Nowhere (b.Trait (held_bound (groups.paren g) x)) s t w → Onward (Before g (held.Asked x) l s.rest) (Over (object_of w) l t.rest) s t
    unfolding IsContent
    asked_further g x l s t w f = (
      f.left,
      f.seen,
      λ n i.
          let o = f.spelt n in
          let a = asked_of part g i.holds.0 x i.content i.holds.1 i.holds.2 in
          subst (λ z. Over (object_of z) l t.rest) f.is (grouped g (object_of (b.Trait (held_bound (groups.paren g) x) ∷ f.others.0, f.plus ∷ f.others.1)) i.content l s.rest t.rest i.is
          (subst (λ z. Of (object_of (z ∷ f.others.0, f.plus ∷ f.others.1)) (group Parenthesis g i.content s.rest) t.rest) a.is
          (o.0, an_object_without_dyn (asked_first a.spelt (some_further f.mark o.1)), o.2, o.3))),
    )

    asked_took : (g : DelimSpan) (y : TraitBound A E) (l : Toks) (s t : Stream) (x : Tree) → Visible s.rest → reading.each_object_from r (b.Trait (held_bound (groups.paren g) y)) s ≡ Ok (x, t) →
        Onward (Before g (held.Asked y) l s.rest) (Over x l t.rest) s t
    asked_took g y l s t x u e =
        let first : Bound = b.Trait (held_bound (groups.paren g) y) in
        let f = mapped (each_bound_from (r (a_bound Object)) first s) object_of x t e in
        elim (went first s t f.value u f.was) [
          | inl k ↦ let w = asked_further g y l s t f.value k in (w.0, w.1, λ n i. subst (λ z. Over z l t.rest) f.is (w.2 n i))
          | inr k ↦ stays (object_of (first ∷ [], [])) x s t l (Before g (held.Asked y) l s.rest) u (ap object_of k.is ∙ f.is, k.stays) (λ i. asked_at g y l s.rest i k.no_plus)
        ]

    -- a type as the first bound
    starts_at : (g : DelimSpan) (y : Bound) (c : Toks) (k : token.Plus) (xs : List Bound) (ps : List token.Plus) (e : End) (m n j : Toks) → allows_plus place ≡ true → Starts part g y c → IsMark false k m n →
        AreBounds part loosely Object Nowhere false e xs ps n j → AreBareBounds part loosely place e (y ∷ xs, k ∷ ps) (group Parenthesis g c m) j
    starts_at g y c k xs ps e m n j a (starts_held i) q w = held_and_plus a i q w
    starts_at g y c k xs ps e m n j a (starts_asked i) q w = asked_in_two a i q w

    first_further : (g : DelimSpan) (z : Tree) (y : Bound) (l : Toks) (s t : Stream) (w : Bounds) → allows_plus place ≡ true → first_bound (groups.paren g) z ≡ Some y → Further part Nowhere y s t w →
        Onward (Before g (held.One z) l s.rest) (Over (object_of w) l t.rest) s t
    unfolding IsContent
    first_further g z y l s t w a q f = (
      f.left,
      f.seen,
      λ n i.
          let o = f.spelt n in
          let d = type_starts part g i.holds.0 z i.content y (wider i.holds.0 z i.content done i.holds.1) i.holds.2 q in
          subst (λ j. Over (object_of j) l t.rest) f.is (grouped g (object_of (y ∷ f.others.0, f.plus ∷ f.others.1)) i.content l s.rest t.rest i.is
          (o.0, an_object_without_dyn (starts_at g y i.content f.plus f.others.0 f.others.1 o.0 s.rest f.middle t.rest a d f.mark o.1), o.2, o.3)),
    )

    one_took : (plus : Bool) → allows_plus place ≡ plus → (g : DelimSpan) (z : Tree) (l : Toks) (s t : Stream) (x : Tree) (o : Option Bound) → first_bound (groups.paren g) z ≡ o → Visible s.rest →
        reading.paren_or_object r plus (groups.paren g) z o s ≡ Ok (x, t) → Onward (Before g (held.One z) l s.rest) (Over x l t.rest) s t
    one_took plus a g z l s t x None q u e = stays (v.Paren (paren_of (groups.paren g) z)) x s t l (Before g (held.One z) l s.rest) u (same_pair (v.Paren (paren_of (groups.paren g) z)) x s t e) (λ i. one_at g z l s.rest i)
    one_took plus a g z l s t x (Some y) q u e =
        elim (branch (plus_follows plus s.rest) _ _ s (Ok (x, t)) e) [
          | inl d ↦ let f = mapped (each_bound_from (r (a_bound Object)) y s) object_of x t d.1 in
              elim (went y s t f.value u f.was) [
                | inl k ↦ let w = first_further g z y l s t f.value (a ∙ and_first plus _ d.0) q k in (w.0, w.1, λ n i. subst (λ j. Over j l t.rest) f.is (w.2 n i))
                | inr k ↦ both (token.sees_plus s.rest) (and_second plus _ d.0) k.no_plus
              ]
          | inr d ↦ stays (v.Paren (paren_of (groups.paren g) z)) x s t l (Before g (held.One z) l s.rest) u (same_pair (v.Paren (paren_of (groups.paren g) z)) x s t d.1) (λ i. one_at g z l s.rest i)
        ]

    of_took : (plus : Bool) → allows_plus place ≡ plus → (g : DelimSpan) (w : Content) (l : Toks) (s t : Stream) (x : Tree) → Visible s.rest → reading.of_parens r plus (groups.paren g) w s ≡ Ok (x, t) →
        Onward (Before g w l s.rest) (Over x l t.rest) s t
    unfolding reading.of_parens
    of_took plus a g (held.Elements w) l s t x u e = stays (v.Tuple (tuple_of (groups.paren g) w)) x s t l (Before g (held.Elements w) l s.rest) u (same_pair (v.Tuple (tuple_of (groups.paren g) w)) x s t e) (λ i. tuple_at g w l s.rest i)
    of_took plus a g (held.Object w) l s t x u e =
        let z : Tree = v.Paren (paren_of (groups.paren g) (object_of w)) in
        stays z x s t l (Before g (held.Object w) l s.rest) u (same_pair z x s t e) (λ i. object_at g w l s.rest i)
    of_took plus a g (held.Asked y) l s t x u e = asked_took g y l s t x u e
    of_took plus a g (held.One z) l s t x u e = one_took plus a g z l s t x (first_bound (groups.paren g) z) refl u e

    pub paren_took : (s t : Stream) (x : Tree) → Visible s.rest → reading.paren_type r (allows_plus place) s ≡ Ok (x, t) → TookOne Over s t x
    unfolding reading.paren_type reading.parens
    paren_took s t x u e =
        let c = chain (reading.parens r s) (λ y. reading.of_parens r (allows_plus place) y.0 y.1) x t e in
        let k = mapped (in_group Parenthesis groups.paren_name (reading.paren_content r) s) (λ y. (groups.paren y.0, y.1)) c.value c.rest c.was in
        let w = held_sound Parenthesis IsContent groups.paren_name (reading.paren_content r) content_sound s c.rest k.value u k.was in
        let d = of_took (allows_plus place) refl k.value.0 k.value.1 s.rest c.rest t x w.seen (subst (λ z. reading.of_parens r (allows_plus place) z.0 z.1 c.rest ≡ Ok (x, t)) (sym k.is) c.goes) in
        record { left = λ n. w.left (d.0 n); seen = d.1; spelt = λ n. d.2 n (w.spelt (d.0 n)) }
