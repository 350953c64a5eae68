-- A type read at an invisible group is what the grammar says, and took what it spells: where no other such group stands in it or after it, or it is all that another one holds.
use Rattle.std.proofs.Common.{◌≡◌, ℕ, zero, suc, ◌≤◌, Bool, true, false, not, ◌&&◌, List, [], ◌∷◌, ◌++◌, Option, Some, None, Ok, Err, Result, inl, inr, refl, sym, ◌∙◌, ap, subst, arith, length, length-append}
use Rattle.std.specs.Prelude.{nat_eq}
use Rattle.syn_ty.proofs.ty_laws.words.Tokens.{DelimSpan, GroupToken, sees_invisible, AreListed, none_left, last_value, value_and_mark, Nowhere, Many, listed, listed_from, never, size, Outcome, Reader, Reads, closing, leaves, optional, pure, ◌>>=◌, Visible, Refusal, Stream, Toks, done}
use Rattle.syn_ty.proofs.ty_laws.words.Paths.{PathStyle, AsWritten, path_of, ReadValues, SpelledValues}
use Rattle.syn_ty.proofs.ty_laws.words.Forms.{TypePlace, Plus, in_invisible, ahead, goes_on, last_with, longer}
use Rattle.syn_ty.proofs.ty_laws.words.Types.{out-TypePathOf, out-roll-TypePathOf, Sep, no_arguments, IsPath, a_path, IsQualified, by_type, by_type_as_path, IsAnyPath, unqualified, qualified, IsType, a_path_type, a_macro, a_bound_macro, an_object_with_dyn, an_object_without_dyn, an_impl_type, a_fn_type, a_ptr_type, a_reference_type, a_paren_type, a_tuple_type, a_slice_type, an_array_type, an_infer_type, a_never_type, a_verbatim_type, reads_below, Manner, loosely, End, Parts, Readers, a_type, some_arguments, as_path, spelt_to, Path, PathArguments, PathSegment, QSelf, TypePath, TypeTree, qualified_with}
use Rattle.token_core.specs.Groups.{group_token, invisible_at, is_there, next_invisible, open_invisible}
use Rattle.token_core.specs.Reads.{finished, first_of, inside, past}
use Rattle.token_core.specs.Tokens as token
use Rattle.token_core.proofs.Took.{branch, mapped}
use Rattle.token_core.proofs.Turns.{chain, same_pair}
use Rattle.syn_path.proofs.Words.{TookOne, first_parts}
use Rattle.syn_path.specs.path.Reading.{leading}
use Rattle.syn_forms.specs.paths.Reading as paths
use Rattle.syn_forms.specs.paths.Reading.{ends_in_mark, path_with}
use Rattle.syn_forms.proofs.nested_laws.Below.{out}
use Rattle.syn_forms.proofs.tokens_laws.Fronts.{took_whole}
use Rattle.syn_ty.specs.declared.ty.TypeOf.TheVariants as v
use Rattle.syn_ty.specs.path.Reading as reads
use Rattle.syn_ty.specs.ty.Fronts as fronts
use Rattle.syn_ty.specs.ty.GroupCases as cases
use Rattle.syn_ty.specs.ty.Groups.{GoesOn, no_further, further, Becomes, segments, qualifies, arguments, alone, IsGrouped, a_group, a_group_in_a_group, InGroups, in_one, in_another, TakesGroup}
use Rattle.syn_ty.specs.ty.Knot as knot
use Rattle.syn_ty.specs.ty.Reading.{path_within, qself_in, with_path}
use Rattle.syn_ty.proofs.ty_laws.sound.Alone.{below, turns}
use Rattle.syn_ty.proofs.ty_laws.Given.{Given}
use Rattle.syn_ty.proofs.ty_laws.Groups.{type_group}
use Rattle.syn_ty.proofs.ty_laws.Kinds as kinds
use Rattle.syn_ty.proofs.ty_laws.Knot.{as_held}
use Rattle.syn_ty.proofs.ty_laws.sound.Knot.{twice}
use Rattle.syn_ty.proofs.ty_laws.sound.Paths.{path_took, segments_took, sep_took}
use Rattle.syn_ty.proofs.ty_laws.sound.Forms.{Told}

-- ---- after values joined by marks no mark follows

module _ {A P : Type 0} (value : Bool → Reader A) (more : Toks → Bool) (joint : Reader P) where
  over_from : (n : ℕ) (b : Bool) (s t : Stream) (w : Many A P) → listed_from never value more joint n b s ≡ Ok (w, t) → more t.rest ≡ false
  over_from zero b s t w e = cc
  over_from (suc n) b s t w e =
      let c = chain (value b s) _ w t e in
      elim (branch (more c.rest.rest) _ _ c.rest (Ok (w, t)) c.goes) [
        | inl z ↦ let d = chain (joint c.rest) _ w t z.1 in
            let f = chain (listed_from never value more joint n false d.rest) _ w t d.goes in
            subst (λ (u : Stream). more u.rest ≡ false) (same_pair _ w f.rest t f.goes).1 (over_from n false d.rest f.rest f.value f.was)
        | inr z ↦ subst (λ (u : Stream). more u.rest ≡ false) (same_pair _ w c.rest t z.1).1 z.0
      ]

  listed_over : (b : Bool) (s t : Stream) (w : Many A P) → listed never value more joint b s ≡ Ok (w, t) → more t.rest ≡ false
  unfolding listed
  listed_over b s t w e = over_from (suc (size s.rest)) b s t w e

-- ---- a path ends in a segment

one_more : {A P : Type 0} {V : Bool → A → Toks → Toks → Type 0} {M : P → Toks → Toks → Type 0} (b : Bool) (xs : List A) (ps : List P) (l r : Toks) → AreListed V M Nowhere b xs ps l r → length xs ≡ suc (length ps)
one_more b xs ps l r (none_left h) = absurd h
one_more b xs ps l r (last_value i) = refl
one_more b xs ps l r (value_and_mark {xs = ys} {ps = qs} {k = k} i j w) = ap suc (one_more false ys qs k r w)

both_more : {A P : Type 0} (xs ys : List A) (ps qs : List P) (p : P) → length xs ≡ suc (length ps) → length ys ≡ suc (length qs) → length (xs ++ ys) ≡ suc (length (ps ++ (p ∷ qs)))
both_more xs ys ps qs p h k = omega (arith, h, k, length-append xs ys, length-append ps (p ∷ qs))

as_long : {A E : Type 0} (a : PathArguments A E) (xs : List (PathSegment A E)) → length (last_with a xs) ≡ length xs
as_long a [] = refl
as_long a (x ∷ []) = refl
as_long a (x ∷ y ∷ xs) = ap suc (as_long a (y ∷ xs))

apart : (n m : ℕ) → n ≡ suc m → nat_eq n m ≡ false
apart n m h = grind (arith, h)

module _ {A E : Type 0} where
  -- it has one segment more than marks
  abbrev Ended : Path A E → Type 0
  Ended p = length p.segments.0 ≡ suc (length p.segments.1)

  -- a type that is a path is such a one
  abbrev EndsWell : TypeTree A E → Type 0
  EndsWell x = (p : TypePath A E) → as_path x ≡ Some p → Ended (path_within p)

  no_mark : (p : Path A E) → Ended p → ends_in_mark p ≡ false
  no_mark p h = apart (length p.segments.0) (length p.segments.1) h

  within_path : (o : Option (QSelf A E)) (p : Path A E) → path_within (qualified_with [] o p) ≡ p
  within_path o p = ap (λ z. z.path) (out-roll-TypePathOf A E (record { attrs = []; qself = o; path = p }))

  within_other : (p : TypePath A E) (q : Path A E) → path_within (with_path p q) ≡ q
  within_other p q = ap (λ z. z.path) (out-roll-TypePathOf A E (record { attrs = (out-TypePathOf A E p).attrs; qself = (out-TypePathOf A E p).qself; path = q }))

  path_ends : (p : TypePath A E) → Ended (path_within p) → EndsWell (v.Path p)
  path_ends p h q e = let same : p ≡ q = let k = sym (kinds.path-Path A E p) ∙ e in cc in subst (λ z. Ended (path_within z)) same h

  none_ends : (x : TypeTree A E) → as_path x ≡ None → EndsWell x
  none_ends x h q e = let k = sym h ∙ e in cc

  module _ (part : Manner → Parts A E) where
    spelt_ended : (style : PathStyle) (p : Path A E) (l r : Toks) → IsPath part loosely style p l r → Ended p
    spelt_ended style p l r (a_path {xs = xs} {cs = cs} {m = m} c i) = one_more true xs cs m r i

    qualified_ended : (q : QSelf A E) (p : Path A E) (l r : Toks) → IsQualified part loosely AsWritten q p l r → Ended p
    qualified_ended q p l r (by_type {xs = xs} {cs = cs} {j = j} a b c d i) = one_more true xs cs j r i
    qualified_ended q p l r (by_type_as_path {p = o} {c = c} {xs = xs} {cs = cs} {k = k} {j = j} {h = h} a b n w i m s u) =
        both_more o.segments.0 xs o.segments.1 cs c (spelt_ended AsWritten o k j i) (one_more true xs cs h r u)

    any_ended : (o : Option (QSelf A E)) (p : Path A E) (l r : Toks) → IsAnyPath part loosely AsWritten o p l r → Ended p
    any_ended o p l r (unqualified i) = spelt_ended AsWritten p l r i
    any_ended o p l r (qualified {q = q} i) = qualified_ended q p l r i

    type_ends : (place : TypePlace) (e : End) (x : TypeTree A E) (l r : Toks) → IsType part loosely place e x l r → EndsWell x
    type_ends place e x l r (a_path_type {o = o} {p = p} i) = path_ends (qualified_with [] o p) (subst Ended (sym (within_path o p)) (any_ended o p l r i.0))
    type_ends place e x l r (a_macro i) = none_ends x (kinds.path-Macro A E _)
    type_ends place e x l r (a_bound_macro i j w) = none_ends x (kinds.path-Macro A E _)
    type_ends place e x l r (an_object_with_dyn i) = none_ends x (kinds.path-TraitObject A E _)
    type_ends place e x l r (an_object_without_dyn i) = none_ends x (kinds.path-TraitObject A E _)
    type_ends place e x l r (an_impl_type i) = none_ends x (kinds.path-ImplTrait A E _)
    type_ends place e x l r (a_fn_type i) = none_ends x (kinds.path-FnPtr A E _)
    type_ends place e x l r (a_ptr_type i) = none_ends x (kinds.path-Ptr A E _)
    type_ends place e x l r (a_reference_type i) = none_ends x (kinds.path-Reference A E _)
    type_ends place e x l r (a_paren_type i) = none_ends x (kinds.path-Paren A E _)
    type_ends place e x l r (a_tuple_type i) = none_ends x (kinds.path-Tuple A E _)
    type_ends place e x l r (a_slice_type i) = none_ends x (kinds.path-Slice A E _)
    type_ends place e x l r (an_array_type i) = none_ends x (kinds.path-Array A E _)
    type_ends place e x l r (an_infer_type i) = none_ends x (kinds.path-Infer A E _)
    type_ends place e x l r (a_never_type i) = none_ends x (kinds.path-Never A E _)
    type_ends place e x l r (a_verbatim_type i) = none_ends x (kinds.path-Verbatim A E _)

    on_ended : (p q : Path A E) (l r : Toks) → Ended p → GoesOn part loosely p q l r → Ended q
    on_ended p q l r h (no_further n) = h
    on_ended p q l r h (further {c = c} {xs = xs} {cs = cs} {m = m} i j n) = both_more p.segments.0 xs p.segments.1 cs c h (one_more true xs cs m r j)

    taken_ended : (a : PathArguments A E) (p : Path A E) → Ended p → Ended (path_with a p)
    taken_ended a p h = as_long a p.segments.0 ∙ h

    other_ends : (p : TypePath A E) (q : Path A E) → Ended q → EndsWell (v.Path (with_path p q))
    other_ends p q h = path_ends (with_path p q) (subst Ended (sym (within_other p q)) h)

    becomes_ends : (g : GroupToken) (x y : TypeTree A E) (l r : Toks) → EndsWell x → Becomes part loosely g x y l r → EndsWell y
    becomes_ends g x y l r w (segments {p = p} {q = q} h k i) = other_ends p q (on_ended (path_within p) q l r (w p k) i)
    becomes_ends g x y l r w (qualifies {q = q} h k i n) = let o = Some (qself_in g x) in path_ends (qualified_with [] o q) (subst Ended (sym (within_path o q)) (spelt_ended AsWritten q l r i))
    becomes_ends g x y l r w (arguments {p = p} {a = a} {q = q} {m = m} h k j n u i) = other_ends p q (on_ended (path_with a (path_within p)) q m r (taken_ended a (path_within p) (w p j)) i)
    becomes_ends g x y l r w (alone h k) = none_ends y (kinds.path-Group A E _)

-- ---- what follows the group

module _ {A E : Type 0} (r : Readers A E) (part : Manner → Parts A E) (took : (s t : Stream) (x : PathArguments A E) → Visible s.rest → r some_arguments s ≡ Ok (x, t) → TookOne (part loosely).arguments s t x) where
  segments_over : (s t : Stream) (w : Many (PathSegment A E) Sep) → paths.segments no_arguments (r some_arguments) goes_on AsWritten s ≡ Ok (w, t) → goes_on t.rest ≡ false
  segments_over s t w e = listed_over (λ first. paths.segment no_arguments (r some_arguments) AsWritten) goes_on token.path_sep true s t w e

  rest_took : (p q : Path A E) (s t : Stream) → Visible s.rest → reads.rest r p s ≡ Ok (q, t) → TookOne (λ (z : Path A E) l k. Ended p → GoesOn part loosely p z l k) s t q
  unfolding paths.rest
  rest_took p q s t seen e =
      elim (branch (not (ends_in_mark p) && goes_on s.rest) _ _ s (Ok (q, t)) e) [
        | inl y ↦ let c = chain (token.path_sep s) _ q t y.1 in
            let o = sep_took s c.rest c.value seen c.was in
            let k = mapped (paths.segments no_arguments (r some_arguments) goes_on AsWritten c.rest) (λ (all : Many (PathSegment A E) Sep). longer p c.value all) q t c.goes in
            let w = segments_took r part took AsWritten goes_on c.rest t k.value o.seen k.was in
            record {
              left = λ n. o.left (w.left n);
              seen = w.seen;
              spelt = λ n h. subst (λ z. GoesOn part loosely p z s.rest t.rest) k.is (further (o.spelt (w.left n)) (w.spelt n) (segments_over c.rest t k.value k.was));
            }
        | inr y ↦ let k = same_pair p q s t y.1 in
            record {
              left = λ n. ap (λ (z : Stream). z.left) k.1 ∙ n;
              seen = subst (λ (z : Stream). Visible z.rest) k.1 seen;
              spelt = λ n h. subst (λ z. GoesOn part loosely p z s.rest t.rest) k.0
                  (subst (λ (z : Stream). GoesOn part loosely p p s.rest z.rest) k.1 (no_further (ap (λ b. not b && goes_on s.rest) (sym (no_mark p h)) ∙ y.0)));
            }
      ]

  path_over : (q : Path A E) (s t : Stream) → reads.path r AsWritten s ≡ Ok (q, t) → goes_on t.rest ≡ false
  unfolding paths.path leading
  path_over q s t e =
      let after : Option Sep → Reader (Path A E) = λ c. paths.segments no_arguments (r some_arguments) goes_on AsWritten >>= (λ all. pure (path_of c all)) in
      let c = chain (optional token.sees_path_sep token.path_sep s) after q t e in
      let k = mapped (paths.segments no_arguments (r some_arguments) goes_on AsWritten c.rest) (λ (all : Many (PathSegment A E) Sep). path_of c.value all) q t c.goes in
      segments_over c.rest t k.value k.was

  becomes_took : (g : GroupToken) (x y : TypeTree A E) (s t : Stream) → Visible s.rest → cases.ReadsOn r g x s y t → TookOne (λ (z : TypeTree A E) l k. EndsWell x → Becomes part loosely g x z l k) s t y
  becomes_took g x y s t seen (cases.segments {p = p} {q = q} h k e) =
      let w = rest_took (path_within p) q s t seen e in
      record { left = w.left; seen = w.seen; spelt = λ n u. segments h k (w.spelt n (u p k)) }
  becomes_took g x y s t seen (cases.qualifies {q = q} h k e) =
      let w = path_took r part took AsWritten s t q seen e in
      record { left = w.left; seen = w.seen; spelt = λ n u. qualifies h k (w.spelt n) (path_over q s t e) }
  becomes_took g x y s t seen (cases.arguments {p = p} {a = a} {q = q} {m = m} h k j n e f) =
      let c = took s m a seen e in
      let w = rest_took (path_with a (path_within p)) q m t c.seen f in
      record {
        left = λ o. c.left (w.left o);
        seen = w.seen;
        spelt = λ o u. arguments h k j n (c.spelt (w.left o)) (w.spelt o (taken_ended part a (path_within p) (u p j)));
      }
  becomes_took g x y s t seen (cases.alone h k) = record { left = λ n. n; seen = seen; spelt = λ n u. alone h k }

-- ---- the group

-- what was read in an invisible group that stands at the front
record Entered {X : Type 0} (p : Reader X) (s t : Stream) (g : GroupToken) (x : X) (d : DelimSpan) (c k : Toks) : Type 0 where
  ends : Stream
  is : group_token d ≡ g
  reads : p (inside s d c k) ≡ Ok (x, ends)
  rest : t.rest ≡ k
  left : t.left ≡ first_of s.left (leaves ends)

module _ {X : Type 0} (p : Reader X) (s t : Stream) (g : GroupToken) (x : X) (d : DelimSpan) (c k : Toks) where
  closed_at : (w : DelimSpan × X) (o : Outcome X) → p (inside s d c k) ≡ o → ◌≡◌ {A = GroupToken × X} (group_token w.0, w.1) (g, x) → closing d (past s k d.closing) o ≡ Ok (w, t) → Entered p s t g x d c k
  unfolding finished
  closed_at w (Ok q) h is e =
      let f = same_pair (d, q.0) w (finished q.1 (past s k d.closing)) t e in
      let value : q.0 ≡ x = ap (λ z. z.1) f.0 ∙ ap (λ z. z.1) is in
      record {
        ends = q.1;
        is = ap (λ z. group_token z.0) f.0 ∙ ap (λ z. z.0) is;
        reads = h ∙ ap (λ z. Ok (z, q.1)) value;
        rest = ap (λ (z : Stream). z.rest) (sym f.1);
        left = ap (λ (z : Stream). z.left) (sym f.1);
      }
  closed_at w (Err q) h is e = cc

  entered : next_invisible s.rest ≡ Some (d, c, k) → in_invisible p s ≡ Ok ((g, x), t) → Entered p s t g x d c k
  unfolding open_invisible
  entered h e =
      let m = mapped _ (λ (z : DelimSpan × X). (group_token z.0, z.1)) (g, x) t e in
      let o = chain (open_invisible s) (λ y. λ u. closing y.0 u (p y.1)) m.value t m.was in
      let n : ◌≡◌ {A = Outcome (DelimSpan × Stream)} (Ok ((d, inside s d c k), past s k d.closing)) (Ok (o.value, o.rest)) = sym (ap (invisible_at s) h) ∙ o.was in
      let f = same_pair (d, inside s d c k) o.value (past s k d.closing) o.rest n in
      closed_at m.value (p (inside s d c k)) refl m.is
      (subst (λ (u : Stream). closing d u (p (inside s d c k)) ≡ Ok (m.value, t)) (sym f.1) (subst (λ (z : DelimSpan × Stream). closing z.0 o.rest (p z.1) ≡ Ok (m.value, t)) (sym f.0) o.goes))

module _ {A E : Type 0} {attrs : Reader (List A)} {values : ReadValues E} {shown : Bool → List A → Toks → Toks → Type 0} {spelt : SpelledValues E} (g : Given attrs values shown spelt) where
  abbrev Is : ℕ → TypeTree A E → Toks → Toks → Type 0
  Is m x l r = IsGrouped (turns g m) loosely x l r

  -- a group whose content is known, and what follows it
  outer_took : (m : ℕ) (s t : Stream) (y : TypeTree A E) (d : DelimSpan) (c k : Toks) (Held_in : TypeTree A E → Toks → Type 0) → ahead s ≤ m → next_invisible s.rest ≡ Some (d, c, k) → Visible k →
      ((x : TypeTree A E) (ends : Stream) → reads_below attrs values (ahead s) (a_type Plus) (inside s d c k) ≡ Ok (x, ends) → leaves ends ≡ None → Held_in x c) →
      ((x : TypeTree A E) → Held_in x c → EndsWell x) →
      ((x : TypeTree A E) (r : Toks) → Held_in x c → Becomes (turns g m) loosely (group_token d) x y k r → Is m y s.rest r) →
      cases.IsReadGrouped (reads_below attrs values (ahead s)) s y t → TookOne (Is m) s t y
  outer_took m s t y d c k Held_in le next seen inner well make (cases.grouped {g = f} {x = x} {m = u} e goes) =
      let n = entered (reads_below attrs values (ahead s) (a_type Plus)) s u f x d c k next e in
      let w = becomes_took (reads_below attrs values (ahead s)) (turns g m) (below g (ahead s) m le).arguments f x y u t (subst Visible (sym n.rest) seen) goes in
      let split = λ (o : t.left ≡ None). first_parts s.left (leaves n.ends) (sym n.left ∙ w.left o) in
      record {
        left = λ o. (split o).0;
        seen = w.seen;
        spelt = λ o. let i = inner x n.ends n.reads (split o).1 in make x t.rest i (subst (λ z. Becomes (turns g m) loosely (group_token d) x y z t.rest) n.rest (subst (λ z. Becomes (turns g m) loosely z x y u.rest t.rest) (sym n.is) (w.spelt o (well x i))));
      }

  seen_there : (l : Toks) (p : DelimSpan × Toks × Toks) → next_invisible l ≡ Some p → sees_invisible l ≡ true
  unfolding sees_invisible
  seen_there l p h = ap is_there h

  pub grouped_by : (m : ℕ) (place : TypePlace) (s t : Stream) (y : TypeTree A E) (l : Toks) → l ≡ s.rest → ahead s ≤ m → InGroups l → knot.ty attrs values place s ≡ Ok (y, t) → TookOne (Is m) s t y
  grouped_by m place s t y l is le (in_one {s = d} {c = c} {k = k} next vc vk) e =
      let h : next_invisible s.rest ≡ Some (d, c, k) = ap next_invisible (sym is) ∙ next in
      outer_took m s t y d c k (λ x z. Told ((turns g m loosely).ty Plus) x z done) le h vk
      (λ x ends q o. took_whole {Is = Told ((turns g m loosely).ty Plus)} (inside s d c k) ends x ((below g (ahead s) m le).ty Plus (inside s d c k) ends x vc q) o)
      (λ x i. type_ends (spelt_to shown spelt (twice m)) Plus i.0 x c done i.1)
      (λ x r i b. a_group h i.1 b) (type_group attrs values place s t y (seen_there s.rest (d, c, k) h) e)
  grouped_by m place s t y l is le (in_another {s = d} {c = c} {k = k} next groups vk) e =
      let h : next_invisible s.rest ≡ Some (d, c, k) = ap next_invisible (sym is) ∙ next in
      outer_took m s t y d c k (λ x z. Is m x z done) le h vk
      (λ x ends q o.
      let w = out (ahead s) (knot.ty attrs values Plus) (inside s d c k) ends x (subst (λ p. p (inside s d c k) ≡ Ok (x, ends)) (sym (as_held attrs values (ahead s) (a_type Plus))) q) in
      took_whole {Is = Is m} (inside s d c k) ends x (grouped_by m Plus (inside s d c k) ends x c refl (omega (arith, le, w.less)) groups w.was) o)
      (λ x i. grouped_ends x c done i)
      (λ x r i b. a_group_in_a_group h i b) (type_group attrs values place s t y (seen_there s.rest (d, c, k) h) e)
    where
      grouped_ends : (x : TypeTree A E) (c r : Toks) → Is m x c r → EndsWell x
      grouped_ends x c r (a_group {s = d} {e = f} {x = z} {c = j} {k = k} next i b) = becomes_ends (turns g m) (group_token d) z x k r (type_ends (spelt_to shown spelt (twice m)) Plus f z j done i) b
      grouped_ends x c r (a_group_in_a_group {s = d} {x = z} {c = j} {k = k} next i b) = becomes_ends (turns g m) (group_token d) z x k r (grouped_ends z j done i) b

  -- what was taken is what the clause of a read says
  pub takes_group : (place : TypePlace) (s t : Stream) (r : Result (TypeTree A E) Refusal) → Reads (knot.ty attrs values place s) r t → TakesGroup (fronts.grouped shown spelt) s r t
  takes_group place s t (Ok y) e = λ i n. (suc (twice (ahead s)), (grouped_by (ahead s) place s t y s.rest refl (omega arith) i e).spelt n)
  takes_group place s t (Err y) e = tt
