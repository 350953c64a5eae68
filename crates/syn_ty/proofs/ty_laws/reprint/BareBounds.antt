-- The bounds of a trait object without `dyn` print their normal form clearly, where what they hold does; a further pair of parentheses is not printed.
use Rattle.std.proofs.Common.{◌≡◌, Bool, true, false, is_some, List, [], ◌∷◌, ◌++◌, map, Option, None, Some, refl, sym, ◌∙◌, ap, subst}
use Rattle.syn_ty.proofs.ty_laws.words.Tokens.{DelimSpan, Parenthesis, Paren, sees_lifetime, Anywhere, Nowhere, AfterMark, Many, Print, Visible, IsMark, Toks, done, group, row, stream_of_trees}
use Rattle.syn_ty.proofs.ty_laws.words.Paths.{AsWritten, NormalValues, Values}
use Rattle.syn_ty.proofs.ty_laws.words.Forms.{Object, TypePlace, allows_plus}
use Rattle.syn_ty.proofs.ty_laws.words.Types.{AreBounds, no_bounds, last_bound, bound_and_plus, no_modifiers, binder_by, ends_lone, IsFirst, a_first, a_first_for, IsAsked, an_asked, AreFurther, none_further, some_further, AreBareBounds, path_alone, path_and_plus, held_and_plus, asked_first, asked_in_two, lifetime_first, Manner, plainly, clearly, End, Parts, is_trait, BoundLifetimes, Path, TypeParamBound}
use Rattle.token_core.specs.Groups as groups
use Rattle.token_core.specs.Prints as p
use Rattle.token_core.specs.Tokens as token
use Rattle.token_core.proofs.Rows.{row-append}
use Rattle.syn_path.proofs.Words.{AgainFront}
use Rattle.syn_ty.specs.declared.generics.TypeParamBoundOf.TheVariants as b
use Rattle.syn_ty.specs.path.Printing.{path}
use Rattle.syn_ty.specs.ty.Normal as normal
use Rattle.syn_ty.specs.ty.Printing as printing
use Rattle.syn_ty.proofs.ty_laws.reprint.Within.{Again, SuppliedAgain}
use Rattle.syn_ty.proofs.ty_laws.reprint.Bound.{Named, print_named, with_parens, named_normal, named_prints, bounds_again}
use Rattle.syn_ty.proofs.ty_laws.reprint.Objects.{any_kept, is_trait_kept}
use Rattle.syn_ty.proofs.ty_laws.reprint.Leaves.{mark_front}
use Rattle.syn_ty.proofs.ty_laws.reprint.Params.{for_again}
use Rattle.syn_ty.proofs.ty_laws.reprint.Paths.{path_written_again}
use Rattle.syn_ty.proofs.ty_laws.reprint.Signed.{bound_path_again, alike_try, alike_sep, path_begins}
use Rattle.syn_ty.proofs.ty_laws.reprint.Steps.{within_front, grouped_front}

-- ---- what stands in a group of these spans

module _ {B : Type 0} (T : B → Toks → Toks → Type 0) (s : DelimSpan) where
  pub data IsHeld : B → Toks → Toks → Type 0 where
    is_held : {y : B} {c r : Toks} → T y c done → IsHeld y (group Parenthesis s c r) r

  -- in a group more, which is not printed
  module _ (m : B → B) (q : B → Print) where
    held_front : (y : B) (c r : Toks) → AgainFront T m q y c done → AgainFront IsHeld m (λ (z : B). p.group Parenthesis (stream_of_trees (q z)) s) y (group Parenthesis s c r) r
    held_front y c r h =
        grouped_front IsHeld T m m (λ (z : B). p.group Parenthesis (stream_of_trees (q z)) s) q (λ z. z) (λ z. refl) Parenthesis s tt (λ z k d i. is_held i) (λ z. refl) y c r h

    twice_front : (i : DelimSpan) (y : B) (c r : Toks) → AgainFront T m q y c done → AgainFront IsHeld m (λ (z : B). p.group Parenthesis (stream_of_trees (q z)) s) y (group Parenthesis s (group Parenthesis i c done) r) r
    twice_front i y c r h = held_front y (group Parenthesis i c done) r (record { spelt = h.spelt; visible = λ k u w. h.visible k u.1 w; seen = λ u. tt; stays = h.stays; same = h.same })

module _ {A E : Type 0} (na : List A → List A) (ne : NormalValues E) (pa : List A → Print) (pe : Values E) (part : Manner → Parts A E) where
  abbrev Bound : Type 0
  Bound = TypeParamBound A E

  abbrev Bounds : Type 0
  Bounds = Many Bound token.Plus

  abbrev ns : Bounds → Bounds
  ns = normal.bounds na ne

  abbrev ps : Bounds → Print
  ps = printing.bounds_joined pa pe

  abbrev nb : Bound → Bound
  nb = normal.bound na ne

  abbrev pb : Bound → Print
  pb = printing.bound pa pe

  -- ---- a first bound, and what follows it

  -- a binder and a path
  abbrev pub Bare : Type 0
  Bare = Option (BoundLifetimes A E) × Path A E

  abbrev pub named_of : Bare → Named A E
  named_of z = (z.0, no_modifiers, None, z.1)

  abbrev pub normal_bare : Bare → Bare
  normal_bare z = (binder_by (normal.param na ne) z.0, normal.path na ne z.1)

  abbrev pub print_bare : Bare → Print
  print_bare z = print_named pa pe (named_of z)

  abbrev of_bare : Option Paren → Bare → Bound
  of_bare t z = b.Trait (with_parens t (named_of z))

  bare_normal : (t : Option Paren) (z : Bare) → nb (of_bare t z) ≡ of_bare t (normal_bare z)
  bare_normal t z = named_normal na ne t (named_of z)

  -- after a `?`
  abbrev asked_of : token.Question → Path A E → Named A E
  asked_of q z = (None, no_modifiers, Some q, z)

  abbrev held_asked : DelimSpan → token.Question → Path A E → Bound
  held_asked s q z = b.Trait (with_parens (Some (groups.paren s)) (asked_of q z))

  -- what is printed after the first bound
  abbrev pub after : Bounds → Print
  after (xs, []) = ps (xs, [])
  after (xs, c ∷ qs) = p.mark c ++ ps (xs, qs)

  first_prints : (x : Bound) (xs : List Bound) (qs : List token.Plus) → ps (x ∷ xs, qs) ≡ pb x ++ after (xs, qs)
  first_prints x xs [] = refl
  first_prints x xs (c ∷ qs) = refl

  module _ {B : Type 0} (S : Bounds → Toks → Toks → Type 0) (T : B → Toks → Toks → Type 0) (R : Bounds → Toks → Toks → Type 0) (m : B → B) (q : B → Print) (f : B → Bound) (once : (y : B) → nb (f y) ≡ f (m y)) (prints : (y : B) → pb (f y) ≡ q y)
      (into : (y : B) (z : Bounds) (l n r : Toks) → T y l n → R z n r → S (f y ∷ z.0, z.1) l r) where
    joined_front : (y : B) (z : Bounds) (l n r : Toks) → AgainFront T m q y l n → AgainFront R ns after z n r → AgainFront S ns ps (f y ∷ z.0, z.1) l r
    joined_front y z l n r h g =
        let rest = λ (k : Toks). row (after z) k in
        let seen = λ (k : Toks). ap (λ w. row w k) (first_prints (f y) z.0 z.1) ∙ row-append (pb (f y)) (after z) k ∙ ap (λ w. row w (rest k)) (prints y) in
        record {
          spelt = λ k. subst (λ x. S (x ∷ map nb z.0, z.1) (row (ps (f y ∷ z.0, z.1)) k) k) (sym (once y))
              (subst (λ c. S (f (m y) ∷ map nb z.0, z.1) c k) (sym (seen k)) (into (m y) (map nb z.0, z.1) (row (q y) (rest k)) (rest k) k (h.spelt (rest k)) (g.spelt k)));
          visible = λ k u w. subst Visible (sym (seen k)) (h.visible (rest k) u (g.visible k (h.seen u) w));
          seen = λ u. g.seen (h.seen u);
          stays = ap (λ x. (x ∷ map nb (map nb z.0), z.1)) (ap nb (once y) ∙ once (m y) ∙ ap f h.stays ∙ sym (once y)) ∙ ap (λ (w : Bounds). (nb (f y) ∷ w.0, w.1)) g.stays;
          same = first_prints (nb (f y)) (map nb z.0) z.1 ∙ ap (λ w. w ++ after (ns z)) (ap pb (once y) ∙ prints (m y) ∙ h.same ∙ sym (prints y)) ∙ ap (λ w. pb (f y) ++ w) g.same ∙ sym (first_prints (f y) z.0 z.1);
        }

  -- nothing, and `+` with bounds that may end so
  data IsNone : Bounds → Toks → Toks → Type 0 where
    is_none : {r : Toks} → IsNone ([], []) r r

  data ArePlus (Ends : Bool → Type 0) (e : End) : Bounds → Toks → Toks → Type 0 where
    are_plus : {c : token.Plus} {xs : List Bound} {qs : List token.Plus} {l n r : Toks} → IsMark true c l n → AreBounds part clearly Object Ends false e xs qs n r → ArePlus Ends e (xs, c ∷ qs) l r

  none_front : (r : Toks) → AgainFront IsNone ns after ([], []) r r
  none_front r = record { spelt = λ k. is_none; visible = λ k u w. w; seen = λ u. u; stays = refl; same = refl }

  module _ (again : Again na ne pa pe part) where
    pub first_again : (o : Option (BoundLifetimes A E)) (z : Path A E) (l r : Toks) → IsFirst part plainly o z l r → AgainFront (λ (v : Bare). IsFirst part clearly v.0 v.1) normal_bare print_bare (o, z) l r
    first_again o z l r (a_first i h) =
        let k = path_written_again na ne pa pe part again z l r i in
        record {
          spelt = λ c. a_first (k.spelt c) (alike_try l (row (path pa pe AsWritten z) c) (path_begins na ne pa pe part z l r c i) h);
          visible = λ c u w. k.visible c u w;
          seen = λ u. k.seen u;
          stays = ap (λ v. (None, v)) k.stays;
          same = k.same;
        }
    first_again o z l r (a_first_for {x = x} {m = m} i j h g) =
        let f = for_again na ne pa pe part again x l m i in
        let k = path_written_again na ne pa pe part again z m r j in
        let first = printing.bound_lifetimes pa pe x in
        let rest = path pa pe AsWritten z in
        let seen = λ (c : Toks). row-append first rest c in
        let begins = λ (c : Toks). path_begins na ne pa pe part z m r c j in
        record {
          spelt = λ c. subst (λ v. IsFirst part clearly (Some (normal.bound_lifetimes na ne x)) (normal.path na ne z) v c) (sym (seen c))
              (a_first_for (f.spelt (row rest c)) (k.spelt c) (alike_try m (row rest c) (begins c) h) (alike_sep m (row rest c) (begins c) g));
          visible = λ c u w. subst Visible (sym (seen c)) (f.visible (row rest c) u (k.visible c (f.seen u) w));
          seen = λ u. k.seen (f.seen u);
          stays = ap (λ v. (Some v, normal.path na ne (normal.path na ne z))) f.stays ∙ ap (λ v. (Some (normal.bound_lifetimes na ne x), v)) k.stays;
          same = ap (λ v. v ++ path pa pe AsWritten (normal.path na ne z)) f.same ∙ ap (λ v. first ++ v) k.same;
        }

    module _ (supplied : SuppliedAgain na ne pa pe part) where
      pub asked_again : (q : token.Question) (z : Path A E) (l r : Toks) → IsAsked part plainly q z l r → AgainFront (IsAsked part clearly q) (normal.path na ne) (λ (v : Path A E). p.mark q ++ path pa pe AsWritten v) z l r
      asked_again q z l r (an_asked {e = e} {m = m} i j) =
          let h = mark_front q l m i in
          let k = bound_path_again na ne pa pe part again supplied e z m r j in
          let rest = path pa pe AsWritten z in
          let seen = λ (c : Toks). row-append (p.mark q) rest c in
          record {
            spelt = λ c. subst (λ v. IsAsked part clearly q (normal.path na ne z) v c) (sym (seen c)) (an_asked (h.spelt (row rest c)) (k.spelt c));
            visible = λ c u w. subst Visible (sym (seen c)) (h.visible (row rest c) u (k.visible c (h.seen u) w));
            seen = λ u. k.seen (h.seen u);
            stays = k.stays;
            same = ap (λ v. p.mark q ++ v) k.same;
          }

      plus_again : (Ends : Bool → Type 0) (e : End) (c : token.Plus) (xs : List Bound) (qs : List token.Plus) (l n r : Toks) → IsMark false c l n → AreBounds part plainly Object Ends false e xs qs n r → AgainFront (ArePlus Ends e) ns after (xs, c ∷ qs) l r
      plus_again Ends e c xs qs l n r i j =
          let h = mark_front c l n i in
          let k = bounds_again na ne pa pe part again Object Ends false e xs qs n r j in
          let rest = ps (xs, qs) in
          let seen = λ (d : Toks). row-append (p.mark c) rest d in
          record {
            spelt = λ d. subst (λ z. ArePlus Ends e (map nb xs, c ∷ qs) z d) (sym (seen d)) (are_plus (h.spelt (row rest d)) (k.spelt d));
            visible = λ d u w. subst Visible (sym (seen d)) (h.visible (row rest d) u (k.visible d (h.seen u) w));
            seen = λ u. k.seen (h.seen u);
            stays = ap (λ (z : Bounds). (z.0, c ∷ z.1)) k.stays;
            same = ap (λ z. p.mark c ++ z) k.same;
          }

      pub further_again : (e : End) (xs : List Bound) (qs : List token.Plus) (l r : Toks) → AreFurther part plainly e xs qs l r → AgainFront (λ (z : Bounds). AreFurther part clearly e z.0 z.1) (normal.bounds na ne) after (xs, qs) l r
      further_again e xs qs l r none_further = record { spelt = λ k. none_further; visible = λ k u w. w; seen = λ u. u; stays = refl; same = refl }
      further_again e xs qs l r (some_further {p = c} {xs = ys} {ps = ds} {m = m} i j) =
          within_front (λ (z : Bounds). AreFurther part clearly e z.0 z.1) (ArePlus Nowhere e) ns ns after after (λ z. z) (λ z. refl) (λ z b d i. as_further z b d i) (λ z. refl) (ys, c ∷ ds) l r (plus_again Nowhere e c ys ds l m r i j)
        where
          as_further : (z : Bounds) (l r : Toks) → ArePlus Nowhere e z l r → AreFurther part clearly e z.0 z.1 l r
          as_further z l r (are_plus i j) = some_further i j

      -- ---- by what the first bound is

      module _ (place : TypePlace) where
        abbrev To : End → Bounds → Toks → Toks → Type 0
        To e = AreBareBounds part clearly place e

        abbrev First : Bare → Toks → Toks → Type 0
        First z = IsFirst part clearly z.0 z.1

        -- a path after a binder
        abbrev AfterBinder : Bare → Toks → Toks → Type 0
        AfterBinder z l r = First z l r × (is_some z.0 ≡ true)

        alone : (y : Bare) (z : Bounds) (l n r : Toks) → AfterBinder y l n → IsNone z n r → To (ends_lone place) (of_bare None y ∷ z.0, z.1) l r
        alone (Some x, k) z l n r (i, h) is_none = path_alone i
        alone (None, k) z l n r (i, h) is_none = cc h

        with_plus : (e : End) → allows_plus place ≡ true → (y : Bare) (z : Bounds) (l n r : Toks) → First y l n → ArePlus Anywhere e z n r → To e (of_bare None y ∷ z.0, z.1) l r
        with_plus e h y z l n r i (are_plus j t) = path_and_plus h i j t

        held_plus : (e : End) (s : DelimSpan) → allows_plus place ≡ true → (y : Bare) (z : Bounds) (l n r : Toks) → IsHeld First s y l n → ArePlus Nowhere e z n r → To e (of_bare (Some (groups.paren s)) y ∷ z.0, z.1) l r
        held_plus e s h y z l n r (is_held i) (are_plus j t) = held_and_plus h i j t

        held_asks : (e : End) (s : DelimSpan) (q : token.Question) (y : Path A E) (z : Bounds) (l n r : Toks) → IsHeld (IsAsked part clearly q) s y l n → AreFurther part clearly e z.0 z.1 n r → To e (held_asked s q y ∷ z.0, z.1) l r
        held_asks e s q y z l n r (is_held i) t = asked_first i t

        asked_object : (e : End) (s : DelimSpan) (q : token.Question) (y : Path A E) (xs : List Bound) (qs : List token.Plus) (l n r : Toks) →
            AgainFront (IsHeld (IsAsked part clearly q) s) (normal.path na ne) (λ v. p.group Parenthesis (stream_of_trees (p.mark q ++ path pa pe AsWritten v)) s) y l n → AreFurther part plainly e xs qs n r →
            AgainFront (To e) ns ps (held_asked s q y ∷ xs, qs) l r
        asked_object e s q y xs qs l n r h t =
            joined_front (To e) (IsHeld (IsAsked part clearly q) s) (λ (z : Bounds). AreFurther part clearly e z.0 z.1) (normal.path na ne) (λ v. p.group Parenthesis (stream_of_trees (p.mark q ++ path pa pe AsWritten v)) s) (held_asked s q)
            (λ v. named_normal na ne (Some (groups.paren s)) (asked_of q v)) (λ v. named_prints pa pe (Some (groups.paren s)) (asked_of q v)) (λ v z a b d i j. held_asks e s q v z a b d i j) y (xs, qs) l n r h (further_again e xs qs n r t)

        -- where a bound that begins with a lifetime prints so
        module _ (lives : (e : End) (x : Bound) (l r : Toks) → (part plainly).bound Object e x l r → sees_lifetime l ≡ true → (k : Toks) → sees_lifetime (row (printing.bound pa pe x) k) ≡ true) where
          bounds_live : (e : End) (xs : List Bound) (qs : List token.Plus) (l r : Toks) → AreBounds part plainly Object AfterMark true e xs qs l r → sees_lifetime l ≡ true → (k : Toks) → sees_lifetime (row (ps (xs, qs)) k) ≡ true
          bounds_live e xs qs l r (no_bounds i) h k = absurd i
          bounds_live e xs qs l r (last_bound {e = f} {x = x} i) h k = subst (λ z. sees_lifetime z ≡ true) (sym (row-append (pb x) [] k)) (lives f x l r i h k)
          bounds_live e xs qs l r (bound_and_plus {e = f} {x = x} {p = c} {xs = ys} {ps = ds} {m = m} i g j t) h k =
              let rest = p.mark c ++ ps (ys, ds) in subst (λ z. sees_lifetime z ≡ true) (sym (row-append (pb x) rest k)) (lives f x l m i h (row rest k))

          pub bare_bounds_again : (e : End) (v : Bounds) (l r : Toks) → AreBareBounds part plainly place e v l r → AgainFront (AreBareBounds part clearly place e) (normal.bounds na ne) (printing.bounds_joined pa pe) v l r
          bare_bounds_again e v l r (path_alone {x = x} {p = z} i) =
              let k = first_again (Some x) z l r i in
              joined_front (To (ends_lone place)) AfterBinder IsNone normal_bare print_bare (of_bare None) (bare_normal None) (λ y. named_prints pa pe None (named_of y)) (λ v z a b d i j. alone v z a b d i j) (Some x, z) ([], []) l r r
              (record { spelt = λ c. (k.spelt c, refl); visible = λ c u w. k.visible c u w; seen = λ u. k.seen u; stays = k.stays; same = k.same }) (none_front r)
          bare_bounds_again e v l r (path_and_plus {o = o} {p = z} {c = c} {xs = xs} {ps = qs} {m = m} {n = n} h i j t) =
              joined_front (To e) First (ArePlus Anywhere e) normal_bare print_bare (of_bare None) (bare_normal None) (λ y. named_prints pa pe None (named_of y)) (λ v z a b d i j. with_plus e h v z a b d i j) (o, z) (xs, c ∷ qs) l m r
              (first_again o z l m i) (plus_again Anywhere e c xs qs m n r j t)
          bare_bounds_again e v l r (held_and_plus {o = o} {p = z} {s = s} {k = a} {xs = xs} {ps = qs} {c = c} {m = m} {n = n} h i j t) =
              joined_front (To e) (IsHeld First s) (ArePlus Nowhere e) normal_bare (λ y. p.group Parenthesis (stream_of_trees (print_bare y)) s) (of_bare (Some (groups.paren s))) (bare_normal (Some (groups.paren s)))
              (λ y. named_prints pa pe (Some (groups.paren s)) (named_of y)) (λ v z a b d i j. held_plus e s h v z a b d i j) (o, z) (xs, a ∷ qs) l m r
              (held_front First s normal_bare print_bare (o, z) c m (first_again o z c done i)) (plus_again Nowhere e a xs qs m n r j t)
          bare_bounds_again e v l r (asked_first {q = q} {p = z} {s = s} {xs = xs} {ps = qs} {c = c} {m = m} i t) =
              asked_object e s q z xs qs l m r (held_front (IsAsked part clearly q) s (normal.path na ne) (λ y. p.mark q ++ path pa pe AsWritten y) z c m (asked_again q z c done i)) t
          bare_bounds_again e v l r (asked_in_two {q = q} {p = z} {s = s} {i = a} {k = k} {xs = xs} {ps = qs} {c = c} {m = m} h i j t) =
              asked_object e s q z xs (k ∷ qs) l m r (twice_front (IsAsked part clearly q) s (normal.path na ne) (λ y. p.mark q ++ path pa pe AsWritten y) a z c m (asked_again q z c done i)) (some_further j t)
          bare_bounds_again e v l r (lifetime_first {xs = xs} {ps = qs} h i t) =
              let k = bounds_again na ne pa pe part again Object AfterMark true e xs qs l r i in
              record {
                spelt = λ c. lifetime_first (bounds_live e xs qs l r i h c) (k.spelt c) (any_kept is_trait nb (is_trait_kept na ne) xs ∙ t);
                visible = λ c u w. k.visible c u w;
                seen = λ u. k.seen u;
                stays = k.stays;
                same = k.same;
              }
