-- A trait bound, a bound in its place and bounds joined by `+` print their normal form clearly, where what they hold does.
use Rattle.std.proofs.Common.{◌≡◌, Bool, true, false, List, [], ◌∷◌, ◌++◌, map, Option, None, Some, refl, sym, ◌∙◌, ap, subst}
use Rattle.syn_ty.proofs.ty_laws.words.Tokens.{Parenthesis, Many, Print, Visible, Toks, done, row, Paren, IsLifetime, IsMark}
use Rattle.syn_ty.proofs.ty_laws.words.Paths.{NormalValues, Values}
use Rattle.syn_ty.proofs.ty_laws.words.Forms.{BoundPlace, allows_const}
use Rattle.syn_ty.proofs.ty_laws.words.Types.{TraitBoundModifiers, IsCapture, IsFor, AreModifiers, IsTrait, a_trait, a_trait_for, a_trait_asked, IsTraitBound, a_trait_bound, IsBound, a_lifetime_bound, a_bare_bound, a_bound_in_parens, a_capture_bound, AreBounds, no_bounds, last_plus, last_bound, bound_and_plus, binder_by, capture, trait_bound_of, IsBoundPath, as_written, Manner, plainly, clearly, End, going_on, Parts, BoundLifetimes, Path, TraitBound, TypeParamBound}
use Rattle.token_core.specs.Groups as groups
use Rattle.token_core.specs.Prints as p
use Rattle.token_core.specs.Tokens as token
use Rattle.token_core.proofs.Rows.{row-append}
use Rattle.syn_path.proofs.Words.{AgainFront}
use Rattle.token_core.specs.Lifetimes as lifetimes
use Rattle.syn_ty.specs.declared.generics.TypeParamBoundOf.TheVariants as b
use Rattle.syn_ty.specs.generics.Shapes as shapes
use Rattle.syn_ty.specs.generics.Shapes.{bare_trait_by, in_parens}
use Rattle.syn_ty.specs.ty.Normal as normal
use Rattle.syn_ty.specs.ty.Printing as printing
use Rattle.syn_ty.proofs.ty_laws.reprint.Within.{Again, SuppliedAgain}
use Rattle.syn_ty.proofs.ty_laws.reprint.Angles.{Then, then_front, made_front}
use Rattle.syn_ty.proofs.ty_laws.reprint.Capture.{capture_again}
use Rattle.syn_ty.proofs.ty_laws.reprint.Modifiers.{modifiers_again}
use Rattle.syn_ty.proofs.ty_laws.reprint.Normals.{normal-Trait, trait_bound_normal, normal-bound-Lifetime, normal-PreciseCapture}
use Rattle.syn_ty.proofs.ty_laws.reprint.Params.{for_again}
use Rattle.syn_ty.proofs.ty_laws.Prints.{bound-Trait, bound-Lifetime, bound-PreciseCapture, trait_bound_parts}
use Rattle.syn_ty.proofs.ty_laws.reprint.Leaves.{mark_front}
use Rattle.syn_ty.proofs.ty_laws.reprint.Signatures.{lifetime_front}
use Rattle.syn_ty.proofs.ty_laws.reprint.Signed.{bound_path_again}
use Rattle.syn_ty.proofs.ty_laws.reprint.Steps.{within_front, grouped_front}

-- ---- trait bounds

-- a binder, modifiers, a `?` and a path
abbrev pub Named : Type 0 → Type 0 → Type 0
Named A E = Option (BoundLifetimes A E) × TraitBoundModifiers × Option token.Question × Path A E

module _ {A E : Type 0} where
  -- a bound of these, perhaps in parentheses
  abbrev pub with_parens : Option Paren → Named A E → TraitBound A E
  with_parens t v = trait_bound_of t v.0 v.1 v.2 v.3

  module _ (na : List A → List A) (ne : NormalValues E) where
    abbrev pub normal_named : Named A E → Named A E
    normal_named z = (binder_by (normal.param na ne) z.0, z.1, z.2, normal.path na ne z.3)

    pub named_normal : (t : Option Paren) (v : Named A E) → normal.bound na ne (b.Trait (with_parens t v)) ≡ b.Trait (with_parens t (normal_named v))
    named_normal t v = normal-Trait na ne (with_parens t v) ∙ ap b.Trait (trait_bound_normal na ne t v.0 v.1 v.2 v.3)

  module _ (pa : List A → Print) (pe : Values E) where
    abbrev pub print_named : Named A E → Print
    print_named z = bare_trait_by (printing.param pa pe) (printing.arguments pa pe as_written) z.0 z.1 z.2 z.3

    pub named_prints : (t : Option Paren) (v : Named A E) → printing.bound pa pe (b.Trait (with_parens t v)) ≡ in_parens t (print_named v)
    named_prints t v = bound-Trait pa pe (with_parens t v) ∙ trait_bound_parts pa pe t v.0 v.1 v.2 v.3

module _ {A E : Type 0} (na : List A → List A) (ne : NormalValues E) (pa : List A → Print) (pe : Values E) (part : Manner → Parts A E) (again : Again na ne pa pe part) where
  module _ (supplied : SuppliedAgain na ne pa pe part) where
    module _ (consts : Bool) where
      -- modifiers before a path
      abbrev Modified : End → TraitBoundModifiers × Path A E → Toks → Toks → Type 0
      Modified e = Then (AreModifiers consts) (IsBoundPath part clearly e)

      -- a trait of these parts
      abbrev IsNamed : End → Named A E → Toks → Toks → Type 0
      IsNamed e v = IsTrait part clearly consts e v.0 v.1 v.2 v.3

      trait_again : (e : End) (o : Option (BoundLifetimes A E)) (x : TraitBoundModifiers) (q : Option token.Question) (z : Path A E) (l r : Toks) → IsTrait part plainly consts e o x q z l r →
          AgainFront (IsNamed e) (normal_named na ne) (print_named pa pe) (o, x, q, z) l r
      trait_again e o x q z l r (a_trait {m = m} i j) =
          made_front (Modified e) (IsNamed e) _ (normal_named na ne) _ (print_named pa pe) (λ (v : TraitBoundModifiers × Path A E). (None, v.0, None, v.1)) (λ v l r i. a_trait i.1 i.2) (λ v. refl) (λ v. refl) (x, z) l r
          (then_front (modifiers_again consts x l m i) (bound_path_again na ne pa pe part again supplied e z m r j))
      trait_again e o x q z l r (a_trait_for {o = y} {m = m} {n = n} i j k) =
          made_front (Then (IsFor part clearly) (Modified e)) (IsNamed e) _ (normal_named na ne) _ (print_named pa pe) (λ (v : BoundLifetimes A E × (TraitBoundModifiers × Path A E)). (Some v.0, v.1.0, None, v.1.1))
          (λ v l r i. a_trait_for i.1 i.2.1 i.2.2) (λ v. refl) (λ v. refl) (y, (x, z)) l r
          (then_front (for_again na ne pa pe part again y l m i) (then_front (modifiers_again consts x m n j) (bound_path_again na ne pa pe part again supplied e z n r k)))
      trait_again e o x q z l r (a_trait_asked {q = a} {m = m} {n = n} i j k) =
          made_front (Then (AreModifiers consts) (Then (IsMark true) (IsBoundPath part clearly e))) (IsNamed e) _ (normal_named na ne) _ (print_named pa pe) (λ (v : TraitBoundModifiers × (token.Question × Path A E)). (None, v.0, Some v.1.0, v.1.1))
          (λ v l r i. a_trait_asked i.1 i.2.1 i.2.2) (λ v. refl) (λ v. refl) (x, (a, z)) l r
          (then_front (modifiers_again consts x l m i) (then_front (mark_front a m n j) (bound_path_again na ne pa pe part again supplied e z n r k)))

      pub trait_bound_again : (e : End) (x : TraitBound A E) (l r : Toks) → IsTraitBound part plainly consts e x l r → AgainFront (IsTraitBound part clearly consts e) (normal.trait_bound na ne) (printing.trait_bound pa pe) x l r
      trait_bound_again e x l r (a_trait_bound {o = o} {x = y} {q = q} {p = z} i) =
          within_front (IsTraitBound part clearly consts e) (IsNamed e) (normal.trait_bound na ne) (normal_named na ne) (printing.trait_bound pa pe) (print_named pa pe) (with_parens None)
          (λ v. trait_bound_normal na ne None v.0 v.1 v.2 v.3) (λ v k b i. a_trait_bound i) (λ v. trait_bound_parts pa pe None v.0 v.1 v.2 v.3) (o, y, q, z) l r (trait_again e o y q z l r i)

    -- ---- a bound in its place

    module _ (place : BoundPlace) where
      pub bound_again : (e : End) (x : TypeParamBound A E) (l r : Toks) → IsBound part plainly place e x l r → AgainFront (IsBound part clearly place e) (normal.bound na ne) (printing.bound pa pe) x l r
      bound_again e x l r (a_lifetime_bound {x = y} i) =
          within_front (IsBound part clearly place e) IsLifetime (normal.bound na ne) (λ v. v) (printing.bound pa pe) lifetimes.print b.Lifetime (normal-bound-Lifetime na ne) (λ v k b i. a_lifetime_bound i) (bound-Lifetime pa pe) y l r (lifetime_front y l r i)
      bound_again e x l r (a_bare_bound {x = y} i) =
          within_front (IsBound part clearly place e) (IsTraitBound part clearly (allows_const place) e) (normal.bound na ne) (normal.trait_bound na ne) (printing.bound pa pe) (printing.trait_bound pa pe) b.Trait (normal-Trait na ne) (λ v k b i. a_bare_bound i) (bound-Trait pa pe) y l r
          (trait_bound_again (allows_const place) e y l r i)
      bound_again e x l r (a_bound_in_parens {e = g} {o = o} {x = y} {q = q} {p = z} {s = s} {c = c} i) =
          grouped_front (IsBound part clearly place e) (IsNamed (allows_const place) g) (normal.bound na ne) (normal_named na ne) (printing.bound pa pe) (print_named pa pe) (λ v. b.Trait (with_parens (Some (groups.paren s)) v)) (named_normal na ne (Some (groups.paren s))) Parenthesis s tt
          (λ v k b i. a_bound_in_parens i) (named_prints pa pe (Some (groups.paren s))) (o, y, q, z) c r
          (trait_again (allows_const place) g o y q z c done i)
      bound_again e x l r (a_capture_bound {x = y} h i) =
          within_front (IsBound part clearly place e) (IsCapture true) (normal.bound na ne) capture (printing.bound pa pe) shapes.capture b.PreciseCapture (normal-PreciseCapture na ne) (λ v k b i. a_capture_bound h i) (bound-PreciseCapture pa pe) y l r (capture_again y l r i)

  -- ---- bounds joined by `+`

  module _ (kind : BoundPlace) (Ends : Bool → Type 0) where
    pub bounds_again : (first : Bool) (e : End) (xs : List (TypeParamBound A E)) (ps : List token.Plus) (l r : Toks) → AreBounds part plainly kind Ends first e xs ps l r →
        AgainFront (λ (z : Many (TypeParamBound A E) token.Plus). AreBounds part clearly kind Ends first e z.0 z.1) (normal.bounds na ne) (printing.bounds_joined pa pe) (xs, ps) l r
    bounds_again first e xs ps l r (no_bounds h) = record { spelt = λ k. no_bounds h; visible = λ k u w. w; seen = λ u. u; stays = refl; same = refl }
    bounds_again first e xs ps l r (last_plus h) = record { spelt = λ k. last_plus h; visible = λ k u w. w; seen = λ u. u; stays = refl; same = refl }
    bounds_again first e xs ps l r (last_bound {e = f} {x = x} i) =
        let h = again.bound kind f x l r i in
        let seen = λ (k : Toks). row-append (printing.bound pa pe x) [] k in
        record {
          spelt = λ k. subst (λ z. AreBounds part clearly kind Ends first (going_on f) (normal.bound na ne x ∷ []) [] z k) (sym (seen k)) (last_bound (h.spelt k));
          visible = λ k u w. subst Visible (sym (seen k)) (h.visible k u w);
          seen = λ u. h.seen u;
          stays = ap (λ z. (z ∷ [], [])) h.stays;
          same = ap (λ z. z ++ []) h.same;
        }
    bounds_again first e xs ps l r (bound_and_plus {e = f} {x = x} {p = a} {xs = ys} {ps = qs} {m = m} {k = n} i c j t) =
        let h = again.bound kind f x l m i in
        let g = mark_front a m n j in
        let v = bounds_again false e ys qs n r t in
        let rest = printing.bounds_joined pa pe (ys, qs) in
        let one = printing.bound pa pe x in
        let seen = λ (k : Toks). row-append one (p.mark a ++ rest) k ∙ ap (row one) (row-append (p.mark a) rest k) in
        record {
          spelt = λ k. subst (λ z. AreBounds part clearly kind Ends first e (normal.bound na ne x ∷ map (normal.bound na ne) ys) (a ∷ qs) z k) (sym (seen k))
              (bound_and_plus (h.spelt (row (p.mark a) (row rest k))) c (g.spelt (row rest k)) (v.spelt k));
          visible = λ k u w. subst Visible (sym (seen k)) (h.visible (row (p.mark a) (row rest k)) u (g.visible (row rest k) (h.seen u) (v.visible k (g.seen (h.seen u)) w)));
          seen = λ u. v.seen (g.seen (h.seen u));
          stays = ap (λ z. (z ∷ map (normal.bound na ne) (map (normal.bound na ne) ys), a ∷ qs)) h.stays ∙ ap (λ (z : Many (TypeParamBound A E) token.Plus). (normal.bound na ne x ∷ z.0, a ∷ z.1)) v.stays;
          same = ap (λ z. z ++ (p.mark a ++ printing.bounds_joined pa pe (map (normal.bound na ne) ys, qs))) h.same ∙ ap (λ z. one ++ (p.mark a ++ z)) v.same;
        }
