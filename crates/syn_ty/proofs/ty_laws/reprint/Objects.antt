-- The bounds of trait objects and of `impl`, with `dyn` or without, print their normal form clearly, where single bounds do.
use Rattle.std.proofs.Common.{◌≡◌, Bool, true, ◌||◌, List, [], ◌∷◌, ◌++◌, map, None, Some, refl, sym, ◌∙◌, ap, subst}
use Rattle.std.specs.List.{list_any}
use Rattle.syn_ty.proofs.ty_laws.words.Tokens.{AfterMark, Many, Print, Visible, Toks, row}
use Rattle.syn_ty.proofs.ty_laws.words.Paths.{NormalValues, Values}
use Rattle.syn_ty.proofs.ty_laws.words.Forms.{BoundPlace, Object, Opaque, TypePlace}
use Rattle.syn_ty.proofs.ty_laws.words.Types.{roll-TypeParamBoundOf, IsBoundList, several_bounds, one_bound, AreObjectBounds, object_bounds, IsDyn, a_dyn, IsObject, an_object, IsImpl, an_impl, Manner, plainly, clearly, End, Parts, is_trait, trait_layer, absent, present, Layer, TypeImplTrait, TypeParamBound, TypeTraitObject, impl_trait_with, trait_object_with}
use Rattle.token_core.specs.Prints as p
use Rattle.token_core.specs.Tokens as token
use Rattle.token_core.proofs.Rows.{row-append}
use Rattle.syn_path.proofs.Words.{AgainFront}
use Rattle.syn_forms.proofs.tokens_laws.Mutability.{word_front}
use Rattle.syn_ty.specs.declared.generics.GenericParamOf.TheOpen as o
use Rattle.syn_ty.specs.declared.generics.TypeParamBoundOf.{out-TypeParamBoundOf, roll-out-TypeParamBoundOf}
use Rattle.syn_ty.specs.declared.generics.TypeParamBoundOf.TheVariants as b
use Rattle.syn_ty.specs.ty.Normal as normal
use Rattle.syn_ty.specs.ty.Printing as printing
use Rattle.syn_ty.proofs.ty_laws.reprint.Within.{Again}
use Rattle.syn_ty.proofs.ty_laws.reprint.Bound.{bounds_again}
use Rattle.syn_ty.proofs.ty_laws.reprint.Normals.{normal-Trait, normal-bound-Lifetime, normal-PreciseCapture, normal-bound-Verbatim}

pub any_kept : {T : Type 0} (f : T → Bool) (n : T → T) → ((x : T) → f (n x) ≡ f x) → (l : List T) → list_any f (map n l) ≡ list_any f l
any_kept f n h [] = refl
any_kept f n h (x ∷ l) = ap (λ c. c || list_any f (map n l)) (h x) ∙ ap (λ c. f x || c) (any_kept f n h l)

-- ---- a bound stays of its kind

module _ {A E : Type 0} (na : List A → List A) (ne : NormalValues E) where
  abbrev nb : TypeParamBound A E → TypeParamBound A E
  nb = normal.bound na ne

  kind_layer : (y : Layer o.TypeParamBoundOf-F A E) → is_trait (nb (roll-TypeParamBoundOf A E y)) ≡ is_trait (roll-TypeParamBoundOf A E y)
  kind_layer (o.Trait x) = ap (λ z. is_trait (nb z)) (b.rolls-Trait x) ∙ ap is_trait (normal-Trait na ne x) ∙ ap trait_layer (b.outs-Trait (normal.trait_bound na ne x)) ∙ sym (ap trait_layer (b.outs-Trait x)) ∙ ap is_trait (sym (b.rolls-Trait x))
  kind_layer (o.TypeParamBoundOf::Lifetime x) = ap (λ z. is_trait (nb z)) (b.rolls-Lifetime x) ∙ ap is_trait (normal-bound-Lifetime na ne x) ∙ ap is_trait (sym (b.rolls-Lifetime x))
  kind_layer (o.PreciseCapture x) = ap (λ z. is_trait (nb z)) (b.rolls-PreciseCapture x) ∙ ap is_trait (normal-PreciseCapture na ne x) ∙ ap trait_layer (b.outs-PreciseCapture _) ∙ sym (ap trait_layer (b.outs-PreciseCapture x)) ∙ ap is_trait (sym (b.rolls-PreciseCapture x))
  kind_layer (o.TypeParamBoundOf::Verbatim x) = ap (λ z. is_trait (nb z)) (b.rolls-Verbatim x) ∙ ap is_trait (normal-bound-Verbatim na ne x) ∙ ap is_trait (sym (b.rolls-Verbatim x))

  pub is_trait_kept : (x : TypeParamBound A E) → is_trait (normal.bound na ne x) ≡ is_trait x
  is_trait_kept x = subst (λ z. is_trait (nb z) ≡ is_trait z) (roll-out-TypeParamBoundOf A E x) (kind_layer (out-TypeParamBoundOf A E x))

module _ {A E : Type 0} (na : List A → List A) (ne : NormalValues E) (pa : List A → Print) (pe : Values E) where
  abbrev Bound : Type 0
  Bound = TypeParamBound A E

  abbrev pub Bounds : Type 0
  Bounds = Many Bound token.Plus

  abbrev ns : Bounds → Bounds
  ns = normal.bounds na ne

  abbrev pb : Bound → Print
  pb = printing.bound pa pe

  abbrev ps : Bounds → Print
  ps = printing.bounds_joined pa pe

  module _ (part : Manner → Parts A E) (again : Again na ne pa pe part) where
    -- ---- after `dyn` and `impl`

    module _ (place : TypePlace) where
      pub bound_list_again : (kind : BoundPlace) (e : End) (v : Bounds) (l r : Toks) → IsBoundList part plainly place kind e v l r → AgainFront (IsBoundList part clearly place kind e) (normal.bounds na ne) (printing.bounds_joined pa pe) v l r
      bound_list_again kind e v l r (several_bounds {xs = xs} {ps = qs} h i) =
          let k = bounds_again na ne pa pe part again kind AfterMark true e xs qs l r i in
          record { spelt = λ c. several_bounds h (k.spelt c); visible = λ c u w. k.visible c u w; seen = λ u. k.seen u; stays = k.stays; same = k.same }
      bound_list_again kind e v l r (one_bound {x = x} h i) =
          let k = again.bound kind e x l r i in
          let seen = λ (c : Toks). row-append (pb x) [] c in
          record {
            spelt = λ c. subst (λ z. IsBoundList part clearly place kind e (normal.bound na ne x ∷ [], []) z c) (sym (seen c)) (one_bound h (k.spelt c));
            visible = λ c u w. subst Visible (sym (seen c)) (k.visible c u w);
            seen = λ u. k.seen u;
            stays = ap (λ z. (z ∷ [], [])) k.stays;
            same = ap (λ z. z ++ []) k.same;
          }

      pub object_bounds_again : (e : End) (v : Bounds) (l r : Toks) → AreObjectBounds part plainly place e v l r → AgainFront (AreObjectBounds part clearly place e) (normal.bounds na ne) (printing.bounds_joined pa pe) v l r
      object_bounds_again e v l r (object_bounds i h) =
          let k = bound_list_again Object e v l r i in
          record { spelt = λ c. object_bounds (k.spelt c) (any_kept is_trait (normal.bound na ne) (is_trait_kept na ne) v.0 ∙ h); visible = λ c u w. k.visible c u w; seen = λ u. k.seen u; stays = k.stays; same = k.same }

      module _ (own : na [] ≡ []) where
        pub dyn_again : (e : End) (x : TypeTraitObject A E) (l r : Toks) → IsDyn part plainly place e x l r → AgainFront (IsDyn part clearly place e) (normal.trait_object na ne) (printing.trait_object pa pe) x l r
        dyn_again e x l r (a_dyn {w = a} {v = v} {m = m} i j) =
            let h = word_front a l m i in
            let k = object_bounds_again e v m r j in
            let seen = λ (c : Toks). row-append (p.word a) (ps v) c in
            record {
              spelt = λ c. subst (λ z. IsDyn part clearly place e (trait_object_with z (Some a) (ns v)) (row (printing.trait_object pa pe x) c) c) (sym own)
                  (subst (λ z. IsDyn part clearly place e (trait_object_with [] (Some a) (ns v)) z c) (sym (seen c)) (a_dyn (h.spelt (row (ps v) c)) (k.spelt c)));
              visible = λ c u w. subst Visible (sym (seen c)) (h.visible (row (ps v) c) u (k.visible c (h.seen u) w));
              seen = λ u. k.seen (h.seen u);
              stays = ap (λ z. trait_object_with (na z) (Some a) (ns (ns v))) own ∙ ap (trait_object_with (na []) (Some a)) k.stays;
              same = ap (λ z. p.word a ++ z) k.same;
            }

        pub impl_again : (e : End) (x : TypeImplTrait A E) (l r : Toks) → IsImpl part plainly place e x l r → AgainFront (IsImpl part clearly place e) (normal.impl_trait na ne) (printing.impl_trait pa pe) x l r
        impl_again e x l r (an_impl {w = a} {v = v} {m = m} i j g) =
            let h = word_front a l m i in
            let k = bound_list_again Opaque e v m r j in
            let seen = λ (c : Toks). row-append (p.word a) (ps v) c in
            record {
              spelt = λ c. subst (λ z. IsImpl part clearly place e (impl_trait_with z a (ns v)) (row (printing.impl_trait pa pe x) c) c) (sym own)
                  (subst (λ z. IsImpl part clearly place e (impl_trait_with [] a (ns v)) z c) (sym (seen c)) (an_impl (h.spelt (row (ps v) c)) (k.spelt c) (any_kept is_trait (normal.bound na ne) (is_trait_kept na ne) v.0 ∙ g)));
              visible = λ c u w. subst Visible (sym (seen c)) (h.visible (row (ps v) c) u (k.visible c (h.seen u) w));
              seen = λ u. k.seen (h.seen u);
              stays = ap (λ z. impl_trait_with (na z) a (ns (ns v))) own ∙ ap (impl_trait_with (na []) a) k.stays;
              same = ap (λ z. p.word a ++ z) k.same;
            }

        pub object_again : (x : TypeTraitObject A E) (l r : Toks) → IsObject part plainly place x l r → AgainFront (IsObject part clearly place) (normal.trait_object na ne) (printing.trait_object pa pe) x l r
        object_again x l r (an_object {e = e} {v = v} absent j) =
            let k = object_bounds_again e v l r j in
            record {
              spelt = λ c. subst (λ z. IsObject part clearly place (trait_object_with z None (ns v)) (row (ps v) c) c) (sym own) (an_object absent (k.spelt c));
              visible = λ c u w. k.visible c u w;
              seen = λ u. k.seen u;
              stays = ap (λ z. trait_object_with (na z) None (ns (ns v))) own ∙ ap (trait_object_with (na []) None) k.stays;
              same = k.same;
            }
        object_again x l r (an_object {e = e} {v = v} {m = m} (present {a = a} i) j) =
            let k = dyn_again e x l r (a_dyn i j) in
            let as_object = λ (z : TypeTraitObject A E) (c d : Toks) (q : IsDyn part clearly place e z c d). of_dyn e z c d q in
            record { spelt = λ c. as_object (normal.trait_object na ne x) (row (printing.trait_object pa pe x) c) c (k.spelt c); visible = λ c u w. k.visible c u w; seen = λ u. k.seen u; stays = k.stays; same = k.same }
          where
            of_dyn : (e : End) (z : TypeTraitObject A E) (c d : Toks) → IsDyn part clearly place e z c d → IsObject part clearly place z c d
            of_dyn e z c d (a_dyn i j) = an_object (present i) j
