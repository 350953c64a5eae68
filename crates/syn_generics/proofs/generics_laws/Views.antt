-- What generics print as a whole, without defaults and by name.
use Rattle.std.proofs.Common.{◌≡◌, Bool, true, false, not, ◌&&◌, List, [], ◌∷◌, ◌++◌, Option, Some, None, if◌then◌else◌, filter, length, map, refl, sym, ◌∙◌, ap, arith}
use Rattle.syn_generics.proofs.generics_laws.words.Tokens.{Many, Print, none}
use Rattle.syn_generics.proofs.generics_laws.words.Paths.{Values}
use Rattle.syn_generics.proofs.generics_laws.words.Types.{Member, comma_of, lacks, some_left, adds, each, members, members_of, firsts, others, sorted, is_lifetime, or_default, GenericParam, strip}
use Rattle.syn_generics.proofs.generics_laws.words.Generics.{GenericsOf, between, stripped, names, after_sep, turbofish, between_as}
use Rattle.token_core.specs.declared.mark.Mark.{Mark}
use Rattle.token_core.specs.Prints as p
use Rattle.syn_ty.specs.ty.Types.{Comma, comma}
use Rattle.syn_ty.specs.declared.generics.Style.TheVariants as styles
use Rattle.syn_generics.specs.generics.Printing.{generics}
use Rattle.syn_ty.specs.ty.Printing.{param}
use Rattle.syn_ty.proofs.generics_laws.Views.{strip_kind}

-- ---- lists of changed members

module _ {A : Type 0} (h : A → A) where
  abbrev changed : Member A → Member A
  changed x = (h x.0, x.1)

  members_changed : (l : List A) (cs : List Comma) → members (map h l) cs ≡ map changed (members l cs)
  members_changed [] cs = refl
  members_changed (x ∷ []) [] = refl
  members_changed (x ∷ y ∷ l) [] = ap (λ r. (h x, Some comma) ∷ r) (members_changed (y ∷ l) [])
  members_changed (x ∷ l) (c ∷ cs) = ap (λ r. (h x, Some c) ∷ r) (members_changed l cs)

  filter_changed : (q : Member A → Bool) → ((x : Member A) → q (changed x) ≡ q x) → (l : List (Member A)) → filter q (map changed l) ≡ map changed (filter q l)
  filter_changed q same [] = refl
  filter_changed q same (x ∷ l) = by (q x) refl (filter_changed q same l)
    where
      by : (t : Bool) → q x ≡ t → filter q (map changed l) ≡ map changed (filter q l) → filter q (map changed (x ∷ l)) ≡ map changed (filter q (x ∷ l))
      by true e k = let d : q (changed x) ≡ true = same x ∙ e in rw d (rw e (ap (λ r. changed x ∷ r) k))
      by false e k = let d : q (changed x) ≡ false = same x ∙ e in rw d (rw e k)

  lacks_changed : (l : List (Member A)) → lacks (map changed l) ≡ lacks l
  lacks_changed [] = refl
  lacks_changed ((x, None) ∷ []) = refl
  lacks_changed ((x, Some c) ∷ []) = refl
  lacks_changed (x ∷ y ∷ l) = lacks_changed (y ∷ l)

  left_changed : (l : List (Member A)) → some_left (map changed l) ≡ some_left l
  left_changed [] = refl
  left_changed (x ∷ l) = refl

  each_changed : (f : A → Print) (l : List (Member A)) → each f (map changed l) ≡ each (λ x. f (h x)) l
  each_changed f [] = refl
  each_changed f (x ∷ l) = ap (λ r. f (h x.0) ++ (comma_of x.1 ++ r)) (each_changed f l)

  sorted_changed : (is : A → Bool) (f : A → Print) (v : Many A Comma) → ((x : A) → is (h x) ≡ is x) → sorted is f (map h v.0, v.1) ≡ sorted is (λ x. f (h x)) v
  sorted_changed is f v same =
      let k : firsts is (map h v.0, v.1) ≡ map changed (firsts is v) =
      ap (filter (λ x. is x.0)) (members_changed v.0 v.1) ∙ filter_changed (λ x. is x.0) (λ x. same x.0) (members_of v) in
      let l : others is (map h v.0, v.1) ≡ map changed (others is v) =
      ap (filter (λ x. not (is x.0))) (members_changed v.0 v.1) ∙ filter_changed (λ x. not (is x.0)) (λ x. ap not (same x.0)) (members_of v) in
      let a : adds (firsts is (map h v.0, v.1)) (others is (map h v.0, v.1)) ≡ adds (firsts is v) (others is v) =
      ap (λ z. adds z (others is (map h v.0, v.1))) k ∙ ap (λ z. adds (map changed (firsts is v)) z) l
      ∙ ap (λ z. z && some_left (map changed (others is v))) (lacks_changed (firsts is v)) ∙ ap (λ z. lacks (firsts is v) && z) (left_changed (others is v)) in
      ap (λ z. z ++ ((if adds (firsts is (map h v.0, v.1)) (others is (map h v.0, v.1)) then p.mark comma else []) ++ each f (others is (map h v.0, v.1)))) (ap (each f) k ∙ each_changed f (firsts is v))
      ∙ ap (λ z. each (λ x. f (h x)) (firsts is v) ++ ((if z then p.mark comma else []) ++ each f (others is (map h v.0, v.1)))) a
      ∙ ap (λ z. each (λ x. f (h x)) (firsts is v) ++ ((if adds (firsts is v) (others is v) then p.mark comma else []) ++ z)) (ap (each f) l ∙ each_changed f (others is v))

  between_changed : (lt : Option (Mark 2 1)) (gt : Option (Mark 3 1)) (l : List A) (r : Print) → between lt gt (map h l) r ≡ between lt gt l r
  between_changed lt gt [] r = refl
  between_changed lt gt (x ∷ l) r = refl

-- ---- generics by the style of their parameters

module _ {A : Type 0} where
  pub no_params : (lt : Option (Mark 2 1)) (gt : Option (Mark 3 1)) (l : List A) (r : Print) → length l ≡ 0 → between lt gt l r ≡ []
  no_params lt gt [] r h = refl
  no_params lt gt (x ∷ l) r h = absurd (omega (arith, h))

  pub some_params : (lt : Option (Mark 2 1)) (gt : Option (Mark 3 1)) (l : List A) (r : Print) → ¬ (length l ≡ 0) → between lt gt l r ≡ or_default lt ++ (r ++ or_default gt)
  some_params lt gt [] r h = absurd (h refl)
  some_params lt gt (x ∷ l) r h = refl

pub ruleset betweens = (no_params, some_params)

module _ {A E : Type 0} where
  pub no_names : (x : GenericsOf A E) → length x.params.0 ≡ 0 → turbofish x ≡ []
  no_names x h = by x.params.0 (names x) h
    where
      by : (l : List (GenericParam A E)) (r : Print) → length l ≡ 0 → after_sep l r ≡ []
      by [] r h = refl
      by (x ∷ l) r h = absurd (omega (arith, h))

  pub some_names : (x : GenericsOf A E) → ¬ (length x.params.0 ≡ 0) → turbofish x ≡ p.mark {n = 1} {l = 2} (record { spans = none ∷ none ∷ [] }) ++ names x
  some_names x h = by x.params.0 (names x) h
    where
      by : (l : List (GenericParam A E)) (r : Print) → ¬ (length l ≡ 0) → after_sep l r ≡ p.mark {n = 1} {l = 2} (record { spans = none ∷ none ∷ [] }) ++ r
      by [] r h = absurd (h refl)
      by (x ∷ l) r h = refl

pub ruleset after_seps = (no_names, some_names)

module _ {A E : Type 0} (pa : List A → Print) (pe : Values E) where
  pub shown_whole : (x : GenericsOf A E) → between_as pa pe styles.Whole x ≡ generics pa pe x
  shown_whole x = refl

  pub shown_stripped : (x : GenericsOf A E) → between_as pa pe styles.NoDefault x ≡ generics pa pe (stripped x)
  shown_stripped x =
      sym (between_changed strip x.lt_token x.gt_token x.params.0 (sorted is_lifetime (param pa pe) (map strip x.params.0, x.params.1))
      ∙ ap (between x.lt_token x.gt_token x.params.0) (sorted_changed strip is_lifetime (param pa pe) x.params strip_kind))

  pub shown_names : (x : GenericsOf A E) → between_as pa pe styles.Name x ≡ names x
  shown_names x = refl

pub ruleset showns = (shown_whole, shown_stripped, shown_names)
