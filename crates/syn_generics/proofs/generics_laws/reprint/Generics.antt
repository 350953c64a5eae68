-- The generics of a declaration print their normal form clearly, where parameters do, whatever these spell: lifetimes first, and nothing without parameters.
use Rattle.std.proofs.Common.{◌≡◌, Bool, true, false, List, [], ◌∷◌, ◌++◌, Some, None, refl, sym, ◌∙◌, ap}
use Rattle.syn_generics.proofs.generics_laws.words.Tokens.{AreListed, none_left, Anywhere, Many, Print, IsMark, Toks}
use Rattle.syn_generics.proofs.generics_laws.words.Paths.{NormalValues, Values}
use Rattle.syn_generics.proofs.generics_laws.words.Types.{sort, sorted, many, is_lifetime, Manner, plainly, clearly, Parts, Relation, GenericParam}
use Rattle.syn_generics.proofs.generics_laws.words.Generics.{GenericsOf, AreGenerics, no_generics, some_generics, empty, generics_of, between}
use Rattle.token_core.specs.Prints as p
use Rattle.token_core.specs.Tokens as token
use Rattle.syn_path.proofs.Words.{AgainFront}
use Rattle.syn_forms.specs.declared.places.ParamPlace.TheVariants as params
use Rattle.syn_generics.specs.generics.Normal as clauses
use Rattle.syn_generics.specs.generics.Printing as shown
use Rattle.syn_ty.specs.ty.Normal as normal
use Rattle.syn_ty.specs.ty.Printing as printing
use Rattle.syn_ty.proofs.generics_laws.Members.{true_false, some, some_sort}
use Rattle.syn_ty.proofs.ty_laws.reprint.Within.{Again}
use Rattle.syn_ty.proofs.ty_laws.reprint.AnglesSorted.{sorted_again}
use Rattle.syn_ty.proofs.ty_laws.reprint.Joined.{then_front}
use Rattle.syn_ty.proofs.ty_laws.reprint.Normals.{kind_kept}
use Rattle.syn_ty.proofs.ty_laws.reprint.Leaves.{mark_front}

-- between angle marks, where there is one
between_some : {T : Type 0} (o : token.Lt) (c : token.Gt) (l : List T) (q : Print) → some l ≡ true → between (Some o) (Some c) l q ≡ p.mark o ++ (q ++ p.mark c)
between_some o c [] q h = true_false (sym h)
between_some o c (x ∷ l) q h = refl

module _ {A E : Type 0} (na : List A → List A) (ne : NormalValues E) (pa : List A → Print) (pe : Values E) (part : Manner → Parts A E) where
  abbrev Params : Type 0
  Params = Many (GenericParam A E) token.Comma

  -- with their parameters between angle marks
  abbrev held_by : token.Lt → token.Gt → Params → GenericsOf A E
  held_by o c v = generics_of (Some o) v (Some c) None

  -- parameters in order
  abbrev ordered : Params → Params
  ordered v = sort is_lifetime (many (normal.param na ne) v)

  abbrev shown_ordered : Params → Print
  shown_ordered = sorted is_lifetime (printing.param pa pe)

  abbrev AreParams : Params → Toks → Toks → Type 0
  AreParams v l r = AreListed (λ (_ : Bool). (part clearly).param params.Generics) (IsMark true) Anywhere true v.0 v.1 l r

  -- what is said of generics
  abbrev pub AgainGenerics : GenericsOf A E → Toks → Toks → Type 0
  AgainGenerics = AgainFront (AreGenerics part clearly) (clauses.generics na ne) (shown.generics pa pe)

  some_params : (o : token.Lt) (c : token.Gt) (v : Params) → some v.0 ≡ true → clauses.generics na ne (held_by o c v) ≡ held_by o c (ordered v)
  some_params o c v h = by_list v.0 v.1 h
    where
      by_list : (xs : List (GenericParam A E)) (cs : List token.Comma) → some xs ≡ true → clauses.generics na ne (held_by o c (xs, cs)) ≡ held_by o c (ordered (xs, cs))
      by_list [] cs h = true_false (sym h)
      by_list (x ∷ xs) cs h = refl

  -- ---- between angle marks, by what spells a parameter

  module _ (Is : Relation (GenericParam A E)) (param : (x : GenericParam A E) (l r : Toks) → Is x l r → AgainFront ((part clearly).param params.Generics) (normal.param na ne) (printing.param pa pe) x l r) where
    abbrev ParamsBy : List (GenericParam A E) → List token.Comma → Toks → Toks → Type 0
    ParamsBy = AreListed (λ (_ : Bool). Is) (IsMark false) Anywhere true

    params_again : (xs : List (GenericParam A E)) (cs : List token.Comma) (l r : Toks) → ParamsBy xs cs l r → AgainFront AreParams ordered shown_ordered (xs, cs) l r
    params_again = sorted_again Is ((part clearly).param params.Generics) (normal.param na ne) (printing.param pa pe) param is_lifetime (kind_kept na ne)

    some_again : (o : token.Lt) (x : GenericParam A E) (xs : List (GenericParam A E)) (cs : List token.Comma) (c : token.Gt) (l m n r : Toks) → IsMark false o l m → ParamsBy (x ∷ xs) cs m n → IsMark false c n r →
        AgainGenerics (held_by o c (x ∷ xs, cs)) l r
    some_again o x xs cs c l m n r i j t =
        let v : Params = (x ∷ xs, cs) in
        let is = some_sort is_lifetime (many (normal.param na ne) v) in
        let e = then_front AreParams ordered shown_ordered (IsMark true) (λ (z : token.Gt). z) (λ (z : token.Gt). p.mark z) v c m n r (params_again (x ∷ xs) cs m n j) (mark_front c n r t) in
        let h = then_front (IsMark true) (λ (z : token.Lt). z) (λ (z : token.Lt). p.mark z) _ _ _ o (v, c) l m r (mark_front o l m i) e in
        record {
          spelt = λ k. let b = h.spelt k in some_generics b.1 b.2.1 b.2.2;
          visible = λ k u w. h.visible k u w;
          seen = λ u. h.seen u;
          stays = some_params o c (ordered v) is ∙ ap (λ (z : token.Lt × (Params × token.Gt)). held_by o c z.1.0) h.stays;
          same = between_some o c (ordered v).0 (shown_ordered (ordered v)) is ∙ h.same;
        }

    -- angle marks that hold nothing are dropped
    none_again : (o : token.Lt) (cs : List token.Comma) (c : token.Gt) (l m n r : Toks) → IsMark false o l m → ParamsBy [] cs m n → IsMark false c n r → AgainGenerics (held_by o c ([], cs)) l r
    none_again o cs c l m n r i (none_left u) t = record { spelt = λ k. no_generics; visible = λ k u v. v; seen = λ u. (mark_front c n r t).seen ((mark_front o l m i).seen u); stays = refl; same = refl }

    pub held_again : (o : token.Lt) (xs : List (GenericParam A E)) (cs : List token.Comma) (c : token.Gt) (l m n r : Toks) → IsMark false o l m → ParamsBy xs cs m n → IsMark false c n r → AgainGenerics (held_by o c (xs, cs)) l r
    held_again o [] cs c l m n r i j t = none_again o cs c l m n r i j t
    held_again o (x ∷ xs) cs c l m n r i j t = some_again o x xs cs c l m n r i j t

  -- ---- all of them

  pub nothing_again : (r : Toks) → AgainGenerics empty r r
  nothing_again r = record { spelt = λ k. no_generics; visible = λ k u v. v; seen = λ u. u; stays = refl; same = refl }

  pub generics_again : Again na ne pa pe part → (x : GenericsOf A E) (l r : Toks) → AreGenerics part plainly x l r → AgainGenerics x l r
  generics_again held x l r no_generics = nothing_again r
  generics_again held x l r (some_generics {o = o} {xs = xs} {cs = cs} {c = c} {m = m} {n = n} i j t) = held_again ((part plainly).param params.Generics) (held.param params.Generics) o xs cs c l m n r i j t
