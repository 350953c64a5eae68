-- Predicates and where clauses print their normal form clearly, where what stands within them does; a clause without predicates prints nothing.
use Rattle.std.proofs.Common.{◌≡◌, ◌⊎◌, ◌&&◌, Bool, true, false, List, [], ◌∷◌, ◌++◌, Option, Some, None, inl, inr, refl, sym, ap, subst}
use Rattle.syn_generics.proofs.generics_laws.words.Tokens.{Lifetime, AreListed, none_left, last_value, value_and_mark, Anywhere, joined, Many, Print, is_ident, second, sees_mark, sees_word, third, Visible, IsMark, IsWord, is_word, IsLifetime, is_lifetime, Toks, row}
use Rattle.syn_generics.proofs.generics_laws.words.Paths.{NormalValues, Values}
use Rattle.syn_generics.proofs.generics_laws.words.Forms.{Bounded}
use Rattle.syn_generics.proofs.generics_laws.words.Types.{IsFor, begins_as_generics, many, lifetimes_joined, a_binder, Manner, plainly, clearly, End, Parts, Relation, IsOptional, absent, present, BoundLifetimes, TypeParamBound, TypeTree}
use Rattle.syn_generics.proofs.generics_laws.words.Generics.{PredicateLifetimeOf, PredicateTypeOf, WhereClauseOf, WherePredicateOf, IsLifetimePredicate, a_lifetime_predicate, AreBoundsOf, bounds_of, IsTypePredicate, a_type_predicate, a_type_predicate_for, IsPredicate, of_lifetime, of_type, IsWhereClause, a_where_clause, predicate_lifetime_of, predicate_type_of, where_clause_of}
use Rattle.token_core.specs.Lifetimes as lifetimes
use Rattle.token_core.specs.Prints as p
use Rattle.token_core.specs.Tokens as token
use Rattle.token_core.proofs.Rows.{row-append}
use Rattle.token_core.proofs.WordSpells.{lifetime_again, word_again}
use Rattle.syn_path.proofs.Words.{AgainFront}
use Rattle.syn_forms.proofs.tokens_laws.Mutability.{word_front}
use Rattle.syn_generics.specs.declared.generics.WherePredicateOf.TheVariants as w
use Rattle.syn_generics.specs.generics.Normal as normals
use Rattle.syn_generics.specs.generics.Printing as shown
use Rattle.syn_ty.specs.ty.Normal as normal
use Rattle.syn_ty.specs.ty.Printing as printing
use Rattle.syn_ty.proofs.generics_laws.Members.{true_false, some}
use Rattle.syn_ty.proofs.ty_laws.reprint.Within.{Again, SuppliedAgain}
use Rattle.syn_ty.proofs.ty_laws.reprint.Joined.{Then, then_front, made_front, lifetime_front, AreLives, lives_again}
use Rattle.syn_ty.proofs.ty_laws.reprint.Params.{BoundsAgain, SomeBounds, some_bounds_again, for_again}
use Rattle.syn_ty.proofs.ty_laws.reprint.Leaves.{mark_front, listed_front}
use Rattle.syn_ty.proofs.ty_laws.reprint.Kept.{KeptParts, AttrsBegin}

-- ---- what is to be given of how prints begin

module _ {A E : Type 0} (pa : List A → Print) (pe : Values E) (part : Manner → Parts A E) where
  -- where no `for` begins a type, none begins its print
  abbrev pub ForKept : Type 0
  ForKept = (e : End) (x : TypeTree A E) (l r : Toks) → (part plainly).ty Bounded e x l r → token.sees_for l ≡ false → (k : Toks) → token.sees_for (row (printing.ty pa pe x) k) ≡ false

  -- a type whose list does not begin as generics do prints none that does
  abbrev pub TypeKept : Type 0
  TypeKept = (e : End) (x : TypeTree A E) (l r : Toks) → (part plainly).ty Bounded e x l r → begins_as_generics l ≡ false → (k : Toks) → begins_as_generics (row (printing.ty pa pe x) k) ≡ false

module _ {A E : Type 0} (pa : List A → Print) (pe : Values E) (part : Manner → Parts A E) (kept : KeptParts pa pe part) where
  pub for_kept : ForKept pa pe part
  for_kept e x l r i h k = (kept.ty Bounded e x l r i).for_kept h k

  pub generics_kept : TypeKept pa pe part
  generics_kept e x l r i h k = (kept.ty Bounded e x l r i).lt_kept h k

-- ---- predicates and clauses

module _ {A E : Type 0} (na : List A → List A) (ne : NormalValues E) (pa : List A → Print) (pe : Values E) (part : Manner → Parts A E) (held : Again na ne pa pe part) (supplied : SuppliedAgain na ne pa pe part) where
  -- ---- lifetimes

  abbrev Lives : Type 0
  Lives = Many Lifetime token.Plus

  abbrev LifetimePieces : Type 0
  LifetimePieces = List A × (Lifetime × (token.Colon × Lives))

  abbrev lifetime_of : LifetimePieces → PredicateLifetimeOf A
  lifetime_of z = predicate_lifetime_of z.0 z.1.0 z.1.1.0 z.1.1.1

  pub lifetime_predicate_again : (x : PredicateLifetimeOf A) (l r : Toks) → IsLifetimePredicate part plainly x l r → AgainFront (IsLifetimePredicate part clearly) (normals.predicate_lifetime na ne) (shown.predicate_lifetime pa pe) x l r
  lifetime_predicate_again x l r (a_lifetime_predicate {a = a} {x = y} {c = c} {xs = xs} {ps = ps} {m = m} {n = n} {k = k} i j t q) =
      let u = then_front (IsMark true) (λ (z : token.Colon). z) (λ (z : token.Colon). p.mark z) (AreLives true) (λ (z : Lives). z) lifetimes_joined c (xs, ps) n k r (mark_front c n k t) (lives_again (xs, ps) k r q) in
      let b = then_front IsLifetime (λ (z : Lifetime). z) lifetimes.print _ _ _ y (c, (xs, ps)) m n r (lifetime_front y m n j) u in
      let o = then_front (part clearly).attrs na pa _ _ _ a (y, (c, (xs, ps))) l m r (supplied.attrs a l m i) b in
      made_front _ _ _ (IsLifetimePredicate part clearly) (normals.predicate_lifetime na ne) (shown.predicate_lifetime pa pe) lifetime_of (λ z. refl) (λ z. refl)
      (λ z f g h. a_lifetime_predicate h.1 h.2.1 h.2.2.1 h.2.2.2) (a, (y, (c, (xs, ps)))) l r o

  -- ---- types, over their bounds

  abbrev Bounds : Type 0
  Bounds = Many (TypeParamBound A E) token.Plus

  abbrev AfterFor : Type 0
  AfterFor = TypeTree A E × (token.Colon × Bounds)

  -- a type that does not begin with `for`
  abbrev IsPlain : End → Relation (TypeTree A E)
  IsPlain e x l r = (token.sees_for l ≡ false) × (part clearly).ty Bounded e x l r

  abbrev plain_of : List A × AfterFor → PredicateTypeOf A E
  plain_of z = predicate_type_of z.0 None z.1.0 z.1.1.0 z.1.1.1

  abbrev bound_of : List A × (BoundLifetimes A E × AfterFor) → PredicateTypeOf A E
  bound_of z = predicate_type_of z.0 (Some z.1.0) z.1.1.0 z.1.1.1.0 z.1.1.1.1

  module _ (bounds : BoundsAgain na ne pa pe part) (no_for : ForKept pa pe part) where
    bounds_again : (c : token.Colon) (xs : List (TypeParamBound A E)) (ps : List token.Plus) (l r : Toks) → AreBoundsOf part plainly c xs ps l r →
        AgainFront (Then (IsMark true) (SomeBounds na ne pa pe part clearly)) (λ z. (z.0, normal.bounds na ne z.1)) (λ z. p.mark z.0 ++ printing.bounds_joined pa pe z.1) (c, (xs, ps)) l r
    bounds_again c xs ps l r (bounds_of {e = e} {m = m} i j) =
        then_front (IsMark true) (λ (z : token.Colon). z) (λ (z : token.Colon). p.mark z) (SomeBounds na ne pa pe part clearly) (normal.bounds na ne) (printing.bounds_joined pa pe) c (xs, ps) l m r
        (mark_front c l m i) (some_bounds_again na ne pa pe part held supplied bounds (xs, ps) m r (e, j))

    plain_again : (e : End) (x : TypeTree A E) (l r : Toks) → token.sees_for l ≡ false → (part plainly).ty Bounded e x l r → AgainFront (IsPlain e) (normal.ty na ne) (printing.ty pa pe) x l r
    plain_again e x l r n i = let h = held.ty Bounded e x l r i in record { spelt = λ k. (no_for e x l r i n k, h.spelt k); visible = λ k u v. h.visible k u v; seen = λ u. h.seen u; stays = h.stays; same = h.same }

    pub type_predicate_again : (x : PredicateTypeOf A E) (l r : Toks) → IsTypePredicate part plainly x l r → AgainFront (IsTypePredicate part clearly) (normals.predicate_type na ne) (shown.predicate_type pa pe) x l r
    type_predicate_again x l r (a_type_predicate {a = a} {e = e} {x = y} {c = c} {xs = xs} {ps = ps} {m = m} {n = n} i f j t) =
        let b = then_front (IsPlain e) (normal.ty na ne) (printing.ty pa pe) _ _ _ y (c, (xs, ps)) m n r (plain_again e y m n f j) (bounds_again c xs ps n r t) in
        let o = then_front (part clearly).attrs na pa _ _ _ a (y, (c, (xs, ps))) l m r (supplied.attrs a l m i) b in
        made_front _ _ _ (IsTypePredicate part clearly) (normals.predicate_type na ne) (shown.predicate_type pa pe) plain_of (λ z. refl) (λ z. refl)
        (λ z d g h. a_type_predicate h.1 h.2.1.0 h.2.1.1 (bounds_of h.2.2.1 h.2.2.2.1)) (a, (y, (c, (xs, ps)))) l r o
    type_predicate_again x l r (a_type_predicate_for {a = a} {o = v} {e = e} {x = y} {c = c} {xs = xs} {ps = ps} {m = m} {n = n} {k = k} i f j t) =
        let b = then_front ((part clearly).ty Bounded e) (normal.ty na ne) (printing.ty pa pe) _ _ _ y (c, (xs, ps)) n k r (held.ty Bounded e y n k j) (bounds_again c xs ps k r t) in
        let s = then_front (IsFor part clearly) (normal.bound_lifetimes na ne) (printing.bound_lifetimes pa pe) _ _ _ v (y, (c, (xs, ps))) m n r (for_again na ne pa pe part held v m n f) b in
        let o = then_front (part clearly).attrs na pa _ _ _ a (v, (y, (c, (xs, ps)))) l m r (supplied.attrs a l m i) s in
        made_front _ _ _ (IsTypePredicate part clearly) (normals.predicate_type na ne) (shown.predicate_type pa pe) bound_of (λ z. refl) (λ z. refl)
        (λ z d g h. a_type_predicate_for h.1 h.2.1 h.2.2.1 (bounds_of h.2.2.2.1 h.2.2.2.2.1)) (a, (v, (y, (c, (xs, ps))))) l r o

    -- ---- predicates

    pub predicate_again : (x : WherePredicateOf A E) (l r : Toks) → IsPredicate part plainly x l r → AgainFront (IsPredicate part clearly) (normals.predicate na ne) (shown.predicate pa pe) x l r
    predicate_again x l r (of_lifetime {x = y} i) =
        made_front (IsLifetimePredicate part clearly) (normals.predicate_lifetime na ne) (shown.predicate_lifetime pa pe) (IsPredicate part clearly) (normals.predicate na ne) (shown.predicate pa pe) w.Lifetime (λ z. refl) (λ z. refl)
        (λ z b c h. of_lifetime h) y l r (lifetime_predicate_again y l r i)
    predicate_again x l r (of_type {x = y} i) =
        made_front (IsTypePredicate part clearly) (normals.predicate_type na ne) (shown.predicate_type pa pe) (IsPredicate part clearly) (normals.predicate na ne) (shown.predicate pa pe) w.«Type» (λ z. refl) (λ z. refl)
        (λ z b c h. of_type h) y l r (type_predicate_again y l r i)

    -- ---- where clauses, of predicates that do not begin as generics do

    module _ (attrs_begin : AttrsBegin pa pe part) (type_kept : TypeKept pa pe part) where
      no_lt : (l : Toks) → token.sees_lt l ≡ false → begins_as_generics l ≡ false
      no_lt l h = ap (λ (b : Bool). b && (second (sees_word is_ident) l && third token.sees_gt l)) h

      after_attrs : (a : List A) (q : Print) (l m : Toks) → (part plainly).attrs a l m → begins_as_generics l ≡ false → (begins_as_generics m ≡ false → (k : Toks) → begins_as_generics (row q k) ≡ false) →
          (k : Toks) → begins_as_generics (row (pa a ++ q) k) ≡ false
      after_attrs a q l m i n h k = subst (λ z. begins_as_generics z ≡ false) (sym (row-append (pa a) q k)) (by_case (attrs_begin a l m i (row q k)))
        where
          by_case : ((l ≡ m) × (row (pa a) (row q k) ≡ row q k)) ⊎ (token.sees_lt (row (pa a) (row q k)) ≡ false) → begins_as_generics (row (pa a) (row q k)) ≡ false
          by_case (inl e) = subst (λ z. begins_as_generics z ≡ false) (sym e.1) (h (subst (λ z. begins_as_generics z ≡ false) e.0 n) k)
          by_case (inr f) = no_lt (row (pa a) (row q k)) f

      life_no_lt : (x : Lifetime) (l r : Toks) → IsLifetime x l r → token.sees_lt l ≡ false
      unfolding sees_mark
      life_no_lt x l r is_lifetime = refl

      for_no_lt : (x : token.For) (l r : Toks) → IsWord x l r → token.sees_lt l ≡ false
      unfolding sees_mark
      for_no_lt x l r is_word = refl

      binder_begins : (x : BoundLifetimes A E) (l r k : Toks) → IsFor part plainly x l r → begins_as_generics (row (printing.bound_lifetimes pa pe x) k) ≡ false
      binder_begins x l r k (a_binder {f = f} {o = o} {xs = xs} {cs = cs} {c = c} {m = m} i j t q) =
          let rest = p.mark o ++ (joined (printing.param pa pe) p.mark xs cs ++ p.mark c) in
          subst (λ z. begins_as_generics z ≡ false) (sym (row-append (p.word f) rest k)) (no_lt (row (p.word f) (row rest k)) (for_no_lt f (row (p.word f) (row rest k)) (row rest k) (word_again f l m (row rest k) i)))

      pub predicate_begins : (x : WherePredicateOf A E) (l r : Toks) → IsPredicate part plainly x l r → begins_as_generics l ≡ false → (k : Toks) → begins_as_generics (row (shown.predicate pa pe x) k) ≡ false
      predicate_begins x l r (of_lifetime (a_lifetime_predicate {a = a} {x = y} {c = c} {xs = xs} {ps = ps} {m = m} {n = n} i j t q)) b k =
          let rest = p.mark c ++ lifetimes_joined (xs, ps) in
          after_attrs a (lifetimes.print y ++ rest) l m i b
          (λ d o. subst (λ z. begins_as_generics z ≡ false) (sym (row-append (lifetimes.print y) rest o)) (no_lt (row (lifetimes.print y) (row rest o)) (life_no_lt y (row (lifetimes.print y) (row rest o)) (row rest o) (lifetime_again y m n (row rest o) j)))) k
      predicate_begins x l r (of_type (a_type_predicate {a = a} {e = e} {x = y} {c = c} {xs = xs} {ps = ps} {m = m} {n = n} i f j t)) b k =
          let rest = p.mark c ++ printing.bounds_joined pa pe (xs, ps) in
          after_attrs a (printing.ty pa pe y ++ rest) l m i b (λ d o. subst (λ z. begins_as_generics z ≡ false) (sym (row-append (printing.ty pa pe y) rest o)) (type_kept e y m n j d (row rest o))) k
      predicate_begins x l r (of_type (a_type_predicate_for {a = a} {o = v} {x = y} {c = c} {xs = xs} {ps = ps} {m = m} {n = n} i f j t)) b k =
          let rest = printing.ty pa pe y ++ (p.mark c ++ printing.bounds_joined pa pe (xs, ps)) in
          after_attrs a (printing.bound_lifetimes pa pe v ++ rest) l m i b (λ d o. subst (λ z. begins_as_generics z ≡ false) (sym (row-append (printing.bound_lifetimes pa pe v) rest o)) (binder_begins v m n (row rest o) f)) k

      -- ---- a clause

      abbrev Predicates : Type 0
      Predicates = Many (WherePredicateOf A E) token.Comma

      abbrev ArePredicates : Manner → Bool → Relation Predicates
      ArePredicates how clear v l r = AreListed (λ (_ : Bool). IsPredicate part how) (IsMark clear) Anywhere true v.0 v.1 l r

      abbrev shown_predicates : Predicates → Print
      shown_predicates v = joined (shown.predicate pa pe) p.mark v.0 v.1

      predicates_again : (v : Predicates) (l r : Toks) → ArePredicates plainly false v l r → AgainFront (ArePredicates clearly true) (many (normals.predicate na ne)) shown_predicates v l r
      predicates_again v l r i =
          listed_front (λ (_ : Bool). IsPredicate part plainly) (λ (_ : Bool). IsPredicate part clearly) (IsMark false) (IsMark true) Anywhere (normals.predicate na ne) (shown.predicate pa pe) p.mark (λ _. predicate_again) mark_front true v.0 v.1 l r i

      predicates_begin : (x : WherePredicateOf A E) (xs : List (WherePredicateOf A E)) (cs : List token.Comma) (l r : Toks) → ArePredicates plainly false (x ∷ xs, cs) l r → begins_as_generics l ≡ false → (k : Toks) →
          begins_as_generics (row (shown_predicates (x ∷ xs, cs)) k) ≡ false
      predicates_begin x xs cs l r (last_value i) b k =
          subst (λ z. begins_as_generics z ≡ false) (sym (row-append (shown.predicate pa pe x) [] k)) (predicate_begins x l r i b k)
      predicates_begin x xs cs l r (value_and_mark {p = c} {xs = ys} {ps = ds} {m = m} i j t) b k =
          let rest = p.mark c ++ shown_predicates (ys, ds) in
          subst (λ z. begins_as_generics z ≡ false) (sym (row-append (shown.predicate pa pe x) rest k)) (predicate_begins x l m i b (row rest k))

      some_again : (q : token.Where) (x : WherePredicateOf A E) (xs : List (WherePredicateOf A E)) (cs : List token.Comma) (l m r : Toks) → IsWord q l m → begins_as_generics m ≡ false → ArePredicates plainly false (x ∷ xs, cs) m r →
          AgainFront (IsWhereClause part clearly) (normals.where_clause na ne) (shown.where_clause pa pe) (where_clause_of q (x ∷ xs, cs)) l r
      some_again q x xs cs l m r i b j =
          let v : Predicates = (x ∷ xs, cs) in
          let h = then_front IsWord (λ (z : token.Where). z) (λ (z : token.Where). p.word z) (ArePredicates clearly true) (many (normals.predicate na ne)) shown_predicates q v l m r (word_front q l m i) (predicates_again v m r j) in
          record {
            spelt = λ k. subst (λ z. IsWhereClause part clearly (where_clause_of q (many (normals.predicate na ne) v)) z k) (sym (row-append (p.word q) (shown_predicates v) k))
                (a_where_clause ((word_front q l m i).spelt (row (shown_predicates v) k)) (predicates_begin x xs cs m r j b k) ((predicates_again v m r j).spelt k));
            visible = λ k u z. h.visible k u z;
            seen = λ u. h.seen u;
            stays = ap (λ (z : token.Where × Predicates). where_clause_of q z.1) h.stays;
            same = h.same;
          }

      none_seen : (q : token.Where) (cs : List token.Comma) (l m r : Toks) → IsWord q l m → ArePredicates plainly false ([], cs) m r → (cs ≡ []) × (Visible l → Visible r)
      none_seen q cs l m r i (none_left u) = (refl, λ v. (word_front q l m i).seen v)

      pub clause_again : (x : WhereClauseOf A E) (l r : Toks) → IsWhereClause part plainly x l r → some x.predicates.0 ≡ true → AgainFront (IsWhereClause part clearly) (normals.where_clause na ne) (shown.where_clause pa pe) x l r
      clause_again x l r (a_where_clause {q = q} {xs = xs} {cs = cs} {m = m} i b j) h = by_list xs j h
        where
          by_list : (ys : List (WherePredicateOf A E)) → ArePredicates plainly false (ys, cs) m r → some ys ≡ true → AgainFront (IsWhereClause part clearly) (normals.where_clause na ne) (shown.where_clause pa pe) (where_clause_of q (ys, cs)) l r
          by_list [] j h = true_false (sym h)
          by_list (y ∷ ys) j h = some_again q y ys cs l m r i b j

      -- where a clause may be there, one without predicates is none
      pub optional_where_again : (o : Option (WhereClauseOf A E)) (l r : Toks) → IsOptional (IsWhereClause part plainly) o l r →
          AgainFront (IsOptional (IsWhereClause part clearly)) (normals.where_option na ne) (p.optional (shown.where_clause pa pe)) o l r
      optional_where_again o l r absent = record { spelt = λ k. absent; visible = λ k u v. v; seen = λ u. u; stays = refl; same = refl }
      optional_where_again o l r (present (a_where_clause {q = q} {xs = xs} {cs = cs} {m = m} i b j)) = by_list xs j
        where
          by_list : (ys : List (WherePredicateOf A E)) → ArePredicates plainly false (ys, cs) m r →
              AgainFront (IsOptional (IsWhereClause part clearly)) (normals.where_option na ne) (p.optional (shown.where_clause pa pe)) (Some (where_clause_of q (ys, cs))) l r
          by_list [] j = record { spelt = λ k. absent; visible = λ k u v. v; seen = (none_seen q cs l m r i j).1; stays = refl; same = refl }
          by_list (y ∷ ys) j =
              let h = some_again q y ys cs l m r i b j in
              record { spelt = λ k. present (h.spelt k); visible = λ k u v. h.visible k u v; seen = λ u. h.seen u; stays = ap (λ z. Some z) h.stays; same = h.same }
