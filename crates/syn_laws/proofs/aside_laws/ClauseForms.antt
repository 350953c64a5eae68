-- Generics, where clauses and predicates on lists that are the same aside from spans.
use Rattle.std.proofs.Common.{◌≡◌, Bool, true, false, ◌&&◌, ◌==◌, if◌then◌else◌, List, Some, None, map, refl, sym, ap, ◌∙◌}
use Rattle.token_core.specs.declared.lifetime.Lifetime.{Lifetime}
use Rattle.token_core.specs.Front.{front}
use Rattle.token_core.specs.Reads.{after_one, after_quote, as_word, second, sees_word, is_ident, is_joint}
use Rattle.token_core.specs.Tokens as token
use Rattle.token_core.specs.Toks.{Toks}
use Rattle.syn_generics.specs.declared.generics.GenericsOf.{GenericsOf}
use Rattle.syn_generics.specs.declared.generics.PredicateLifetimeOf.{PredicateLifetimeOf}
use Rattle.syn_generics.specs.declared.generics.PredicateTypeOf.{PredicateTypeOf}
use Rattle.syn_generics.specs.declared.generics.WhereClauseOf.{WhereClauseOf}
use Rattle.syn_generics.specs.declared.generics.WherePredicateOf.{WherePredicateOf}
use Rattle.syn_generics.specs.declared.generics.WherePredicateOf.TheVariants as w
use Rattle.syn_generics.specs.generics.Clauses.{IsLifetimePredicate, a_lifetime_predicate, AreBoundsOf, bounds_of, IsTypePredicate, a_type_predicate, a_type_predicate_for, IsPredicate, of_lifetime, of_type, IsWhereClause, a_where_clause}
use Rattle.syn_generics.specs.generics.Parameters.{AreGenerics, no_generics, some_generics}
use Rattle.syn_generics.specs.generics.Params.{empty, generics_of, predicate_lifetime_of, predicate_type_of, where_clause_of}
use Rattle.syn_ty.specs.generics.Parameters.{begins_as_generics}
use Rattle.syn_ty.specs.ty.Parts.{Manner, clearly, Parts}
use Rattle.syn_ty.specs.ty.Trees.{BoundLifetimes, GenericParam, TypeParamBound, TypeTree}
use Rattle.syn_laws.specs.aside.Generics as free
use Rattle.syn_path.specs.aside.Tokens as tokens
use Rattle.syn_laws.specs.aside.Types as types
use Rattle.syn_path.proofs.aside_laws.Both.{of3, of4, of5}
use Rattle.syn_laws.proofs.aside_laws.BoundForms.{for_moves}
use Rattle.syn_laws.proofs.aside_laws.Parts.{Moving}
use Rattle.syn_laws.proofs.aside_laws.PathForms.{bounds_move}
use Rattle.syn_path.proofs.aside_laws.Same.{Same, same_done, same_word, same_mark, same_lit, same_group, all_left, onward, Moved}
use Rattle.syn_path.proofs.aside_laws.Tokens.{listed_move, mark_moves, word_moves, lifetime_moves, mark_seen, word_seen}

-- ---- tests of what stands behind the first tokens

abbrev Seen : (Toks → Bool) → Type 0
Seen test = (l m : Toks) → Same l m → test l ≡ test m

quote_same : {k m : Toks} → Same k m → Same (after_quote k (as_word (front k))) (after_quote m (as_word (front m)))
quote_same same_done = same_done
quote_same (same_word s) = s
quote_same (same_mark s) = same_mark s
quote_same (same_lit s) = same_lit s
quote_same (same_group v i s) = same_group v i s

if_same : (b : Bool) {x y z w : Toks} → Same x y → Same z w → Same (if b then x else z) (if b then y else w)
if_same true s t = s
if_same false s t = t

behind : (test : Toks → Bool) → Seen test → (l m : Toks) → Same l m → second test l ≡ second test m
unfolding after_one
behind test f _ _ same_done = refl
behind test f _ _ (same_word s) = f _ _ s
behind test f _ _ (same_lit s) = f _ _ s
behind test f _ _ (same_group v i s) = f _ _ s
behind test f _ _ (same_mark {c = c} {j = j} s) = f _ _ (if_same (c == 39) (if_same (is_joint j) (quote_same s) s) s)

generics_seen : {l m : Toks} → Same l m → begins_as_generics l ≡ begins_as_generics m
generics_seen s =
    of3 (λ (a b c : Bool). a && (b && c)) (mark_seen _ s) (behind (sees_word is_ident) (λ l m s. word_seen is_ident s) _ _ s)
    (behind (second token.sees_gt) (λ l m s. behind token.sees_gt (λ l m s. mark_seen _ s) l m s) _ _ s)

module _ {A E : Type 0} (na : List A → List A) (ne : E → E) (part : Manner → Parts A E) (up : Moving na ne (part clearly)) where
  pub generics_move : {x : GenericsOf A E} {l r m : Toks} → AreGenerics part clearly x l r → Same l m → Moved (free.generics na ne) (AreGenerics part clearly) x r m
  generics_move no_generics s = record { tree = empty; rest = _; is = no_generics; same = refl; on = s; part = all_left }
  generics_move (some_generics i t j) s =
      let a = mark_moves i s in
      let v = listed_move (types.param na ne) tokens.mark t a.on (λ b. up.param _) (λ x l r m. mark_moves) in
      let c = mark_moves j v.on in
      record {
        tree = generics_of (Some a.tree) (v.values, v.marks) (Some c.tree) None;
        rest = c.rest;
        is = some_generics a.is v.is c.is;
        same = of4 (λ (a : token.Lt) (x : List (GenericParam A E)) (p : List token.Comma) (c : token.Gt). generics_of (Some a) (x, p) (Some c) None) a.same v.same v.same_marks c.same;
        on = c.on;
        part = onward c.part (onward v.part a.part);
      }

  lifetime_predicate_moves : {x : PredicateLifetimeOf A} {l r m : Toks} → IsLifetimePredicate part clearly x l r → Same l m → Moved (free.predicate_lifetime na ne) (IsLifetimePredicate part clearly) x r m
  lifetime_predicate_moves (a_lifetime_predicate i j k t) s =
      let a = up.attrs _ _ _ _ i s in
      let b = lifetime_moves j a.on in
      let c = mark_moves k b.on in
      let v = listed_move tokens.lifetime tokens.mark t c.on (λ b x l r m. lifetime_moves) (λ x l r m. mark_moves) in
      record {
        tree = predicate_lifetime_of a.tree b.tree c.tree (v.values, v.marks);
        rest = v.rest;
        is = a_lifetime_predicate a.is b.is c.is v.is;
        same = of5 (λ (a : List A) (b : Lifetime) (c : token.Colon) (x : List Lifetime) (p : List token.Plus). predicate_lifetime_of a b c (x, p)) a.same b.same c.same v.same v.same_marks;
        on = v.on;
        part = onward v.part (onward c.part (onward b.part a.part));
      }

  abbrev Bounds : Type 0
  Bounds = token.Colon × List (TypeParamBound A E) × List token.Plus

  abbrev bounds : Bounds → Bounds
  bounds x = (tokens.mark x.0, map (types.bound na ne) x.1, map tokens.mark x.2)

  bounds_of_move : {c : token.Colon} {xs : List (TypeParamBound A E)} {ps : List token.Plus} {l r m : Toks} → AreBoundsOf part clearly c xs ps l r → Same l m → Moved bounds (λ z. AreBoundsOf part clearly z.0 z.1 z.2) (c, xs, ps) r m
  bounds_of_move (bounds_of i j) s =
      let a = mark_moves i s in
      let v = bounds_move na ne part up j a.on in
      record { tree = (a.tree, v.values, v.marks); rest = v.rest; is = bounds_of a.is v.is; same = of3 (λ (a : token.Colon) (x : List (TypeParamBound A E)) (p : List token.Plus). (a, x, p)) a.same v.same v.same_marks; on = v.on; part = onward v.part a.part }

  type_predicate_moves : {x : PredicateTypeOf A E} {l r m : Toks} → IsTypePredicate part clearly x l r → Same l m → Moved (free.predicate_type na ne) (IsTypePredicate part clearly) x r m
  type_predicate_moves (a_type_predicate i h t k) s =
      let a = up.attrs _ _ _ _ i s in
      let y = up.ty _ _ _ _ _ _ t a.on in
      let v = bounds_of_move k y.on in
      record {
        tree = predicate_type_of a.tree None y.tree v.tree.0 (v.tree.1, v.tree.2);
        rest = v.rest;
        is = a_type_predicate a.is (sym (word_seen _ a.on) ∙ h) y.is v.is;
        same = of3 (λ (a : List A) (y : TypeTree A E) (v : Bounds). predicate_type_of a None y v.0 (v.1, v.2)) a.same y.same v.same;
        on = v.on;
        part = onward v.part (onward y.part a.part);
      }
  type_predicate_moves (a_type_predicate_for i j t k) s =
      let a = up.attrs _ _ _ _ i s in
      let o = for_moves na ne part up j a.on in
      let y = up.ty _ _ _ _ _ _ t o.on in
      let v = bounds_of_move k y.on in
      record {
        tree = predicate_type_of a.tree (Some o.tree) y.tree v.tree.0 (v.tree.1, v.tree.2);
        rest = v.rest;
        is = a_type_predicate_for a.is o.is y.is v.is;
        same = of4 (λ (a : List A) (o : BoundLifetimes A E) (y : TypeTree A E) (v : Bounds). predicate_type_of a (Some o) y v.0 (v.1, v.2)) a.same o.same y.same v.same;
        on = v.on;
        part = onward v.part (onward y.part (onward o.part a.part));
      }

  pub predicate_moves : {x : WherePredicateOf A E} {l r m : Toks} → IsPredicate part clearly x l r → Same l m → Moved (free.predicate na ne) (IsPredicate part clearly) x r m
  predicate_moves (of_lifetime i) s = let q = lifetime_predicate_moves i s in record { tree = w.Lifetime q.tree; rest = q.rest; is = of_lifetime q.is; same = ap w.Lifetime q.same; on = q.on; part = q.part }
  predicate_moves (of_type i) s = let q = type_predicate_moves i s in record { tree = w.«Type» q.tree; rest = q.rest; is = of_type q.is; same = ap w.«Type» q.same; on = q.on; part = q.part }

  pub clause_moves : {x : WhereClauseOf A E} {l r m : Toks} → IsWhereClause part clearly x l r → Same l m → Moved (free.where_clause na ne) (IsWhereClause part clearly) x r m
  clause_moves (a_where_clause i h t) s =
      let a = word_moves i s in
      let v = listed_move (free.predicate na ne) tokens.mark t a.on (λ b x l r m. predicate_moves) (λ x l r m. mark_moves) in
      record {
        tree = where_clause_of a.tree (v.values, v.marks);
        rest = v.rest;
        is = a_where_clause a.is (sym (generics_seen a.on) ∙ h) v.is;
        same = of3 (λ (a : token.Where) (x : List (WherePredicateOf A E)) (p : List token.Comma). where_clause_of a (x, p)) a.same v.same v.same_marks;
        on = v.on;
        part = onward v.part a.part;
      }
