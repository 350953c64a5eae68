-- Which lists the predicates of a where clause spell, and the clause.
use Rattle.std.specs.Prelude.{◌≡◌, Bool, true, false, List, Some, None}
use Rattle.token_core.specs.declared.lifetime.Lifetime.{Lifetime}
use Rattle.token_core.specs.Listed.{AreListed, Anywhere}
use Rattle.token_core.specs.Spellings.{IsMark, IsWord, IsLifetime}
use Rattle.token_core.specs.Toks.{Toks}
use Rattle.syn_forms.specs.declared.places.BoundPlace.TheVariants.{Parameter}
use Rattle.syn_forms.specs.declared.places.TypePlace.TheVariants.{Bounded}
use Rattle.syn_generics.specs.declared.generics.PredicateLifetimeOf.{PredicateLifetimeOf}
use Rattle.syn_generics.specs.declared.generics.PredicateTypeOf.{PredicateTypeOf}
use Rattle.syn_generics.specs.declared.generics.WhereClauseOf.{WhereClauseOf}
use Rattle.syn_generics.specs.declared.generics.WherePredicateOf.{WherePredicateOf}
use Rattle.syn_generics.specs.declared.generics.WherePredicateOf.TheVariants as w
use Rattle.syn_ty.specs.generics.Bounds.{IsFor, AreBounds}
use Rattle.syn_ty.specs.generics.Parameters.{AreLifetimes, begins_as_generics}
use Rattle.syn_generics.specs.generics.Params.{predicate_lifetime_of, predicate_type_of, where_clause_of}
use Rattle.syn_ty.specs.ty.Parts.{Manner, is_clear, End, Parts}
use Rattle.syn_ty.specs.ty.Trees.{BoundLifetimes, TypeParamBound, TypeTree}
use Rattle.token_core.specs.Tokens as token

module _ {A E : Type 0} (part : Manner → Parts A E) (how : Manner) where
  -- a lifetime, `:` and lifetimes
  pub data IsLifetimePredicate : PredicateLifetimeOf A → Toks → Toks → Type 0 where
    a_lifetime_predicate : {a : List A} {x : Lifetime} {c : token.Colon} {xs : List Lifetime} {ps : List token.Plus} {l m n k r : Toks} →
        (part how).attrs a l m → IsLifetime x m n → IsMark (is_clear how) c n k → AreLifetimes (is_clear how) xs ps k r → IsLifetimePredicate (predicate_lifetime_of a x c (xs, ps)) l r

  -- `:` and bounds, of which there may be none and the last may have its `+`; they may be `const`
  pub data AreBoundsOf : token.Colon → List (TypeParamBound A E) → List token.Plus → Toks → Toks → Type 0 where
    bounds_of : {e : End} {c : token.Colon} {xs : List (TypeParamBound A E)} {ps : List token.Plus} {l m r : Toks} →
        IsMark (is_clear how) c l m → AreBounds part how Parameter Anywhere true e xs ps m r → AreBoundsOf c xs ps l r

  -- a type and its bounds, perhaps after a binder: without one the type does not begin with `for`
  pub data IsTypePredicate : PredicateTypeOf A E → Toks → Toks → Type 0 where
    a_type_predicate : {a : List A} {e : End} {x : TypeTree A E} {c : token.Colon} {xs : List (TypeParamBound A E)} {ps : List token.Plus} {l m n r : Toks} →
        (part how).attrs a l m → token.sees_for m ≡ false → (part how).ty Bounded e x m n → AreBoundsOf c xs ps n r → IsTypePredicate (predicate_type_of a None x c (xs, ps)) l r
    a_type_predicate_for : {a : List A} {o : BoundLifetimes A E} {e : End} {x : TypeTree A E} {c : token.Colon} {xs : List (TypeParamBound A E)} {ps : List token.Plus} {l m n k r : Toks} →
        (part how).attrs a l m → IsFor part how o m n → (part how).ty Bounded e x n k → AreBoundsOf c xs ps k r → IsTypePredicate (predicate_type_of a (Some o) x c (xs, ps)) l r

  pub data IsPredicate : WherePredicateOf A E → Toks → Toks → Type 0 where
    of_lifetime : {x : PredicateLifetimeOf A} {l r : Toks} → IsLifetimePredicate x l r → IsPredicate (w.Lifetime x) l r
    of_type : {x : PredicateTypeOf A E} {l r : Toks} → IsTypePredicate x l r → IsPredicate (w.«Type» x) l r

  -- `where`, and predicates joined by commas, of which there may be none and the last may have its comma; they do not begin as generics do
  pub data IsWhereClause : WhereClauseOf A E → Toks → Toks → Type 0 where
    a_where_clause : {q : token.Where} {xs : List (WherePredicateOf A E)} {cs : List token.Comma} {l m r : Toks} →
        IsWord q l m → begins_as_generics m ≡ false → AreListed (λ (_ : Bool). IsPredicate) (IsMark (is_clear how)) Anywhere true xs cs m r → IsWhereClause (where_clause_of q (xs, cs)) l r
