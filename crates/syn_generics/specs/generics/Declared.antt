-- The reads of the generics of a declaration and of its where clause, over the reads of what they hold.
use Rattle.std.specs.Prelude.{Bool, not, ◌&&◌, ◌||◌, if◌then◌else◌, List, Some, None}
use Rattle.syn_forms.specs.declared.places.BoundPlace.TheVariants.{Parameter}
use Rattle.syn_forms.specs.declared.places.ParamPlace.TheVariants as p
use Rattle.syn_forms.specs.heads.Reading.{angled}
use Rattle.syn_forms.specs.lists.Reading.{bounds_to}
use Rattle.syn_forms.specs.predicates.Reading.{ends_predicate, lifetime_predicate, predicates_to}
use Rattle.syn_generics.specs.declared.generics.GenericsOf.{GenericsOf}
use Rattle.syn_generics.specs.declared.generics.PredicateLifetimeOf.{PredicateLifetimeOf}
use Rattle.syn_generics.specs.declared.generics.PredicateTypeOf.{PredicateTypeOf}
use Rattle.syn_generics.specs.declared.generics.WhereClauseOf.{WhereClauseOf}
use Rattle.syn_generics.specs.declared.generics.WherePredicateOf.{WherePredicateOf}
use Rattle.syn_generics.specs.declared.generics.WherePredicateOf.TheVariants as w
use Rattle.syn_generics.specs.generics.Params.{empty, generics_of, predicate_lifetime_of, predicate_type_of, where_clause_of}
use Rattle.syn_ty.specs.generics.Reading.{optional_binder, sees_ident}
use Rattle.syn_ty.specs.ty.Points.{Readers, a_bound, a_param}
use Rattle.syn_ty.specs.ty.Trees.{TypeParamBound, TypeTree}
use Rattle.token_core.specs.declared.error.ErrorKind.TheVariants.{GenericsOnWhere}
use Rattle.token_core.specs.Lifetimes.{sees_lifetime}
use Rattle.token_core.specs.Loops.{Many}
use Rattle.token_core.specs.Reads.{Reader, ◌>>=◌, ◌<$>◌, peek, pure, refuse, second, third}
use Rattle.token_core.specs.Toks.{Toks}
use Rattle.token_core.specs.Tokens as token

-- ---- the generics of a declaration

module _ {A E : Type 0} (r : Readers A E) where
  -- `<`, parameters and `>`, where a `<` stands; else there are none
  unfoldable pub generics : Reader (GenericsOf A E)
  generics = do
    there ← peek token.sees_lt
    if there then (λ p. generics_of (Some p.0) p.1 (Some p.2) None) <$> angled (r (a_param p.Generics)) else pure empty

-- ---- predicates

-- a lifetime before a `:`, `::` too
unfoldable pub sees_lifetime_predicate : Toks → Bool
sees_lifetime_predicate l = sees_lifetime l && second token.sees_colon l

module _ {A : Type 0} where
  abbrev pub lifetime_after : List A → Reader (PredicateLifetimeOf A)
  lifetime_after a = (λ p. predicate_lifetime_of a p.0 p.1 p.2) <$> lifetime_predicate

module _ {A E : Type 0} (r : Readers A E) where
  -- the bounds after the `:`; there may be none
  unfoldable pub predicate_bounds : Reader (Many (TypeParamBound A E) token.Plus)
  predicate_bounds = bounds_to (r (a_bound Parameter)) ends_predicate

-- over the read of the type, which may stand where the predicate begins
module _ {A E : Type 0} (type : Reader (TypeTree A E)) (r : Readers A E) where
  -- the first binder is the predicate's own
  unfoldable pub type_after : List A → Reader (PredicateTypeOf A E)
  type_after a = do
    x ← optional_binder r
    t ← type
    c ← token.colon
    b ← predicate_bounds r
    pure (predicate_type_of a x t c b)

  unfoldable pub predicate_after : List A → Reader (WherePredicateOf A E)
  predicate_after a = do
    is_lifetime ← peek sees_lifetime_predicate
    if is_lifetime then w.Lifetime <$> lifetime_after a else w.«Type» <$> type_after a

module _ {A E : Type 0} (attrs : Reader (List A)) (type : Reader (TypeTree A E)) (r : Readers A E) where
  unfoldable pub predicate : Reader (WherePredicateOf A E)
  predicate = attrs >>= predicate_after type r

-- ---- where clauses

-- after a `<`: a lifetime or an identifier before `>`, `,`, `=` or a `:` that is not `::`
unfoldable pub sees_first_param : Toks → Bool
sees_first_param l = (second sees_lifetime l || second sees_ident l) && (third token.sees_gt l || (third token.sees_comma l || ((third token.sees_colon l && not (third token.sees_path_sep l)) || third token.sees_equals l)))

-- generics begin here, and no qualified type: `<` and then `>`, `#`, a parameter or `const`
unfoldable pub sees_generics : Toks → Bool
sees_generics l = token.sees_lt l && (second token.sees_gt l || (second token.sees_pound l || (sees_first_param l || second token.sees_const l)))

unfoldable pub no_generics : Reader (Unit {0})
no_generics = do
  is_generics ← peek sees_generics
  if is_generics then refuse GenericsOnWhere else pure tt

module _ {A E : Type 0} (one : Reader (WherePredicateOf A E)) where
  unfoldable pub where_clause : Reader (WhereClauseOf A E)
  where_clause = do
    w ← token.where_word
    k ← no_generics
    v ← predicates_to one
    pure (where_clause_of w v)
