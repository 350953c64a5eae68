-- Each grammar of this layer is reprinted: what spells all of a list plainly prints its normal form clearly, which is its own and prints the same.
use Rattle.std.proofs.Common.{◌≡◌, ℕ, zero, suc, Bool, true, List}
use Rattle.syn_generics.proofs.generics_laws.words.Tokens.{Print, Toks, done}
use Rattle.syn_generics.proofs.generics_laws.words.Paths.{NormalValues, SpelledValues, Values}
use Rattle.syn_generics.proofs.generics_laws.words.Types.{plainly, clearly, strip, IsOptional, GenericParam}
use Rattle.syn_generics.proofs.generics_laws.words.Generics.{GenericsOf, WhereClauseOf, IsPredicate, IsWhereClause, AreGenerics, stripped}
use Rattle.token_core.specs.Prints as p
use Rattle.syn_path.proofs.Words.{Again, AgainFront}
use Rattle.syn_forms.specs.declared.places.ParamPlace.TheVariants as params
use Rattle.syn_generics.specs.generics.Normal as clauses
use Rattle.syn_generics.specs.generics.Printing as shown_clauses
use Rattle.syn_ty.proofs.generics_laws.Members.{some}
use Rattle.syn_generics.proofs.generics_laws.reprint.Clauses as wheres
use Rattle.syn_generics.proofs.generics_laws.reprint.Clauses.{ForKept, TypeKept, for_kept, generics_kept}
use Rattle.syn_generics.proofs.generics_laws.reprint.Generics as generics
use Rattle.syn_generics.proofs.generics_laws.reprint.Stripped as views
use Rattle.syn_ty.proofs.ty_laws.reprint.Knot.{GivenAgain, bounds_of_turn}
use Rattle.syn_generics.specs.generics.Spelt as by
use Rattle.syn_ty.proofs.ty_laws.reprint.Whole.{Fronts, Whole, To, all_of, at_end, front_of, known}

module _ {A E : Type 0} {na : List A → List A} {ne : NormalValues E} {pa : List A → Print} {pe : Values E} {shown : Bool → List A → Toks → Toks → Type 0} {spelt : SpelledValues E} (g : GivenAgain na ne pa pe shown spelt) where
  -- how the print of a type begins
  no_for : (k : ℕ) → ForKept pa pe (To g k)
  no_for k = for_kept pa pe (To g k) (known g k).kept

  no_generics : (k : ℕ) → TypeKept pa pe (To g k)
  no_generics k = generics_kept pa pe (To g k) (known g k).kept

  pub generics_fronts : Fronts (by.BeginsGenerics shown spelt) (clauses.generics na ne) (shown_clauses.generics pa pe)
  generics_fronts = front_of g (clauses.generics na ne) (shown_clauses.generics pa pe) AreGenerics (λ k. generics.generics_again na ne pa pe (To g k) (known g k).again)

  pub generics_again : Whole (by.SpellsGenerics shown spelt) (clauses.generics na ne) (shown_clauses.generics pa pe)
  generics_again x l i = at_end (by.BeginsGenerics shown spelt clearly) (clauses.generics na ne) (shown_clauses.generics pa pe) x l (generics_fronts x l done i)

  -- without their defaults
  before : (k : ℕ) (x : GenericParam A E) (l r : Toks) → (To g k plainly).param params.Generics x l r → (n : Toks) × (To g k plainly).param params.Generics (strip x) l n
  before zero x l r i = absurd i
  before (suc k) x l r i = views.before_default (To g k) plainly params.Generics x l r i

  stripped_fronts : (x : GenericsOf A E) (l r : Toks) → by.BeginsGenerics shown spelt plainly x l r → AgainFront (by.BeginsGenerics shown spelt clearly) (clauses.generics na ne) (shown_clauses.generics pa pe) (stripped x) l r
  stripped_fronts x l r i =
      let k = views.stripped_again na ne pa pe (To g i.0) (known g i.0).again (before i.0) x l r i.1 in
      record { spelt = λ m. (i.0, k.spelt m); visible = λ m u v. k.visible m u v; seen = λ u. k.seen u; stays = k.stays; same = k.same }

  pub stripped_again : (x : GenericsOf A E) (l : Toks) → by.SpellsGenerics shown spelt plainly x l → Again (by.SpellsGenerics shown spelt clearly) (clauses.generics na ne) (shown_clauses.generics pa pe) (stripped x) l
  stripped_again x l i = at_end (by.BeginsGenerics shown spelt clearly) (clauses.generics na ne) (shown_clauses.generics pa pe) (stripped x) l (stripped_fronts x l done i)

  pub predicate_fronts : Fronts (by.BeginsPredicate shown spelt) (clauses.predicate na ne) (shown_clauses.predicate pa pe)
  predicate_fronts =
      front_of g (clauses.predicate na ne) (shown_clauses.predicate pa pe) IsPredicate (λ k. wheres.predicate_again na ne pa pe (To g k) (known g k).again (known g k).supplied (bounds_of_turn na ne pa pe (To g k) (known g k)) (no_for k))

  pub predicate_again : Whole (by.SpellsPredicate shown spelt) (clauses.predicate na ne) (shown_clauses.predicate pa pe)
  predicate_again x l i = at_end (by.BeginsPredicate shown spelt clearly) (clauses.predicate na ne) (shown_clauses.predicate pa pe) x l (predicate_fronts x l done i)

  pub optional_where_clause_fronts : Fronts (by.BeginsOptionalClause shown spelt) (clauses.where_option na ne) (p.optional (shown_clauses.where_clause pa pe))
  optional_where_clause_fronts =
      front_of g (clauses.where_option na ne) (p.optional (shown_clauses.where_clause pa pe)) (λ part how. IsOptional (IsWhereClause part how))
      (λ k. wheres.optional_where_again na ne pa pe (To g k) (known g k).again (known g k).supplied (bounds_of_turn na ne pa pe (To g k) (known g k)) (no_for k) (known g k).attrs_begin (no_generics k))

  pub optional_where_clause_again : Whole (by.SpellsOptionalClause shown spelt) (clauses.where_option na ne) (p.optional (shown_clauses.where_clause pa pe))
  optional_where_clause_again x l i = at_end (by.BeginsOptionalClause shown spelt clearly) (clauses.where_option na ne) (p.optional (shown_clauses.where_clause pa pe)) x l (optional_where_clause_fronts x l done i)

  -- one without predicates prints nothing: as a clause of its own that is not spelt
  pub where_clause_front : (x : WhereClauseOf A E) (l r : Toks) → by.BeginsClause shown spelt plainly x l r → some x.predicates.0 ≡ true → AgainFront (by.BeginsClause shown spelt clearly) (clauses.where_clause na ne) (shown_clauses.where_clause pa pe) x l r
  where_clause_front x l r (k, i) h =
      let w = wheres.clause_again na ne pa pe (To g k) (known g k).again (known g k).supplied (bounds_of_turn na ne pa pe (To g k) (known g k)) (no_for k) (known g k).attrs_begin (no_generics k) x l r i h in
      record { spelt = λ m. (k, w.spelt m); visible = λ m u v. w.visible m u v; seen = λ u. w.seen u; stays = w.stays; same = w.same }

  pub where_clause_again : (x : WhereClauseOf A E) (l : Toks) → by.SpellsClause shown spelt plainly x l → some x.predicates.0 ≡ true → Again (by.SpellsClause shown spelt clearly) (clauses.where_clause na ne) (shown_clauses.where_clause pa pe) x l
  where_clause_again x l i h = at_end (by.BeginsClause shown spelt clearly) (clauses.where_clause na ne) (shown_clauses.where_clause pa pe) x l (where_clause_front x l done i h)
