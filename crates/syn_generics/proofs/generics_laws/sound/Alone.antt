-- Each reader of this layer on the front of a list without invisible groups: where it answers, what was taken is spelt by the whole grammar, by trees of some height.
use Rattle.std.proofs.Common.{◌≡◌, ℕ, suc, ◌<◌, Bool, List, Option, Ok, arith}
use Rattle.syn_generics.proofs.generics_laws.words.Tokens.{Reader, Visible, Stream, Toks}
use Rattle.syn_generics.proofs.generics_laws.words.Paths.{ReadValues, SpelledValues}
use Rattle.syn_generics.proofs.generics_laws.words.Forms.{Bounded, ahead}
use Rattle.syn_generics.proofs.generics_laws.words.Types.{loosely, IsOptional}
use Rattle.syn_generics.proofs.generics_laws.words.Generics.{GenericsOf, WhereClauseOf, WherePredicateOf, IsPredicate, IsWhereClause, AreGenerics}
use Rattle.syn_path.proofs.Words.{TookOne}
use Rattle.syn_generics.specs.generics.Alone as clauses
use Rattle.syn_ty.proofs.ty_laws.sound.AlongBounds.{optional_binder_along}
use Rattle.syn_ty.proofs.ty_laws.sound.AlongKnot.{reads_below_along}
use Rattle.syn_generics.proofs.generics_laws.sound.Clauses as of_clauses
use Rattle.syn_ty.proofs.ty_laws.Given.{Given}
use Rattle.syn_ty.specs.ty.Fronts.{Front}
use Rattle.syn_ty.proofs.ty_laws.sound.Alone.{front, turns, given, below, part, here, type_by, enough, height}

module _ {A E : Type 0} {attrs : Reader (List A)} {values : ReadValues E} {shown : Bool → List A → Toks → Toks → Type 0} {spelt : SpelledValues E} (g : Given attrs values shown spelt) where
  pub generics_took : (s t : Stream) (x : GenericsOf A E) → Visible s.rest → clauses.generics attrs values s ≡ Ok (x, t) → TookOne (Front shown spelt AreGenerics) s t x
  generics_took s t x v e = front shown spelt AreGenerics (height g s) s t x (of_clauses.generics_alone_took attrs values (part g s) s t x (here g s) v e)

  -- ---- predicates and where clauses: the type is read where no more is left than at the predicate

  predicate_by : (m : ℕ) (s t : Stream) (x : WherePredicateOf A E) → ahead s < m → Visible s.rest → clauses.predicate attrs values s ≡ Ok (x, t) → TookOne (IsPredicate (turns g m) loosely) s t x
  predicate_by m s t x h v e =
      of_clauses.predicate_alone_took attrs values (turns g m) s t x (below g (ahead s) m (omega (arith, h))) (given g m) (optional_binder_along (reads_below_along attrs values g.attrs_along g.argument_along (ahead s)))
      (λ q u y a i j. type_by g m Bounded q u y (omega (arith, h, a)) i j) v e

  pub predicate_took : (s t : Stream) (x : WherePredicateOf A E) → Visible s.rest → clauses.predicate attrs values s ≡ Ok (x, t) → TookOne (Front shown spelt IsPredicate) s t x
  predicate_took s t x v e = front shown spelt IsPredicate (suc (enough g s)) s t x (predicate_by (suc (ahead s)) s t x (omega arith) v e)

  pub where_clause_took : (s t : Stream) (x : WhereClauseOf A E) → Visible s.rest → clauses.where_clause attrs values s ≡ Ok (x, t) → TookOne (Front shown spelt IsWhereClause) s t x
  where_clause_took s t x v e = front shown spelt IsWhereClause (height g s) s t x (of_clauses.where_alone_took attrs values (part g s) s t x (λ q u y a i j. predicate_by (ahead s) q u y a i j) v e)

  pub optional_where_clause_took : (s t : Stream) (o : Option (WhereClauseOf A E)) → Visible s.rest → clauses.optional_where_clause attrs values s ≡ Ok (o, t) → TookOne (Front shown spelt (λ part how. IsOptional (IsWhereClause part how))) s t o
  optional_where_clause_took s t o v e =
      front shown spelt (λ part how. IsOptional (IsWhereClause part how)) (height g s) s t o (of_clauses.optional_where_alone_took attrs values (part g s) s t o (λ q u y a i j. predicate_by (ahead s) q u y a i j) v e)
