-- What the predicates of a where clause print, by their pieces.
use Rattle.std.proofs.Common.{◌≡◌, List, [], ◌∷◌, ◌++◌, length, refl, arith}
use Rattle.syn_generics.proofs.generics_laws.words.Tokens.{joined, Many, Print}
use Rattle.syn_generics.proofs.generics_laws.words.Paths.{Values}
use Rattle.syn_generics.proofs.generics_laws.words.Types.{Comma}
use Rattle.syn_generics.proofs.generics_laws.words.Generics.{WherePredicateOf}
use Rattle.token_core.specs.Prints as p
use Rattle.syn_generics.specs.generics.Printing.{predicate, predicates_after}

-- the list of predicates
module _ {A E : Type 0} (pa : List A → Print) (pe : Values E) where
  pub no_predicates : (start : Print) (v : Many (WherePredicateOf A E) Comma) → length v.0 ≡ 0 → predicates_after pa pe start v ≡ []
  no_predicates start ([], ms) h = refl
  no_predicates start (x ∷ all, ms) h = absurd (omega (arith, h))

  pub some_predicates : (start : Print) (v : Many (WherePredicateOf A E) Comma) → ¬ (length v.0 ≡ 0) → predicates_after pa pe start v ≡ start ++ joined (predicate pa pe) p.mark v.0 v.1
  some_predicates start ([], ms) h = absurd (h refl)
  some_predicates start (x ∷ all, ms) h = refl

pub ruleset clauses = (no_predicates, some_predicates)
