-- Each whole read of this layer is complete: a tree that all of a list spells clearly by its promise is what it answers, and nothing is left over.
use Rattle.std.proofs.Common.{◌≡◌, Bool, true, List, [], refl}
use Rattle.syn_generics.proofs.generics_laws.words.Tokens.{Reader, is_done, Toks, done}
use Rattle.syn_generics.proofs.generics_laws.words.Paths.{ReadValues, SpelledValues}
use Rattle.syn_generics.proofs.generics_laws.words.Forms.{ends_predicate}
use Rattle.syn_generics.proofs.generics_laws.words.Types.{clearly}
use Rattle.syn_generics.specs.generics.Alone as clauses
use Rattle.syn_ty.proofs.ty_laws.complete.Knot.{GivenMeets}
use Rattle.syn_generics.specs.generics.Spelt as by
use Rattle.syn_generics.proofs.generics_laws.complete.Alone as front
use Rattle.syn_ty.proofs.ty_laws.complete.Whole.{Whole, to_end, no_mark, no_word}

-- ---- what follows all of a list: nothing

predicate_ends : ends_predicate done ≡ true
unfolding is_done ends_predicate
predicate_ends = refl

module _ {A E : Type 0} {attrs : Reader (List A)} {values : ReadValues E} {shown : Bool → List A → Toks → Toks → Type 0} {spelt : SpelledValues E} (g : GivenMeets attrs values shown spelt) where
  pub generics_complete : Whole (clauses.generics attrs values) (by.SpellsGenerics shown spelt clearly)
  generics_complete s a n v i = to_end (clauses.generics attrs values) s a n (front.generics_met g i.0 a s.rest done s.left s.last s.scope i.1 (λ q. no_mark 60 []))

  pub where_clause_complete : Whole (clauses.where_clause attrs values) (by.SpellsClause shown spelt clearly)
  where_clause_complete s a n v i = to_end (clauses.where_clause attrs values) s a n (front.where_clause_met g i.0 a s.rest done s.left s.last s.scope i.1 predicate_ends (no_mark 44 []))

  pub optional_where_clause_complete : Whole (clauses.optional_where_clause attrs values) (by.SpellsOptionalClause shown spelt clearly)
  optional_where_clause_complete s a n v i = to_end (clauses.optional_where_clause attrs values) s a n (front.optional_where_clause_met g i.0 a s.rest done s.left s.last s.scope i.1 (λ q. no_word _) predicate_ends (no_mark 44 []))

  pub predicate_complete : Whole (clauses.predicate attrs values) (by.SpellsPredicate shown spelt clearly)
  predicate_complete s a n v i = to_end (clauses.predicate attrs values) s a n (front.predicate_met g i.0 a s.rest done s.left s.last s.scope i.1 predicate_ends)
