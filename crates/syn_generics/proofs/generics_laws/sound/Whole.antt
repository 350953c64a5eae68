-- Each whole read of this layer is sound: where it answers on a list without invisible groups and leaves nothing over, the answer spells the list by its promise.
use Rattle.std.proofs.Common.{Bool, List}
use Rattle.syn_generics.proofs.generics_laws.words.Tokens.{Reader, Toks}
use Rattle.syn_generics.proofs.generics_laws.words.Paths.{ReadValues, SpelledValues}
use Rattle.syn_generics.proofs.generics_laws.words.Types.{loosely, IsOptional}
use Rattle.syn_generics.proofs.generics_laws.words.Generics.{IsPredicate, IsWhereClause, AreGenerics}
use Rattle.syn_generics.specs.generics.Alone as clauses
use Rattle.syn_ty.proofs.ty_laws.sound.Alone.{all_of}
use Rattle.syn_ty.proofs.ty_laws.Given.{Given}
use Rattle.syn_generics.specs.generics.Spelt as by
use Rattle.syn_generics.proofs.generics_laws.sound.Alone as alone
use Rattle.syn_ty.proofs.ty_laws.sound.Whole.{Whole}

module _ {A E : Type 0} {attrs : Reader (List A)} {values : ReadValues E} {shown : Bool → List A → Toks → Toks → Type 0} {spelt : SpelledValues E} (g : Given attrs values shown spelt) where
  pub generics_sound : Whole (clauses.generics attrs values) (by.SpellsGenerics shown spelt loosely)
  generics_sound s t a n v e c = all_of shown spelt AreGenerics s t a (alone.generics_took g s t a v e) c

  pub where_clause_sound : Whole (clauses.where_clause attrs values) (by.SpellsClause shown spelt loosely)
  where_clause_sound s t a n v e c = all_of shown spelt IsWhereClause s t a (alone.where_clause_took g s t a v e) c

  pub optional_where_clause_sound : Whole (clauses.optional_where_clause attrs values) (by.SpellsOptionalClause shown spelt loosely)
  optional_where_clause_sound s t a n v e c = all_of shown spelt (λ part how. IsOptional (IsWhereClause part how)) s t a (alone.optional_where_clause_took g s t a v e) c

  pub predicate_sound : Whole (clauses.predicate attrs values) (by.SpellsPredicate shown spelt loosely)
  predicate_sound s t a n v e c = all_of shown spelt IsPredicate s t a (alone.predicate_took g s t a v e) c
