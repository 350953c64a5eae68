-- Which lists the trees of this layer spell: for each reader all of a list, and the front of one.
use Rattle.std.specs.Prelude.{Bool, List, Option}
use Rattle.token_core.specs.Toks.{Toks}
use Rattle.syn_path.specs.Values.{SpelledValues}
use Rattle.syn_generics.specs.declared.generics.GenericsOf.{GenericsOf}
use Rattle.syn_generics.specs.declared.generics.WhereClauseOf.{WhereClauseOf}
use Rattle.syn_generics.specs.declared.generics.WherePredicateOf.{WherePredicateOf}
use Rattle.syn_generics.specs.generics.Clauses.{IsPredicate, IsWhereClause}
use Rattle.syn_generics.specs.generics.Parameters.{AreGenerics}
use Rattle.syn_ty.specs.ty.Parts.{Manner}
use Rattle.syn_ty.specs.ty.Spelling.{IsOptional, Relation}
use Rattle.syn_ty.specs.ty.Spelt.{Begins, Spells}

module _ {A E : Type 0} (attrs : Bool → List A → Toks → Toks → Type 0) (values : SpelledValues E) where
  abbrev pub SpellsGenerics : Manner → GenericsOf A E → Toks → Type 0
  SpellsGenerics = Spells attrs values AreGenerics

  abbrev pub BeginsGenerics : Manner → Relation (GenericsOf A E)
  BeginsGenerics = Begins attrs values AreGenerics

  abbrev pub SpellsClause : Manner → WhereClauseOf A E → Toks → Type 0
  SpellsClause = Spells attrs values IsWhereClause

  abbrev pub BeginsClause : Manner → Relation (WhereClauseOf A E)
  BeginsClause = Begins attrs values IsWhereClause

  abbrev pub SpellsOptionalClause : Manner → Option (WhereClauseOf A E) → Toks → Type 0
  SpellsOptionalClause = Spells attrs values (λ part how. IsOptional (IsWhereClause part how))

  abbrev pub BeginsOptionalClause : Manner → Relation (Option (WhereClauseOf A E))
  BeginsOptionalClause = Begins attrs values (λ part how. IsOptional (IsWhereClause part how))

  abbrev pub SpellsPredicate : Manner → WherePredicateOf A E → Toks → Type 0
  SpellsPredicate = Spells attrs values IsPredicate

  abbrev pub BeginsPredicate : Manner → Relation (WherePredicateOf A E)
  BeginsPredicate = Begins attrs values IsPredicate
