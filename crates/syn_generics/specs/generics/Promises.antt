-- The promise of each reader of this layer: which lists its trees spell, their normal form, their print, which have clear verbatim parts, and the read.
use Rattle.std.specs.Prelude.{◌≢◌, Bool, not, ◌&&◌, [], Option}
use Rattle.token_core.specs.Fronted.{Fronting}
use Rattle.token_core.specs.Headline.{Grammar}
use Rattle.token_core.specs.Prints as p
use Rattle.token_core.specs.Rebuilt.{Visible}
use Rattle.token_core.specs.Tokens as token
use Rattle.token_core.specs.Toks.{Toks}
use Rattle.syn_path.specs.Traits.{Attributes, Expressions}
use Rattle.syn_forms.specs.predicates.Reading.{ends_predicate}
use Rattle.syn_generics.specs.declared.generics.GenericsOf.{GenericsOf}
use Rattle.syn_generics.specs.declared.generics.WhereClauseOf.{WhereClauseOf}
use Rattle.syn_generics.specs.declared.generics.WherePredicateOf.{WherePredicateOf}
use Rattle.syn_generics.specs.generics.Alone as clauses
use Rattle.syn_generics.specs.generics.Normal as normal_clauses
use Rattle.syn_generics.specs.generics.Printing as shown_clauses
use Rattle.syn_ty.specs.ty.Parts.{plainly}
use Rattle.syn_generics.specs.generics.Spelt as spelt
use Rattle.syn_ty.specs.ty.Frontings.{fronting}
use Rattle.syn_ty.specs.ty.Promises.{manner, promise}

-- what may follow a predicate on the front of a list: nothing, braces, a comma, a `;`, a `=`, or a `:` that is not `::`
abbrev pub follows_predicate : Toks → Bool
follows_predicate = ends_predicate

-- a where clause, or where none is: the same, but no comma
abbrev pub follows_clause : Toks → Bool
follows_clause k = ends_predicate k && not (token.sees_comma k)

-- and generics, or where none are: anything but a `<`
abbrev pub follows_generics : Toks → Bool
follows_generics k = not (token.sees_lt k)

module _ {A E : Type 0} (attrs : Attributes A) (exprs : Expressions E) where
  abbrev pub generics : Grammar (GenericsOf A E)
  generics = promise (spelt.SpellsGenerics attrs.spells exprs.spells) (normal_clauses.generics attrs.normal exprs.normal) (shown_clauses.generics attrs.shown exprs.values) (clauses.generics attrs.reads exprs.reads)

  -- on the front of a list
  abbrev pub generics_front : Fronting (GenericsOf A E)
  generics_front = fronting generics (spelt.BeginsGenerics attrs.spells exprs.spells) follows_generics

  -- A clause without predicates prints nothing, and no clause spells that: its print is not promised to be read again.
  abbrev pub where_clause : Grammar (WhereClauseOf A E)
  where_clause = record {
    spells = λ clear x l. spelt.SpellsClause attrs.spells exprs.spells (manner clear) x l;
    normal = normal_clauses.where_clause attrs.normal exprs.normal;
    print = shown_clauses.where_clause attrs.shown exprs.values;
    plain = λ x. (x.predicates.0 ≢ []) × (l : Toks) × Visible l × spelt.SpellsClause attrs.spells exprs.spells plainly x l;
    reader = clauses.where_clause attrs.reads exprs.reads;
  }

  -- on the front of a list
  abbrev pub where_clause_front : Fronting (WhereClauseOf A E)
  where_clause_front = record {
    grammar = where_clause;
    begins = λ clear x l k. spelt.BeginsClause attrs.spells exprs.spells (manner clear) x l k;
    follows = follows_clause;
    plain = λ x k. (x.predicates.0 ≢ []) × (l : Toks) × (r : Toks) × Visible l × spelt.BeginsClause attrs.spells exprs.spells plainly x l r;
  }

  abbrev pub optional_where_clause : Grammar (Option (WhereClauseOf A E))
  optional_where_clause =
      promise (spelt.SpellsOptionalClause attrs.spells exprs.spells) (normal_clauses.where_option attrs.normal exprs.normal) (p.optional (shown_clauses.where_clause attrs.shown exprs.values)) (clauses.optional_where_clause attrs.reads exprs.reads)

  -- on the front of a list
  abbrev pub optional_where_clause_front : Fronting (Option (WhereClauseOf A E))
  optional_where_clause_front = fronting optional_where_clause (spelt.BeginsOptionalClause attrs.spells exprs.spells) follows_clause

  abbrev pub predicate : Grammar (WherePredicateOf A E)
  predicate = promise (spelt.SpellsPredicate attrs.spells exprs.spells) (normal_clauses.predicate attrs.normal exprs.normal) (shown_clauses.predicate attrs.shown exprs.values) (clauses.predicate attrs.reads exprs.reads)

  -- on the front of a list
  abbrev pub predicate_front : Fronting (WherePredicateOf A E)
  predicate_front = fronting predicate (spelt.BeginsPredicate attrs.spells exprs.spells) follows_predicate
