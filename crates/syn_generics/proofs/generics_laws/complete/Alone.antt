-- Each reader of this layer by itself on the front of a list is complete: at every height of a tree, what is spelt clearly there is what it answers, and it takes no more.
use Rattle.std.proofs.Common.{◌≡◌, ℕ, Bool, true, false, List, Option, None}
use Rattle.syn_generics.proofs.generics_laws.words.Tokens.{Span, Reader, Scope, Toks}
use Rattle.syn_generics.proofs.generics_laws.words.Paths.{ReadValues, SpelledValues}
use Rattle.syn_generics.proofs.generics_laws.words.Forms.{Bounded, ends_predicate}
use Rattle.syn_generics.proofs.generics_laws.words.Types.{clearly, End, IsOptional, TypeTree}
use Rattle.syn_generics.proofs.generics_laws.words.Generics.{GenericsOf, WhereClauseOf, WherePredicateOf, IsPredicate, IsWhereClause, AreGenerics}
use Rattle.token_core.specs.Tokens as token
use Rattle.token_core.proofs.Steps.{Reads_to}
use Rattle.syn_generics.specs.generics.Alone as clauses
use Rattle.syn_ty.specs.ty.Knot as knot
use Rattle.syn_generics.proofs.generics_laws.complete.Clauses as of_clauses
use Rattle.syn_ty.proofs.ty_laws.complete.Knot.{GivenMeets}
use Rattle.syn_ty.proofs.ty_laws.complete.Within.{Fits}
use Rattle.syn_ty.proofs.ty_laws.complete.Alone.{To, supplied, firsts, below, within_type, ty_met}

module _ {A E : Type 0} {attrs : Reader (List A)} {values : ReadValues E} {shown : Bool → List A → Toks → Toks → Type 0} {spelt : SpelledValues E} (g : GivenMeets attrs values shown spelt) where
  pub generics_met : (n : ℕ) (x : GenericsOf A E) (l k : Toks) (f : Option Span) (e : Span) (sc : Scope) → AreGenerics (To g n) clearly x l k → (x.lt_token ≡ None → token.sees_lt k ≡ false) → Reads_to (clauses.generics attrs values) x l k f e sc
  generics_met n x l k f e sc i u = of_clauses.generics_alone_met attrs values (To g n) (supplied g n) (λ b. below g b n) x l k f e sc i u

  -- ---- predicates and where clauses: the type that a predicate begins with is read by the knot itself

  bounded_met : (n : ℕ) (d : End) (x : TypeTree A E) (l k : Toks) (f : Option Span) (e : Span) (sc : Scope) → (To g n clearly).ty Bounded d x l k → Fits d k → token.sees_plus k ≡ false → Reads_to (knot.ty attrs values Bounded) x l k f e sc
  bounded_met n d x l k f e sc i o u = ty_met g n Bounded d x l k f e sc (within_type g n Bounded d x l k i) o (λ q. u)

  pub predicate_met : (n : ℕ) (x : WherePredicateOf A E) (l k : Toks) (f : Option Span) (e : Span) (sc : Scope) → IsPredicate (To g n) clearly x l k → ends_predicate k ≡ true → Reads_to (clauses.predicate attrs values) x l k f e sc
  predicate_met n x l k f e sc i o = of_clauses.predicate_alone_met attrs values (To g n) (supplied g n) (λ b. below g b n) (bounded_met n) x l k f e sc i o

  pub where_clause_met : (n : ℕ) (x : WhereClauseOf A E) (l k : Toks) (f : Option Span) (e : Span) (sc : Scope) → IsWhereClause (To g n) clearly x l k → ends_predicate k ≡ true → token.sees_comma k ≡ false → Reads_to (clauses.where_clause attrs values) x l k f e sc
  where_clause_met n x l k f e sc i o u =
      of_clauses.where_alone_met attrs values (To g n) (supplied g n) (λ b. below g b n) (bounded_met n) (of_clauses.goes_to shown spelt (firsts g) n Bounded) (of_clauses.plain_to shown spelt (firsts g) n Bounded) x l k f e sc i o u

  pub optional_where_clause_met : (n : ℕ) (y : Option (WhereClauseOf A E)) (l k : Toks) (f : Option Span) (e : Span) (sc : Scope) → IsOptional (IsWhereClause (To g n) clearly) y l k → (y ≡ None → token.sees_where k ≡ false) → ends_predicate k ≡ true → token.sees_comma k ≡ false → Reads_to (clauses.optional_where_clause attrs values) y l k f e sc
  optional_where_clause_met n y l k f e sc i w o u =
      of_clauses.optional_where_alone_met attrs values (To g n) (supplied g n) (λ b. below g b n) (bounded_met n) (of_clauses.goes_to shown spelt (firsts g) n Bounded) (of_clauses.plain_to shown spelt (firsts g) n Bounded) y l k f e sc i w o u
