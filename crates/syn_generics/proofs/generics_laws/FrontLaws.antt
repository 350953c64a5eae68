-- The grammars of generics and of an optional where clause meet their laws on the front of a list, where those of attributes and expressions are given: before what may follow, each read is sound and complete, and what is spelt plainly is reprinted.
use Rattle.std.proofs.Common.{◌≡◌, ◌≢◌, Bool, true, false, [], Option, Some, None, refl}
use Rattle.std.proofs.lemmas.Bool.{and_parts, not-true}
use Rattle.syn_generics.proofs.generics_laws.words.Tokens.{Ident, text_of, any_text, as_word, is_text, sees_word, word_meets, Bytes, Toks}
use Rattle.syn_path.specs.Traits.{Attributes, Expressions}
use Rattle.syn_generics.proofs.generics_laws.words.Forms.{ends_predicate}
use Rattle.token_core.specs.Front.{front}
use Rattle.token_core.specs.Fronted.{FrontLaws}
use Rattle.token_core.specs.Tokens as token
use Rattle.token_core.proofs.Took.{at}
use Rattle.syn_path.proofs.Words.{AgainFront}
use Rattle.syn_generics.specs.generics.Normal as clauses
use Rattle.syn_generics.specs.generics.Printing as shown_clauses
use Rattle.syn_generics.specs.generics.Promises as promises
use Rattle.syn_ty.specs.ty.Parts.{plainly, clearly}
use Rattle.syn_generics.specs.declared.generics.WhereClauseOf.{WhereClauseOf}
use Rattle.syn_generics.specs.generics.Promises.{follows_clause, follows_generics, follows_predicate}
use Rattle.syn_generics.specs.generics.Spelt as by
use Rattle.syn_generics.proofs.generics_laws.complete.Alone.{generics_met, optional_where_clause_met, predicate_met, where_clause_met}
use Rattle.syn_generics.proofs.generics_laws.sound.Alone.{generics_took, optional_where_clause_took, predicate_took, where_clause_took}
use Rattle.syn_generics.proofs.generics_laws.complete.Clauses.{predicate_over}
use Rattle.syn_generics.proofs.generics_laws.reprint.Whole as again
use Rattle.syn_generics.proofs.generics_laws.WholeLaws.{has_some}
use Rattle.syn_ty.proofs.ty_laws.FrontLaws.{lawful_on_fronts}
use Rattle.syn_ty.proofs.ty_laws.Given.{Given}
use Rattle.syn_ty.proofs.ty_laws.reprint.Knot.{GivenAgain}
use Rattle.syn_ty.proofs.ty_laws.complete.Knot.{GivenMeets}

-- ---- what may follow

-- a predicate ends there, without a comma
clause_ends : (k : Toks) → follows_clause k ≡ true → ends_predicate k ≡ true
clause_ends k h = (and_parts (ends_predicate k) _ h).0

clause_no_comma : (k : Toks) → follows_clause k ≡ true → token.sees_comma k ≡ false
clause_no_comma k h = not-true (token.sees_comma k) (and_parts (ends_predicate k) _ h).1

-- where no word stands, none that meets a test does
no_word : (test : Bytes → Bool) (k : Toks) → sees_word any_text k ≡ false → sees_word test k ≡ false
unfolding sees_word
no_word test k h = at_front (as_word (front k)) h
  where
    at_front : (o : Option (Ident × Toks)) → word_meets any_text o ≡ false → word_meets test o ≡ false
    at_front None h = refl
    at_front (Some p) h = cc h

clause_no_where : (k : Toks) → follows_clause k ≡ true → token.sees_where k ≡ false
clause_no_where k h = no_word (is_text (text_of 18)) k (predicate_over k (clause_ends k h)).no_word

module _ {A E : Type 0} (attrs : Attributes A) (exprs : Expressions E) (g : Given attrs.reads exprs.reads attrs.spells exprs.spells) (m : GivenMeets attrs.reads exprs.reads attrs.spells exprs.spells)
    (a : GivenAgain attrs.normal exprs.normal attrs.shown exprs.values attrs.spells exprs.spells) where
  pub generics_fronts : FrontLaws (promises.generics_front attrs exprs)
  generics_fronts =
      lawful_on_fronts (by.SpellsGenerics attrs.spells exprs.spells) (by.BeginsGenerics attrs.spells exprs.spells) follows_generics (generics_took g) (λ s x k i o. generics_met m i.0 x s.rest k s.left s.last s.scope i.1 (λ q. not-true (token.sees_lt k) o)) (again.generics_fronts a)

  pub predicate_fronts : FrontLaws (promises.predicate_front attrs exprs)
  predicate_fronts =
      lawful_on_fronts (by.SpellsPredicate attrs.spells exprs.spells) (by.BeginsPredicate attrs.spells exprs.spells) follows_predicate (predicate_took g) (λ s x k i o. predicate_met m i.0 x s.rest k s.left s.last s.scope i.1 o) (again.predicate_fronts a)

  -- with predicates, it is reprinted
  reprinted : (x : WhereClauseOf A E) (l r : Toks) → by.BeginsClause attrs.spells exprs.spells plainly x l r → x.predicates.0 ≢ [] → AgainFront (by.BeginsClause attrs.spells exprs.spells clearly) (clauses.where_clause attrs.normal exprs.normal) (shown_clauses.where_clause attrs.shown exprs.values) x l r
  reprinted x l r i h = again.where_clause_front a x l r i (has_some x.predicates.0 h)

  pub where_clause_fronts : FrontLaws (promises.where_clause_front attrs exprs)
  where_clause_fronts = record {
    sound = λ s t x e v h c. let k = where_clause_took g s t x v h in (k.seen, λ o. k.spelt c);
    complete = λ s x k e v i o. let w = where_clause_met m i.0 x s.rest k s.left s.last s.scope i.1 (clause_ends k o) (clause_no_comma k o) in (at k s.left w.last s.scope, w.reads, refl, e);
    spells = λ x l r k i p o. (reprinted x p.1 p.2 p.4 p.0).spelt k;
    visible = λ x l r k i u p v o. (reprinted x p.1 p.2 p.4 p.0).visible k p.3 v;
    stays = λ x l r k i p. (reprinted x p.1 p.2 p.4 p.0).stays;
    same = λ x l r k i p. (reprinted x p.1 p.2 p.4 p.0).same;
  }

  pub optional_where_clause_fronts : FrontLaws (promises.optional_where_clause_front attrs exprs)
  optional_where_clause_fronts =
      lawful_on_fronts (by.SpellsOptionalClause attrs.spells exprs.spells) (by.BeginsOptionalClause attrs.spells exprs.spells) follows_clause (optional_where_clause_took g)
      (λ s x k i o. optional_where_clause_met m i.0 x s.rest k s.left s.last s.scope i.1 (λ q. clause_no_where k o) (clause_ends k o) (clause_no_comma k o)) (again.optional_where_clause_fronts a)
