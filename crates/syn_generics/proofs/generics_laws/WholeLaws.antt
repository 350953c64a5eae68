-- Each grammar of this layer meets its laws, where those of attributes and expressions are given: its read is sound and complete, and what it spells plainly is reprinted.
use Rattle.std.specs.Prelude.{IfOk}
use Rattle.std.proofs.Common.{◌≡◌, ◌≢◌, true, List, [], ◌∷◌, Option, Some, Result, Ok, Err, refl}
use Rattle.syn_generics.proofs.generics_laws.words.Tokens.{Print, Reader, Visible, Toks, done, row}
use Rattle.syn_path.specs.Traits.{Attributes, Expressions}
use Rattle.syn_generics.proofs.generics_laws.words.Types.{Manner, plainly, clearly}
use Rattle.syn_generics.proofs.generics_laws.words.Generics.{GenericsOf, WhereClauseOf, stripped}
use Rattle.token_core.specs.Headline.{Lawful, Reprinted}
use Rattle.token_core.proofs.Headlines.{again as again_whole}
use Rattle.syn_path.proofs.Words.{Again}
use Rattle.syn_generics.specs.generics.Normal as clauses
use Rattle.syn_generics.specs.generics.Printing as shown_clauses
use Rattle.syn_ty.specs.ty.Promises.{promise}
use Rattle.syn_ty.proofs.generics_laws.Members.{some}
use Rattle.syn_ty.proofs.ty_laws.Given.{Given}
use Rattle.syn_ty.proofs.ty_laws.reprint.Knot.{GivenAgain}
use Rattle.syn_ty.proofs.ty_laws.complete.Knot.{GivenMeets}
use Rattle.syn_generics.specs.generics.Promises as promises
use Rattle.syn_generics.specs.generics.Spelt as by
use Rattle.syn_generics.proofs.generics_laws.reprint.Whole as again
use Rattle.syn_generics.proofs.generics_laws.complete.Whole as met
use Rattle.syn_generics.proofs.generics_laws.sound.Whole as told
use Rattle.syn_ty.proofs.ty_laws.WholeLaws.{lawful}

-- a list that is not empty has some values
pub has_some : {T : Type 0} (xs : List T) → xs ≢ [] → some xs ≡ true
has_some [] h = absurd (h refl)
has_some (x ∷ xs) h = refl

-- what prints its normal form clearly is read again, where the grammar meets its laws
reprinted : {F : Type 0} (Is : Manner → F → Toks → Type 0) {n : F → F} {f : F → Print} {reader : Reader F} → Lawful (promise Is n f reader) → (x : F) (l : Toks) → Again (Is clearly) n f x l → Visible l → Reprinted (promise Is n f reader) x
reprinted Is {n = n} {f = f} laws x l w v =
    let seen = w.visible v in
    record { spells = w.spelt; visible = seen; stays = w.stays; same = w.same; again = again_whole (promise Is n f _) laws (row (f x) done) (n x) seen w.spelt }

module _ {A E : Type 0} (attrs : Attributes A) (exprs : Expressions E) (g : Given attrs.reads exprs.reads attrs.spells exprs.spells) (m : GivenMeets attrs.reads exprs.reads attrs.spells exprs.spells)
    (a : GivenAgain attrs.normal exprs.normal attrs.shown exprs.values attrs.spells exprs.spells) where
  pub generics_lawful : Lawful (promises.generics attrs exprs)
  generics_lawful = lawful (by.SpellsGenerics attrs.spells exprs.spells) (told.generics_sound g) (met.generics_complete m) (again.generics_again a)

  -- without their defaults and where clause
  pub stripped_reprinted : (x : GenericsOf A E) → (promises.generics attrs exprs).plain x → Reprinted (promises.generics attrs exprs) (stripped x)
  stripped_reprinted x q = reprinted (by.SpellsGenerics attrs.spells exprs.spells) generics_lawful (stripped x) q.0 (again.stripped_again a x q.0 q.2) q.1

  -- of a clause, where it has predicates
  where_clause_again : (x : WhereClauseOf A E) (l : Toks) → by.SpellsClause attrs.spells exprs.spells plainly x l → x.predicates.0 ≢ [] → Again (by.SpellsClause attrs.spells exprs.spells clearly) (clauses.where_clause attrs.normal exprs.normal) (shown_clauses.where_clause attrs.shown exprs.values) x l
  where_clause_again x l i h = again.where_clause_again a x l i (has_some x.predicates.0 h)

  pub where_clause_lawful : Lawful (promises.where_clause attrs exprs)
  where_clause_lawful = record {
    sound = told.where_clause_sound g;
    complete = met.where_clause_complete m;
    spells = λ x l i v q. (where_clause_again x q.1 q.3 q.0).spelt;
    visible = λ x l i v q. (where_clause_again x q.1 q.3 q.0).visible q.2;
    stays = λ x l i q. (where_clause_again x q.1 q.3 q.0).stays;
    same = λ x l i q. (where_clause_again x q.1 q.3 q.0).same;
  }

  pub optional_where_clause_lawful : Lawful (promises.optional_where_clause attrs exprs)
  optional_where_clause_lawful = lawful (by.SpellsOptionalClause attrs.spells exprs.spells) (told.optional_where_clause_sound g) (met.optional_where_clause_complete m) (again.optional_where_clause_again a)

  -- one without predicates too, as none
  pub optional_where_clause_reprinted : (x : Option (WhereClauseOf A E)) → (promises.optional_where_clause attrs exprs).plain x → Reprinted (promises.optional_where_clause attrs exprs) x
  optional_where_clause_reprinted x q = reprinted (by.SpellsOptionalClause attrs.spells exprs.spells) optional_where_clause_lawful x q.0 (again.optional_where_clause_again a x q.0 q.2) q.1

  -- and so it is of each clause that is read
  pub clauses_reprinted : {R : Type 0} (r : Result (WhereClauseOf A E) R) → IfOk r (λ x. (promises.optional_where_clause attrs exprs).plain (Some x) → Reprinted (promises.optional_where_clause attrs exprs) (Some x))
  clauses_reprinted (Ok x) = optional_where_clause_reprinted (Some x)
  clauses_reprinted (Err e) = tt

  pub predicate_lawful : Lawful (promises.predicate attrs exprs)
  predicate_lawful = lawful (by.SpellsPredicate attrs.spells exprs.spells) (told.predicate_sound g) (met.predicate_complete m) (again.predicate_again a)
