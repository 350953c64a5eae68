-- A grammar of a relation on the front of a list: what is read, where it is read, and what prints spell.
use Rattle.std.specs.Prelude.{IfOk}
use Rattle.std.proofs.Common.{◌≡◌, Bool, true, false, None, Result, Ok, Err, refl, subst, sym, ◌∙◌}
use Rattle.token_core.specs.Fronted.{Fronting, FrontLaws}
use Rattle.token_core.specs.Headline.{Grammar, Lawful}
use Rattle.token_core.specs.Prints.{Print}
use Rattle.token_core.specs.Reads.{Reader, Reads, leaves, left_here}
use Rattle.token_core.specs.Rebuilt.{Visible}
use Rattle.token_core.specs.Refusal.{Refusal}
use Rattle.token_core.specs.Stream.{Stream}
use Rattle.token_core.specs.Toks.{Toks, done}
use Rattle.token_core.proofs.MarkSpells.{Taken}
use Rattle.token_core.proofs.Steps.{Reads_to}
use Rattle.token_core.proofs.Took.{at, took_all, leaves_none}
use Rattle.syn_path.proofs.Words.{AgainFront, TookOne, first_parts}

abbrev Relation : Type 0 → Type 1
Relation A = A → Toks → Toks → Type 0

-- where nothing is left over in the end
pub nothing_left : (t : Stream) → leaves t ≡ None → t.left ≡ None
nothing_left t h = (first_parts t.left (left_here t) h).0

-- ---- what was taken, as another tree

module _ {A B : Type 0} {Is : Relation A} {Js : Relation B} where
  pub took_as : (f : A → B) (s t : Stream) (a : A) (b : B) → f a ≡ b → ((l r : Toks) → Is a l r → Js (f a) l r) → TookOne Is s t a → TookOne Js s t b
  took_as f s t a b g h k = record { left = k.left; seen = k.seen; spelt = λ n. subst (λ z. Js z s.rest t.rest) g (h s.rest t.rest (k.spelt n)) }

module _ {A : Type 0} {Is : Relation A} where
  pub taken_as : (s t : Stream) (a b : A) → a ≡ b → Is a s.rest t.rest → t.left ≡ s.left → Taken Is s t b
  taken_as s t a b g i h = record { spelt = subst (λ z. Is z s.rest t.rest) g i; left = h }

  -- a read that leaves what is left over as it was
  pub took_plainly : (s t : Stream) (a : A) → Is a s.rest t.rest → t.left ≡ s.left → Visible t.rest → TookOne Is s t a
  took_plainly s t a i h k = record { left = λ n. sym h ∙ n; seen = k; spelt = λ n. i }

  pub plainly : ((a : A) (l r : Toks) → Is a l r → Visible l → Visible r) → (s t : Stream) (a : A) → Visible s.rest → Taken Is s t a → TookOne Is s t a
  plainly h s t a v k = took_plainly s t a k.spelt k.left (h a s.rest t.rest k.spelt v)

  -- where nothing is left over in the end, all of the list
  pub took_whole : (s t : Stream) (a : A) → TookOne Is s t a → leaves t ≡ None → Is a s.rest done
  took_whole s t a k h = subst (λ z. Is a s.rest z) (took_all t k.seen h) (k.spelt (nothing_left t h))

  -- on the front of a list
  pub taken_front : (p : Reader A) → ((s t : Stream) (a : A) → Visible s.rest → p s ≡ Ok (a, t) → Taken Is s t a) →
      (s t : Stream) (r : Result A Refusal) → Reads (p s) r t → Visible s.rest → IfOk r (λ x. Is x s.rest t.rest)
  taken_front p h s t (Ok a) e v = (h s t a v e).spelt
  taken_front p h s t (Err x) e v = tt

-- ---- a grammar of a relation on the front of a list: what is read, where it is read, and what prints spell

module _ {A : Type 0} (spells : Bool → A → Toks → Toks → Type 0) (normal : A → A) (print : A → Print) (reader : Reader A) where
  abbrev Of : Grammar A
  Of = record { spells = λ clear x l. spells clear x l done; normal = normal; print = print; plain = λ x. Unit {0}; reader = reader }

  pub lawful_by : ((s t : Stream) (a : A) → Visible s.rest → reader s ≡ Ok (a, t) → TookOne (spells false) s t a) →
      ((s : Stream) (a : A) → spells true a s.rest done → Reads_to reader a s.rest done s.left s.last s.scope) →
      ((a : A) (l r : Toks) → spells false a l r → AgainFront (spells true) normal print a l r) → Lawful Of
  lawful_by sound complete again = record {
    sound = λ s t a n v e c. let k = sound s t a v e in subst (λ z. spells false a s.rest z) (took_all t k.seen c) (k.spelt (first_parts t.left _ c).0);
    complete = λ s a n v h. let k = complete s a h in (at done s.left k.last s.scope, k.reads, leaves_none s.left k.last s.scope n);
    spells = λ a l h v p. (again a l done h).spelt done;
    visible = λ a l h v p. (again a l done h).visible done v tt;
    stays = λ a l h p. (again a l done h).stays;
    same = λ a l h p. (again a l done h).same;
  }

-- ---- the same on the front of a list, before what may follow

pub front_lawful_by : {A : Type 0} (F : Fronting A) → ((s t : Stream) (a : A) → Visible s.rest → F.grammar.reader s ≡ Ok (a, t) → TookOne (F.begins false) s t a) →
    ((s : Stream) (a : A) (k : Toks) → F.begins true a s.rest k → F.follows k ≡ true → Reads_to F.grammar.reader a s.rest k s.left s.last s.scope) →
    ((a : A) (l r : Toks) → F.begins false a l r → AgainFront (F.begins true) F.grammar.normal F.grammar.print a l r) → FrontLaws F
front_lawful_by F sound complete again = record {
  sound = λ s t a n v e c. let k = sound s t a v e in (k.seen, λ o. k.spelt c);
  complete = λ s a k n v i o. let w = complete s a k i o in (at k s.left w.last s.scope, w.reads, refl, n);
  spells = λ a l r k i p o. (again a l r i).spelt k;
  visible = λ a l r k i u p v o. (again a l r i).visible k u v;
  stays = λ a l r k i p. (again a l r i).stays;
  same = λ a l r k i p. (again a l r i).same;
}
