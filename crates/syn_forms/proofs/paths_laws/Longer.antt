-- Segments after those that were found.
use Rattle.std.specs.Prelude.{IsTrue, ◌↔◌, nat_eq}
use Rattle.std.proofs.Common.{◌≡◌, ℕ, Bool, true, false, List, [], ◌∷◌, ◌++◌, length, Option, Some, None, Ok, Err, refl, sym, ◌∙◌, ap, append_assoc}
use Rattle.std.proofs.lemmas.Bool.{eq-eqb, eqb-true}
use Rattle.token_core.specs.Loops.{Many, after, onto}
use Rattle.token_core.specs.Reads.{Outcome, Reader, and_then, pure}
use Rattle.token_core.specs.Refusal.{Refusal}
use Rattle.token_core.specs.Stream.{Stream}
use Rattle.token_core.specs.Tokens as token
use Rattle.token_core.proofs.Turns.{same_pair}
use Rattle.syn_path.specs.declared.path.PathOf.{PathOf}
use Rattle.syn_path.specs.declared.path.PathSegmentOf.{PathSegmentOf}
use Rattle.syn_path.specs.declared.path.PathStyle.{PathStyle}
use Rattle.syn_path.specs.path.Paths.{Sep, path_of}
use Rattle.syn_path.specs.path.Reading.{sees_sep}
use Rattle.syn_forms.proofs.lists_laws.Turns.{none_yet_at}
use Rattle.syn_forms.specs.paths.Reading.{longer, qself_of, qualified_of, segments}

-- what is made of the values and marks that were found, a mark, and those that follow
after_as : {A P B : Type 0} (f : Many A P → B) (xs : List A) (ps : List P) (c : P) (o : Outcome (Many A P)) (w : Many A P) (t : Stream) → after (xs, ps ++ c ∷ []) o ≡ Ok (w, t) →
    and_then o (λ all. pure (f (xs ++ all.0, ps ++ c ∷ all.1))) ≡ Ok (f w, t)
after_as f xs ps c (Err e) w t h = cc
after_as f xs ps c (Ok q) w t h =
    let g = same_pair (onto (xs, ps ++ c ∷ []) q.0) w q.1 t h in
    ap (λ z. Ok (f (xs ++ q.0.0, z), q.1)) (sym (append_assoc ps (c ∷ []) q.0.1)) ∙ ap (λ z. Ok (f z, q.1)) g.0 ∙ ap (λ z. Ok (f w, z)) g.1

pub after_refused : {A P : Type 0} (v : Many A P) (o : Outcome (Many A P)) (e : Refusal) → after v o ≡ Err e → o ≡ Err e
after_refused v (Ok q) e h = cc
after_refused v (Err r) e h = h

-- a path with what was found and further segments
longer_read : {G : Type 0} (p : PathOf G) (c : Sep) (o : Outcome (Many (PathSegmentOf G) Sep)) (w : Many (PathSegmentOf G) Sep) (t : Stream) → after (p.segments.0, p.segments.1 ++ c ∷ []) o ≡ Ok (w, t) →
    and_then o (λ all. pure (longer p c all)) ≡ Ok (path_of p.leading_colon w, t)
longer_read p c o w t h = after_as (path_of p.leading_colon) p.segments.0 p.segments.1 c o w t h

pub longer_told : {G : Type 0} (p : PathOf G) (c : Sep) (o : Outcome (Many (PathSegmentOf G) Sep)) (v w : Many (PathSegmentOf G) Sep) (t : Stream) → v ≡ (p.segments.0, p.segments.1 ++ c ∷ []) → after v o ≡ Ok (w, t) →
    and_then o (λ all. pure (longer p c all)) ≡ Ok (path_of p.leading_colon w, t)
longer_told p c o v w t e h = longer_read p c o w t (ap (λ z. after z o) (sym e) ∙ h)

-- what is answered beside what was read
beside_read : {A B C : Type 0} (y : B) (f : A → C) (o : Outcome A) (z : C) (t : Stream) → and_then o (λ x. pure (f x)) ≡ Ok (z, t) → and_then {B = B × C} o (λ x. pure (y, f x)) ≡ Ok ((y, z), t)
beside_read y f (Err e) z t h = cc
beside_read y f (Ok q) z t h = let g = same_pair (f q.0) z q.1 t h in ap (λ a. Ok ((y, a), q.1)) g.0 ∙ ap (λ b. Ok ((y, z), b)) g.1

beside_refused : {A B C : Type 0} (y : B) (f : A → C) (o : Outcome A) (e : Refusal) → and_then o (λ x. pure (f x)) ≡ Err e → and_then {B = B × C} o (λ x. pure (y, f x)) ≡ Err e
beside_refused y f (Ok q) e h = cc
beside_refused y f (Err r) e h = cc

-- no segment behind a type and the path after its `as`
pub behind_refused : {T G : Type 0} (none : G) (arguments : Reader G) (style : PathStyle) (s : Stream) (l : token.Lt) (x : T) (a : Option (token.As × PathOf G)) (w : token.As) (p : PathOf G) (k : token.Gt) (c : Sep) (e : Refusal) →
    a ≡ Some (w, p) → and_then (segments none arguments sees_sep style s) (λ all. pure (longer p c all)) ≡ Err e → and_then (segments none arguments sees_sep style s) (λ all. pure (qualified_of l x a k c all)) ≡ Err e
behind_refused none arguments style s l x a w p k c e q h =
    ap (λ z. and_then (segments none arguments sees_sep style s) (λ all. pure (qualified_of l x z k c all))) q
    ∙ beside_refused (qself_of l x (length p.segments.0) (Some w) k) (longer p c) (segments none arguments sees_sep style s) e h

-- the segments behind a type, and those behind the path after its `as`
pub behind_none : {T G : Type 0} (o : Outcome (Many (PathSegmentOf G) Sep)) (l : token.Lt) (x : T) (a : Option (token.As × PathOf G)) (k : token.Gt) (c : Sep) (v w : Many (PathSegmentOf G) Sep) (t : Stream) →
    a ≡ None → v ≡ ([], []) → after v o ≡ Ok (w, t) → and_then o (λ all. pure (qualified_of l x a k c all)) ≡ Ok ((qself_of l x 0 None k, path_of (Some c) w), t)
behind_none o l x a k c v w t q e h =
    ap (λ z. and_then o (λ all. pure (qualified_of l x z k c all))) q
    ∙ ap (λ z. and_then z (λ all. pure (qself_of l x 0 None k, path_of (Some c) all))) (sym (none_yet_at o) ∙ ap (λ z. after z o) (sym e) ∙ h)

pub behind_some : {T G : Type 0} (o : Outcome (Many (PathSegmentOf G) Sep)) (l : token.Lt) (x : T) (a : Option (token.As × PathOf G)) (w : token.As) (p : PathOf G) (k : token.Gt) (c : Sep) (n : ℕ) (z : PathOf G) (t : Stream) →
    a ≡ Some (w, p) → n ≡ length p.segments.0 → and_then o (λ all. pure (longer p c all)) ≡ Ok (z, t) → and_then o (λ all. pure (qualified_of l x a k c all)) ≡ Ok ((qself_of l x n (Some w) k, z), t)
behind_some o l x a w p k c n z t q e h =
    ap (λ y. and_then o (λ all. pure (qualified_of l x y k c all))) q
    ∙ beside_read (qself_of l x (length p.segments.0) (Some w) k) (longer p c) o z t h
    ∙ ap (λ m. Ok ((qself_of l x m (Some w) k, z), t)) (sym e)

-- as many marks as values, by a test
pub counted-is : (b : Bool) (n m : ℕ) → (IsTrue b ↔ (n ≡ m)) → b ≡ nat_eq n m
counted-is true n m h = sym (eq-eqb n m (h.0 refl))
counted-is false n m h = by_test (nat_eq n m) refl
  where
    by_test : (c : Bool) → nat_eq n m ≡ c → false ≡ c
    by_test true e = h.1 (eqb-true n m e)
    by_test false e = refl

pub ruleset counted = (counted-is)
