-- What was refused in a step is refused; how many values and marks there are after one more; a token that may be there.
use Rattle.std.specs.Prelude.{◌≢◌, IsErr, IsErrAnd}
use Rattle.std.proofs.Common.{◌≡◌, ◌+◌, Bool, true, false, List, length, [], ◌∷◌, ◌++◌, Option, Some, None, Result, Ok, Err, refl, sym, ap, subst, ◌∙◌, arith}
use Rattle.std.proofs.lemmas.List.{length-append}
use Rattle.token_core.specs.declared.error.ErrorKind.TheVariants.{OutOfMemory}
use Rattle.token_core.specs.Loops.{Many, after}
use Rattle.token_core.specs.Reads.{Fails, Gives, OptionReads, OptionRefuses, Reader, Reads, Outcome, and_then, optional}
use Rattle.token_core.specs.Refusal.{Refusal, out_of_memory}
use Rattle.token_core.specs.Stream.{Stream}
use Rattle.token_core.specs.Toks.{Toks}
use Rattle.token_core.proofs.Steps.{chosen, link}
use Rattle.syn_path.proofs.path_laws.Turns.{stuck_by}

-- a step that is refused
pub stopped : {A B : Type 0} {o : Outcome A} (f : A → Reader B) (e : Refusal) → o ≡ Err e → and_then o f ≡ Err e
stopped f e h = ap (λ z. and_then z f) h

refusal_is : {A : Type 0} (r : Result A Refusal) (e : Refusal) → IsErr r × IsErrAnd r (λ z. z ≡ e) → r ≡ Err e
refusal_is (Ok x) e h = absurd h.1
refusal_is (Err d) e h = ap (λ z. Err z) h.1

-- what refuses a step refuses the whole, and is answered as it is
pub passed_on : {A B : Type 0} (o : Outcome A) (p : Outcome B) (r : Result A Refusal) (t : Stream) (e : Refusal) → IsErr r × IsErrAnd r (λ z. z ≡ e) → (e.kind ≢ OutOfMemory → p ≡ Err e) → (p ≡ Err e → o ≡ Err e) → Reads o r t
passed_on o p r t e h k f = stuck_by p o r t e (refusal_is r e h) k f

-- what the same read tells
pub told_by : {A : Type 0} {o p : Outcome A} (r : Result A Refusal) (t : Stream) → o ≡ p → Reads p r t → Reads o r t
told_by r t e h = subst (λ z. Reads z r t) (sym e) h

-- for want of memory anything may be refused
pub no_memory : {A : Type 0} (o : Outcome A) (r : Result A Refusal) (t : Stream) → IsErr r × IsErrAnd r (λ z. z ≡ out_of_memory) → Reads o r t
no_memory o (Ok x) t h = absurd h.1
no_memory o (Err d) t h = λ k. absurd (k (ap (λ (z : Refusal). z.kind) h.1))

-- ---- how many values and marks there are

pub new_whole : {A P : Type 0} (v : Many A P) → v ≡ ([], []) → length v.0 ≡ length v.1
new_whole v e = ap (λ z. length z.0) e ∙ sym (ap (λ z. length z.1) e)

pub put_whole : {A P : Type 0} (xs : List A) (ps : List P) (x : A) (v : Many A P) → v ≡ (xs ++ x ∷ [], ps) → length xs ≡ length ps → length v.0 ≡ length v.1 + 1
put_whole {A} {P} xs ps x v e h =
    let a = ap (λ (z : Many A P). length z.0) e in
    let b = ap (λ (z : Many A P). length z.1) e in
    let d = length-append xs (x ∷ []) in
    omega (arith, a, b, d, h)

pub marked_whole : {A P : Type 0} (xs : List A) (ps : List P) (c : P) (v : Many A P) → v ≡ (xs, ps ++ c ∷ []) → length xs ≡ length ps + 1 → length v.0 ≡ length v.1
marked_whole {A} {P} xs ps c v e h =
    let a = ap (λ (z : Many A P). length z.0) e in
    let b = ap (λ (z : Many A P). length z.1) e in
    let d = length-append ps (c ∷ []) in
    omega (arith, a, b, d, h)

-- before the first value
pub none_yet_at : {A P : Type 0} (o : Outcome (Many A P)) → after ([], []) o ≡ o
none_yet_at (Ok p) = refl
none_yet_at (Err e) = refl

-- ---- a token that may be there

pub optional_read : {A : Type 0} (sees : Toks → Bool) (p : Reader A) (s t : Stream) (o : Option A) → OptionReads sees (Gives p) s o t → optional sees p s ≡ Ok (o, t)
optional_read sees p s t None h = chosen (sees s.rest) false _ _ s _ h.0 (ap (λ z. Ok (None, z)) (sym h.1))
optional_read sees p s t (Some a) h = chosen (sees s.rest) true _ _ s _ h.0 (link _ h.1 refl)

pub optional_refused : {A : Type 0} (sees : Toks → Bool) (p : Reader A) (s : Stream) (e : Refusal) → OptionRefuses sees (Fails p) s e → optional sees p s ≡ Err e
optional_refused sees p s e h = chosen (sees s.rest) true _ _ s _ h.0 (stopped _ e h.1)
