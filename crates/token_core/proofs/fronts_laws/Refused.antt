-- What was refused in a step is refused by the whole, as it was.
use Rattle.std.specs.Prelude.{◌≢◌, IsErr, IsErrAnd}
use Rattle.std.proofs.Common.{◌≡◌, Result, Ok, Err, sym, ap, subst}
use Rattle.token_core.specs.declared.error.ErrorKind.TheVariants.{OutOfMemory}
use Rattle.token_core.specs.Fronted.{Fronting, Fronted, Fronts, KeepsFront}
use Rattle.token_core.specs.Reads.{Outcome, Reader, Reads, and_then}
use Rattle.token_core.specs.Refusal.{Refusal}
use Rattle.token_core.specs.Stream.{Stream}

-- a step that is refused
pub stopped : {A B : Type 0} {o : Outcome A} (f : A → Reader B) (e : Refusal) → o ≡ Err e → and_then o f ≡ Err e
stopped f e h = ap (λ z. and_then z f) h

pub refusal_is : {A : Type 0} (r : Result A Refusal) (e : Refusal) → IsErr r × IsErrAnd r (λ z. z ≡ e) → r ≡ Err e
refusal_is (Ok x) e h = absurd h.1
refusal_is (Err d) e h = ap (λ z. Err z) h.1

pub passed_on : {A B : Type 0} (o : Outcome A) (p : Outcome B) (r : Result A Refusal) (t : Stream) (e : Refusal) → IsErr r × IsErrAnd r (λ z. z ≡ e) → (e.kind ≢ OutOfMemory → p ≡ Err e) → (p ≡ Err e → o ≡ Err e) → Reads o r t
passed_on o p r t e h k f = subst (λ z. Reads o z t) (sym (refusal_is r e h)) (λ m. f (k m))

pub refused_front : {A : Type 0} (F : Fronting A) (s t : Stream) (r : Result A Refusal) (e : Refusal) → IsErr r × IsErrAnd r (λ z. z ≡ e) → Fronted F s (Err e) s → Fronted F s r t
refused_front F s t r e h f = subst (λ z. Fronted F s z t) (sym (refusal_is r e h)) f

pub kept_err : {A : Type 0} (f : Fronts A) (s t : Stream) (r : Result A Refusal) (e : Refusal) → IsErr r × IsErrAnd r (λ z. z ≡ e) → KeepsFront f s (Err e) t → KeepsFront f s r t
kept_err f s t r e h k = subst (λ z. KeepsFront f s z t) (sym (refusal_is r e h)) k
