-- Values and marks up to the end of a stream, turn by turn.
use Rattle.std.specs.Prelude.{◌≢◌}
use Rattle.token_core.specs.declared.error.ErrorKind.{ErrorKind}
use Rattle.token_core.specs.declared.error.ErrorKind.TheVariants.{OutOfMemory}
use Rattle.std.proofs.Common.{◌≡◌, true, false, [], ◌∷◌, ◌++◌, Result, Err, sym, ◌∙◌, ap, subst, append_assoc, append-nil}
use Rattle.token_core.specs.Refusal.{Refusal, refusal}
use Rattle.token_core.specs.Stream.{Stream, Scope}
use Rattle.token_core.specs.Toks.{Bytes, Toks}
use Rattle.token_core.specs.Front.{front}
use Rattle.token_core.specs.Reads.{is_done, refused, here, span_at, at_end as input_end, Parsed}
use Rattle.token_core.specs.Loops.{Many, onto}
use Rattle.token_core.specs.Terminated.{Answers, at_end, last_value, value_and_mark}

pub refused_so : {A : Type 0} (R : A → Stream → Type 0) (Q : Refusal → Type 0) (r : Result A Refusal) (u : Stream) (e : Refusal) → r ≡ Err e → (e.kind ≢ OutOfMemory → Q e) → Parsed R Q r u
refused_so R Q r u e h f = subst (λ z. Parsed R Q z u) (sym h) f

module _ {A P : Type 0} (value : Stream → A → Stream → Type 0) (joint : Stream → P → Stream → Type 0) where
  -- what was found, and what is still to come
  abbrev pub Goes : Stream → Stream → Many A P → Type 0
  Goes s t v = (w : Many A P) (u : Stream) → Answers value joint t w u → Answers value joint s (onto v w) u

  pub ended : (s t : Stream) (v : Many A P) → Goes s t v → is_done t.rest ≡ true → Answers value joint s v t
  ended s t v h e = subst (λ (z : Many A P). Answers value joint s z t) (ap (λ z. (z, v.1 ++ [])) (append-nil v.0) ∙ ap (λ z. (v.0, z)) (append-nil v.1)) (h ([], []) t (at_end e))

  pub last_turn : (s t u : Stream) (v w : Many A P) (x : A) → Goes s t v → is_done t.rest ≡ false → value t x u → is_done u.rest ≡ true → w ≡ (v.0 ++ x ∷ [], v.1) → Answers value joint s w u
  last_turn s t u v w x h d r e k =
      subst (λ (z : Many A P). Answers value joint s z u) (ap (λ z. (v.0 ++ x ∷ [], z)) (append-nil v.1) ∙ sym k) (h (x ∷ [], []) u (last_value d r e))

  pub next_turn : (s t u r : Stream) (v w : Many A P) (x : A) (p : P) → Goes s t v → is_done t.rest ≡ false → value t x u → is_done u.rest ≡ false → joint u p r → r.rest ≢ t.rest → w ≡ (v.0 ++ x ∷ [], v.1 ++ p ∷ []) → Goes s r w
  next_turn s t u r v w x p h d a e b n k = λ y z i.
      subst (λ (q : Many A P). Answers value joint s q z)
      (ap (λ q. (q, v.1 ++ p ∷ y.1)) (sym (append_assoc v.0 (x ∷ []) y.0)) ∙ ap (λ q. ((v.0 ++ x ∷ []) ++ y.0, q)) (sym (append_assoc v.1 (p ∷ []) y.1)) ∙ ap (λ (q : Many A P). onto q y) (sym k))
      (h (x ∷ y.0, p ∷ y.1) z (value_and_mark d a e b n i))

-- ---- a turn that takes nothing

pub refused_there : (k : ErrorKind) (t : Bytes) (s u : Stream) → u.rest ≡ s.rest → u.scope ≡ s.scope → refused k t u ≡ refused k t s
unfolding refused here
refused_there k t s u e f = ap (λ (x : Toks). refusal k (input_end (is_done x) t) (span_at (front x) u.scope.at) (span_at (front x) u.scope.at)) e ∙ ap (λ (x : Scope). refusal k (input_end (is_done s.rest) t) (span_at (front s.rest) x.at) (span_at (front s.rest) x.at)) f
