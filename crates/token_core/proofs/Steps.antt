-- Steps of reference readers that answer, one after the other.
use Rattle.std.proofs.Common.{◌≡◌, Bool, if◌then◌else◌, Option, Ok, ◌∙◌, ap}
use Rattle.token_core.specs.declared.span.Span.{Span}
use Rattle.token_core.specs.Toks.{Toks}
use Rattle.token_core.specs.Stream.{Scope, Stream}
use Rattle.token_core.specs.Reads.{Outcome, Reader, and_then}
use Rattle.token_core.proofs.Took.{at}

-- a step that answers, and what goes on from it
pub link : {A B : Type 0} {o : Outcome A} {x : Outcome B} {a : A} {s : Stream} (f : A → Reader B) → o ≡ Ok (a, s) → f a s ≡ x → and_then o f ≡ x
link f e g = ap (λ z. and_then z f) e ∙ g

-- a test that holds, or not
pub chosen : {A : Type 0} (b c : Bool) (p q : Reader A) (s : Stream) (x : Outcome A) → b ≡ c → (if c then p else q) s ≡ x → (if b then p else q) s ≡ x
chosen b c p q s x e h = ap (λ (z : Bool). (if z then p else q) s) e ∙ h

-- a read of the tokens answers, and the stream stands after what was spelt
pub record Reads_to {A : Type 0} (p : Reader A) (a : A) (l r : Toks) (f : Option Span) (e : Span) (sc : Scope) : Type 0 where
  pub last : Span
  pub reads : p (at l f e sc) ≡ Ok (a, at r f last sc)
