-- What a function value that reads may do.
use Rattle.std.specs.Prelude.{◌≡◌, Result, Err}
use Rattle.std.specs.declared.alloc.Global.{Global}
use denote.Ref.{MutBor}
use Rattle.token_core.specs.Refusal.{Refusal}
use Rattle.token_core.specs.Stream.{Stream}
use Rattle.token_core.specs.Reads.{Follows}

abbrev pub Pre : Type 1
Pre = Global → MutBor Stream → Type 0

abbrev pub Post : Type 0 → Type 1
Post A = Global → MutBor Stream → Result A Refusal → MutBor Stream → Type 0

-- it may be called, and leaves a stream at a suffix
pub record CanParse {A : Type 0} (pre : Pre) (post : Post A) : Type 0 where
  pub callable : (alloc : Global) (old : MutBor Stream) → pre alloc old
  pub follows : (alloc : Global) (old : MutBor Stream) (r : Result A Refusal) (new : MutBor Stream) → post alloc old r new → Follows old.now new.now

-- a call of it may answer this
pub record Answers {A : Type 0} (post : Post A) (old : Stream) (r : Result A Refusal) (new : Stream) : Type 0 where
  pub alloc : Global
  pub before : MutBor Stream
  pub after : MutBor Stream
  pub begins : before.now ≡ old
  pub ends : after.now ≡ new
  pub call : post alloc before r after

abbrev pub RefusesBy : {A : Type 0} → Post A → Stream → Refusal → Type 0
RefusesBy post old e = (new : Stream) × Answers post old (Err e) new
