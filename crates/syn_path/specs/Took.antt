-- What a read took of a list without invisible groups.
use Rattle.std.specs.Prelude.{◌≡◌, None, Result, Ok, Err}
use Rattle.token_core.specs.Reads.{Follows, Reader}
use Rattle.token_core.specs.Rebuilt.{Visible}
use Rattle.token_core.specs.Refusal.{Refusal}
use Rattle.token_core.specs.Stream.{Stream}
use Rattle.token_core.specs.Toks.{Toks}

-- The answer spells what was taken, where in the end no finished group has a tree left over; the rest has no invisible group.
pub record TookOne {A : Type 0} (Is : A → Toks → Toks → Type 0) (s t : Stream) (a : A) : Type 0 where
  pub left : t.left ≡ None → s.left ≡ None
  pub seen : Visible t.rest
  pub spelt : t.left ≡ None → Is a s.rest t.rest

-- a read that answers stands further on
abbrev pub Along : {A : Type 0} → Reader A → Type 0
Along {A} p = (s t : Stream) (x : A) → p s ≡ Ok (x, t) → Follows s t

-- On the front of a list without invisible groups, where no finished group left a tree over, the read took what its answer spells.
abbrev pub Takes : {A : Type 0} → (A → Toks → Toks → Type 0) → Stream → Result A Refusal → Stream → Type 0
Takes Is s (Ok a) t = Visible s.rest → t.left ≡ None → Is a s.rest t.rest
Takes Is s (Err e) t = Unit {0}
