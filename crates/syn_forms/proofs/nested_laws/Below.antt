-- Reads that are asked only where less than a limit is left.
use Rattle.std.proofs.Common.{◌≡◌, ℕ, ◌<◌, Bool, true, false, Ok, refl}
use Rattle.std.specs.Prelude.{nat_lt}
use Rattle.std.proofs.Math.Path.{fun_ext}
use Rattle.std.proofs.lemmas.Bool.{ltb-true}
use Rattle.token_core.specs.Reads.{Reader}
use Rattle.token_core.specs.Stream.{Stream}
use Rattle.syn_forms.specs.nested.Below.{ahead, below, below_if}

below_at : {A : Type 0} (limit : ℕ) (p q : Reader A) (s : Stream) (b : Bool) → nat_lt (ahead s) limit ≡ b → (ahead s < limit → p s ≡ q s) → below_if b p s ≡ below_if b q s
below_at limit p q s true e h = h (ltb-true _ _ e)
below_at limit p q s false e h = refl

-- two reads that agree below a limit are one, asked below it
pub below_same : {A : Type 0} (limit : ℕ) (p q : Reader A) → ((s : Stream) → ahead s < limit → p s ≡ q s) → below limit p ≡ below limit q
below_same limit p q h = fun_ext (λ s. below_at limit p q s (nat_lt (ahead s) limit) refl (h s))

-- what a read below a limit answered
pub record Below {A : Type 0} (limit : ℕ) (p : Reader A) (s t : Stream) (x : A) : Type 0 where
  pub less : ahead s < limit
  pub was : p s ≡ Ok (x, t)

out_if : {A : Type 0} (limit : ℕ) (p : Reader A) (s t : Stream) (x : A) (b : Bool) → nat_lt (ahead s) limit ≡ b → below_if b p s ≡ Ok (x, t) → Below limit p s t x
out_if limit p s t x true h e = record { less = ltb-true _ _ h; was = e }
out_if limit p s t x false h e = cc

pub out : {A : Type 0} (limit : ℕ) (p : Reader A) (s t : Stream) (x : A) → below limit p s ≡ Ok (x, t) → Below limit p s t x
out limit p s t x e = out_if limit p s t x (nat_lt (ahead s) limit) refl e
