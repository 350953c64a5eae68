-- Values that are asked only where less than a limit is left, in a list that begins there and goes on with less.
use Rattle.std.proofs.Common.{◌≡◌, ℕ, zero, suc, ◌<◌, ◌≤◌, Bool, true, false, Ok, Err, refl, ap, ◌∙◌, arith, if◌then◌else◌, ◌∷◌}
use Rattle.std.proofs.lemmas.Bool.{lt-ltb}
use Rattle.token_core.specs.Stream.{Stream}
use Rattle.token_core.specs.Toks.{Toks}
use Rattle.token_core.specs.Reads.{Reader, Outcome, and_then, ◌>>=◌, pure}
use Rattle.token_core.specs.Loops.{size, Many, listed, none, one}
use Rattle.syn_forms.specs.nested.Below.{ahead, below, below_if}
use Rattle.syn_forms.proofs.lists_laws.Turns.{Goes, after_mark, after_value}

module _ {A P : Type 0} (stops : Bool → Toks → Bool) (value : Reader A) (more : Toks → Bool) (joint : Reader P) (limit : ℕ)
    (value_later : (s t : Stream) (x : A) → value s ≡ Ok (x, t) → ahead t ≤ ahead s)
    (joint_later : (s t : Stream) (p : P) → joint s ≡ Ok (p, t) → ahead t ≤ ahead s) where
  abbrev asked : Reader A
  asked = below limit value

  abbrev Same : ℕ → Bool → Type 0
  Same n b = (s : Stream) → ahead s < limit → Goes stops asked more joint n b s ≡ Goes stops value more joint n b s

  same_marked : (n : ℕ) (x : A) (t : Stream) (o : Outcome P) → Same n false → joint t ≡ o → ahead t < limit →
      and_then o (after_mark stops asked more joint n x) ≡ and_then o (after_mark stops value more joint n x)
  same_marked n x t (Ok q) same e h =
      let le = joint_later t q.1 q.0 e in
      ap (λ (z : Outcome (Many A P)). and_then z (λ rest. pure (x ∷ rest.0, q.0 ∷ rest.1))) (same q.1 (omega (arith, le, h)))
  same_marked n x t (Err r) same e h = refl

  same_tested : (n : ℕ) (x : A) (t : Stream) (goes : Bool) → Same n false → ahead t < limit →
      (if goes then (joint >>= after_mark stops asked more joint n x) else pure (one stops (λ first. asked) more joint x)) t ≡ (if goes then (joint >>= after_mark stops value more joint n x) else pure (one stops (λ first. value) more joint x)) t
  same_tested n x t true same h = same_marked n x t (joint t) same refl h
  same_tested n x t false same h = refl

  same_valued : (n : ℕ) (s : Stream) (o : Outcome A) → Same n false → value s ≡ o → ahead s < limit →
      and_then o (after_value stops asked more joint n) ≡ and_then o (after_value stops value more joint n)
  same_valued n s (Ok q) same e h =
      let le = value_later s q.1 q.0 e in
      same_tested n q.0 q.1 (more q.1.rest) same (omega (arith, le, h))
  same_valued n s (Err r) same e h = refl

  same_begun : (n : ℕ) (s : Stream) (over : Bool) → Same n false → ahead s < limit →
      (if over then pure (none stops (λ first. asked) more joint) else (asked >>= after_value stops asked more joint n)) s ≡ (if over then pure (none stops (λ first. value) more joint) else (value >>= after_value stops value more joint n)) s
  same_begun n s true same h = refl
  same_begun n s false same h =
      ap (λ b. and_then (below_if b value s) (after_value stops asked more joint n)) (lt-ltb (ahead s) limit h)
      ∙ same_valued n s (value s) same refl h

  same_goes : (n : ℕ) (b : Bool) → Same n b
  same_goes zero b s h = refl
  same_goes (suc n) b s h = same_begun n s (stops b s.rest) (same_goes n false) h

  -- the list is read as without the limit
  pub same_list : (b : Bool) (s : Stream) → ahead s < limit → listed stops (λ first. below limit value) more joint b s ≡ listed stops (λ first. value) more joint b s
  unfolding listed
  same_list b s h = same_goes (suc (size s.rest)) b s h
