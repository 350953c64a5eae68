-- Values joined by marks are read turn by turn, of any number of turns that are left.
use Rattle.std.proofs.Common.{◌≡◌, ℕ, zero, suc, ◌<◌, ◌≤◌, Bool, true, false, [], ◌∷◌, ◌++◌, Ok, Err, refl, sym, ◌∙◌, ap, arith, if◌then◌else◌, append_assoc, append-nil}
use Rattle.std.proofs.Math.Path.{fun_ext}
use Rattle.token_core.specs.Refusal.{Refusal}
use Rattle.token_core.specs.Stream.{Stream}
use Rattle.token_core.specs.Toks.{Toks}
use Rattle.token_core.specs.Reads.{Reader, Outcome, and_then, ◌>>=◌, ◌<$>◌, pure}
use Rattle.token_core.specs.Loops.{size, Many, listed_from, listed, none, one, put, after}
pub use Rattle.syn_path.proofs.Steps.{stopped, passed_on, told_by, no_memory, new_whole, put_whole, marked_whole, none_yet_at}

after-after : {A P : Type 0} (v : Many A P) (x : A) (p : P) (o : Outcome (Many A P)) → after v (and_then o (λ rest. pure (x ∷ rest.0, p ∷ rest.1))) ≡ after (v.0 ++ x ∷ [], v.1 ++ p ∷ []) o
after-after v x p (Err e) = refl
after-after v x p (Ok q) = ap (λ z. Ok ((z, v.1 ++ p ∷ q.0.1), q.1)) (sym (append_assoc v.0 (x ∷ []) q.0.0)) ∙ ap (λ z. Ok (((v.0 ++ x ∷ []) ++ q.0.0, z), q.1)) (sym (append_assoc v.1 (p ∷ []) q.0.1))

after-none : {A P : Type 0} (v : Many A P) (s : Stream) → after v (Ok (([], []), s)) ≡ Ok (v, s)
after-none v s = ap (λ z. Ok ((z, v.1 ++ []), s)) (append-nil v.0) ∙ ap (λ z. Ok ((v.0, z), s)) (append-nil v.1)

-- the value as it is
itself_at : {A : Type 0} (o : Outcome A) → and_then o pure ≡ o
itself_at (Ok p) = refl
itself_at (Err e) = refl

pub itself : {A : Type 0} (p : Reader A) → (λ x. x) <$> p ≡ p
itself p = fun_ext (λ s. itself_at (p s))

-- ---- turns

pub ruleset none_yet = (none_yet_at)

-- after the first value and its mark
pub one_yet_at : {A P : Type 0} (x : A) (p : P) (o : Outcome (Many A P)) → after (x ∷ [], p ∷ []) o ≡ and_then o (λ rest. pure (x ∷ rest.0, p ∷ rest.1))
one_yet_at x p (Ok q) = refl
one_yet_at x p (Err e) = refl

pub ruleset begun_lists = (one_yet_at)

module _ {A P : Type 0} (stops : Bool → Toks → Bool) (value : Reader A) (more : Toks → Bool) (joint : Reader P) where
  abbrev pub Goes : ℕ → Bool → Reader (Many A P)
  Goes = listed_from stops (λ first. value) more joint

  abbrev pub after_mark : ℕ → A → P → Reader (Many A P)
  after_mark n x p = Goes n false >>= (λ rest. pure (put stops (λ first. value) more joint x p rest))

  abbrev pub after_value : ℕ → A → Reader (Many A P)
  after_value n x = λ t. (if more t.rest then (joint >>= after_mark n x) else pure (one stops (λ first. value) more joint x)) t

  begun : (n : ℕ) (v : Many A P) (b : Bool) (s : Stream) → stops b s.rest ≡ false → after v (Goes (suc n) b s) ≡ after v ((value >>= after_value n) s)
  begun n v b s h = ap (λ (z : Bool). after v ((if z then pure (none stops (λ first. value) more joint) else (value >>= after_value n)) s)) h

  -- nothing more
  pub over : (n : ℕ) (v : Many A P) (b : Bool) (s : Stream) → stops b s.rest ≡ true → after v (Goes (suc n) b s) ≡ Ok (v, s)
  over n v b s h = ap (λ (z : Bool). after v ((if z then pure (none stops (λ first. value) more joint) else (value >>= after_value n)) s)) h ∙ after-none v s

  -- no value
  pub refused : (n : ℕ) (v : Many A P) (b : Bool) (s : Stream) (e : Refusal) → stops b s.rest ≡ false → value s ≡ Err e → after v (Goes (suc n) b s) ≡ Err e
  refused n v b s e o h = begun n v b s o ∙ ap (λ (z : Outcome A). after v (and_then z (after_value n))) h

  valued : (n : ℕ) (v : Many A P) (b : Bool) (s t : Stream) (x : A) → stops b s.rest ≡ false → value s ≡ Ok (x, t) → after v (Goes (suc n) b s) ≡ after v (after_value n x t)
  valued n v b s t x o h = begun n v b s o ∙ ap (λ (z : Outcome A). after v (and_then z (after_value n))) h

  -- a value, and no mark after it
  pub last : (n : ℕ) (v : Many A P) (b : Bool) (s t : Stream) (x : A) → stops b s.rest ≡ false → value s ≡ Ok (x, t) → more t.rest ≡ false → after v (Goes (suc n) b s) ≡ Ok ((v.0 ++ x ∷ [], v.1), t)
  last n v b s t x o h k =
      valued n v b s t x o h
      ∙ ap (λ (z : Bool). after v ((if z then (joint >>= after_mark n x) else pure (one stops (λ first. value) more joint x)) t)) k
      ∙ ap (λ z. Ok ((v.0 ++ x ∷ [], z), t)) (append-nil v.1)

  marked : (n : ℕ) (v : Many A P) (b : Bool) (s t : Stream) (x : A) → stops b s.rest ≡ false → value s ≡ Ok (x, t) → more t.rest ≡ true → after v (Goes (suc n) b s) ≡ after v (and_then (joint t) (after_mark n x))
  marked n v b s t x o h k =
      valued n v b s t x o h
      ∙ ap (λ (z : Bool). after v ((if z then (joint >>= after_mark n x) else pure (one stops (λ first. value) more joint x)) t)) k

  -- a value and a mark that is refused
  pub stuck : (n : ℕ) (v : Many A P) (b : Bool) (s t : Stream) (x : A) (e : Refusal) → stops b s.rest ≡ false → value s ≡ Ok (x, t) → more t.rest ≡ true → joint t ≡ Err e → after v (Goes (suc n) b s) ≡ Err e
  stuck n v b s t x e o h k g = marked n v b s t x o h k ∙ ap (λ (z : Outcome P). after v (and_then z (after_mark n x))) g

  -- a value and a mark
  pub on : (n : ℕ) (v : Many A P) (b : Bool) (s t u : Stream) (x : A) (p : P) → stops b s.rest ≡ false → value s ≡ Ok (x, t) → more t.rest ≡ true → joint t ≡ Ok (p, u) →
      after v (Goes (suc n) b s) ≡ after (v.0 ++ x ∷ [], v.1 ++ p ∷ []) (Goes n false u)
  on n v b s t u x p o h k g = marked n v b s t x o h k ∙ ap (λ (z : Outcome P). after v (and_then z (after_mark n x))) g ∙ after-after v x p (Goes n false u)

  -- what is told of a list after some turns, with more turns left than there are tokens
  pub record Told (whole : Outcome (Many A P)) (v : Many A P) (b : Bool) (s : Stream) : Type 0 where
    pub turns : ℕ
    pub enough : size s.rest ≤ turns
    pub told : whole ≡ after v (Goes (suc turns) b s)

  -- before the first turn
  pub start : (v : Many A P) (b : Bool) (s : Stream) → Told (after v (listed stops (λ first. value) more joint b s)) v b s
  unfolding listed
  start v b s = record { turns = size s.rest; enough = omega arith; told = refl }

  next_at : (n : ℕ) (w : Outcome (Many A P)) (v : Many A P) (b : Bool) (s t u : Stream) (x : A) (p : P) → size s.rest ≤ n → w ≡ after v (Goes (suc n) b s) → stops b s.rest ≡ false → value s ≡ Ok (x, t) → more t.rest ≡ true → joint t ≡ Ok (p, u) → size u.rest < size s.rest →
      Told w (v.0 ++ x ∷ [], v.1 ++ p ∷ []) false u
  next_at zero w v b s t u x p le e o h k g less = absurd (omega (arith, le, less))
  next_at (suc n) w v b s t u x p le e o h k g less = record { turns = n; enough = omega (arith, le, less); told = e ∙ on (suc n) v b s t u x p o h k g }

  -- after one turn more
  pub next : (w : Outcome (Many A P)) (v : Many A P) (b : Bool) (s t u : Stream) (x : A) (p : P) → Told w v b s → stops b s.rest ≡ false → value s ≡ Ok (x, t) → more t.rest ≡ true → joint t ≡ Ok (p, u) → size u.rest < size s.rest →
      Told w (v.0 ++ x ∷ [], v.1 ++ p ∷ []) false u
  next w v b s t u x p i = next_at i.turns w v b s t u x p i.enough i.told
