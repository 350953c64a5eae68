-- Values joined by marks, as they are read.
use Rattle.std.specs.Prelude.{ℕ, zero, suc, Bool, true, false, not, List, [], ◌∷◌, ◌++◌, Ok, Err, if◌then◌else◌}
use Rattle.token_core.specs.declared.error.ErrorKind.TheVariants.{Unexpected}
use Rattle.token_core.specs.Toks.{Toks, done, word, mark, lit, group, enter, leave}
use Rattle.token_core.specs.Reads.{Outcome, Reader, ◌>>=◌, pure, peek, refuse}

-- how many tokens there are up to the end of the scope
abbrev pub size : Toks → ℕ
size done = 0
size (word t k) = suc (size k)
size (mark p k) = suc (size k)
size (lit l k) = suc (size k)
size (group d s c k) = suc (size k)
size (enter s k) = suc (size k)
size (leave k) = suc (size k)

-- values and marks, as a punctuated list shows them
abbrev pub Many : Type 0 → Type 0 → Type 0
Many A P = List A × List P

-- A value, and as long as a mark follows, the mark and a further value, up to where the list stops. The tests say where it
-- stops before a value, at first and after a mark, and whether a mark follows a value.
module _ {A P : Type 0} (stops : Bool → Toks → Bool) (value : Bool → Reader A) (more : Toks → Bool) (joint : Reader P) where
  abbrev pub none : Many A P
  none = ([], [])

  abbrev pub one : A → Many A P
  one x = (x ∷ [], [])

  abbrev pub put : A → P → Many A P → Many A P
  put x p v = (x ∷ v.0, p ∷ v.1)

  -- at most n values; the first value is read as such
  abbrev pub listed_from : ℕ → Bool → Reader (Many A P)
  listed_from zero first = refuse Unexpected
  listed_from (suc n) first = do
    over ← peek (stops first)
    if over then pure none else (do
      x ← value first
      goes ← peek more
      if goes then (do
        p ← joint
        rest ← listed_from n false
        pure (put x p rest)) else pure (one x))

  unfoldable pub listed : Bool → Reader (Many A P)
  listed first s = listed_from (suc (size s.rest)) first s

-- a list that doesn't stop before a value
abbrev pub never : Bool → Toks → Bool
never first l = false

abbrev pub joined_from : {A P : Type 0} → (Bool → Reader A) → (Toks → Bool) → Reader P → ℕ → Bool → Reader (Many A P)
joined_from value more joint = listed_from never value more joint

abbrev pub joined : {A P : Type 0} → (Bool → Reader A) → (Toks → Bool) → Reader P → Bool → Reader (Many A P)
joined value more joint = listed never value more joint

-- a list that stops where the test holds, before a value and after one: there a mark is needed
abbrev pub terminated : {A P : Type 0} → (Toks → Bool) → Reader A → Reader P → Reader (Many A P)
terminated ends value joint = listed (λ first. ends) (λ first. value) (λ l. not (ends l)) joint true

abbrev pub onto : {A P : Type 0} → Many A P → Many A P → Many A P
onto v w = (v.0 ++ w.0, v.1 ++ w.1)

-- what was found, before what is read
abbrev pub after : {A P : Type 0} → Many A P → Outcome (Many A P) → Outcome (Many A P)
after v (Ok p) = Ok (onto v p.0, p.1)
after v (Err e) = Err e

abbrev pub is_first : {A P : Type 0} → Many A P → Bool
is_first ([], ps) = true
is_first (x ∷ xs, ps) = false
