-- Punctuated lists as their values and marks.
use Rattle.std.specs.Prelude.{◌≡◌, ℕ, ◌≤◌, ◌+◌, ◌⊎◌, length, List, [], ◌∷◌, ◌++◌, Option, Some, None}

-- as many marks as values, or one fewer
abbrev pub IsShaped : {T P : Type 0} → List T × List P → Type 0
IsShaped v = (length v.0 ≡ length v.1) ⊎ (length v.0 ≡ length v.1 + 1)

-- the same of two numbers, as an invariant
abbrev pub Alternate : ℕ → ℕ → Type 0
Alternate values marks = (marks ≤ values) × (values ≤ marks + 1)

-- values with marks between them, as they are printed
abbrev pub joined : {T P A : Type 0} → (T → List A) → (P → List A) → List T → List P → List A
joined f g [] ps = []
joined f g (x ∷ xs) [] = f x ++ joined f g xs []
joined f g (x ∷ xs) (p ∷ ps) = f x ++ (g p ++ joined f g xs ps)

-- the first and the last of a list
abbrev pub first : {T : Type 0} → List T → Option T
first [] = None
first (x ∷ xs) = Some x

abbrev pub last : {T : Type 0} → List T → Option T
last [] = None
last (x ∷ []) = Some x
last (x ∷ y ∷ xs) = last (y ∷ xs)

-- each value with its mark, if it has one
abbrev pub pairs : {T P : Type 0} → List T → List P → List (T × Option P)
pairs [] ps = []
pairs (x ∷ xs) [] = (x, None) ∷ pairs xs []
pairs (x ∷ xs) (p ∷ ps) = (x, Some p) ∷ pairs xs ps

abbrev pub option_list : {P : Type 0} → Option P → List P
option_list None = []
option_list (Some p) = p ∷ []

-- a value with its mark, if it has one, after others
abbrev pub put_last : {T P : Type 0} → List T × List P → T × Option P → List T × List P
put_last v x = (v.0 ++ x.0 ∷ [], v.1 ++ option_list x.1)
