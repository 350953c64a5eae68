-- Which tokens spell values joined by marks.
use Rattle.std.specs.Prelude.{Bool, true, false, List, [], ◌∷◌}
use Rattle.token_core.specs.Toks.{Toks}

-- The values' spellings, with the marks' between them. `Ends` says where the list may end without a value: at first, where it
-- is then empty, and after a mark.
module _ {A P : Type 0} (V : Bool → A → Toks → Toks → Type 0) (M : P → Toks → Toks → Type 0) (Ends : Bool → Type 0) where
  -- the first tokens spell the values and the marks, and then come the second
  pub data AreListed : Bool → List A → List P → Toks → Toks → Type 0 where
    none_left : {first : Bool} {r : Toks} → Ends first → AreListed first [] [] r r
    last_value : {first : Bool} {x : A} {l r : Toks} → V first x l r → AreListed first (x ∷ []) [] l r
    value_and_mark : {first : Bool} {x : A} {p : P} {xs : List A} {ps : List P} {l m k r : Toks} → V first x l m → M p m k → AreListed false xs ps k r → AreListed first (x ∷ xs) (p ∷ ps) l r

-- where a list may end without a value
abbrev pub Anywhere : Bool → Type 0
Anywhere first = Unit {0}

abbrev pub Nowhere : Bool → Type 0
Nowhere first = ⊥

-- a list that isn't empty, and may end in a mark
abbrev pub AfterMark : Bool → Type 0
AfterMark true = ⊥
AfterMark false = Unit {0}
