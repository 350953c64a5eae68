-- Clear spellings: no mark, its last character Joint, begins with what follows it a longer one of these.
use Rattle.std.specs.Prelude.{◌≡◌, ℕ, Bool, true, false, ◌||◌, ◌==◌, if◌then◌else◌, List, [], ◌∷◌}
use Rattle.token_core.specs.declared.tree.Spacing.{Spacing}
use Rattle.token_core.specs.declared.tree.Spacing.TheVariants.{Joint}
use Rattle.token_core.specs.Toks.{Toks}
use Rattle.token_core.specs.Reads.{sees_mark}

-- `::` `->` `..` `...` `..=` `==` `=>` `!=` `<=` `<<=` `||` `|=`
abbrev pub longer : List (List ℕ)
longer =
    (58 ∷ 58 ∷ []) ∷ (45 ∷ 62 ∷ []) ∷ (46 ∷ 46 ∷ []) ∷ (46 ∷ 46 ∷ 46 ∷ []) ∷ (46 ∷ 46 ∷ 61 ∷ []) ∷ (61 ∷ 61 ∷ [])
    ∷ (61 ∷ 62 ∷ []) ∷ (33 ∷ 61 ∷ []) ∷ (60 ∷ 61 ∷ []) ∷ (60 ∷ 60 ∷ 61 ∷ []) ∷ (124 ∷ 124 ∷ []) ∷ (124 ∷ 61 ∷ []) ∷ []

-- the mark of these characters is a part of the longer one, whose others follow
abbrev pub continues : List ℕ → List ℕ → Toks → Bool
continues [] [] l = false
continues [] (m ∷ ms) l = sees_mark (m ∷ ms) l
continues (c ∷ cs) [] l = false
continues (c ∷ cs) (m ∷ ms) l = if c == m then continues cs ms l else false

abbrev pub glued_to : List ℕ → List (List ℕ) → Toks → Bool
glued_to cs [] l = false
glued_to cs (m ∷ ms) l = continues cs m l || glued_to cs ms l

abbrev pub is_glued : List ℕ → Toks → Bool
is_glued cs l = glued_to cs longer l

-- A mark of these characters, of this last spacing, stands before the tokens; where the spelling is clear, it stands apart.
abbrev pub Apart : Bool → List ℕ → Spacing → Toks → Type 0
Apart clear cs j l = clear ≡ true → j ≡ Joint → is_glued cs l ≡ false
