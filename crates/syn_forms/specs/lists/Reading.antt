-- Values joined by marks.
use Rattle.std.specs.Prelude.{Bool, true, false, not, ◌&&◌, ◌||◌, if◌then◌else◌, [], ◌∷◌}
use Rattle.token_core.specs.declared.tree.Delimiter.TheVariants as d
use Rattle.token_core.specs.Lifetimes.{sees_lifetime}
use Rattle.token_core.specs.Loops.{Many, listed, never, terminated}
use Rattle.token_core.specs.Toks.{Toks}
use Rattle.token_core.specs.Reads.{Reader, ◌>>=◌, ◌<$>◌, pure, peek, is_done, any_text, sees_group, sees_word}
use Rattle.syn_forms.specs.tokens.Reading.{comma, sees_gt}
use Rattle.token_core.specs.Tokens as token

-- Where a list ends: at the end of its group, or before a `>`. There no value follows, and no mark is needed.
abbrev pub at_end : Toks → Bool
at_end = is_done

abbrev pub before_end : Toks → Bool
before_end l = not (is_done l)

abbrev pub at_gt : Toks → Bool
at_gt = sees_gt

abbrev pub before_gt : Toks → Bool
before_gt l = not (sees_gt l)

-- the values are read alike, at first and after a mark
abbrev pub list : {A M : Type 0} → (Bool → Toks → Bool) → Reader A → (Toks → Bool) → Reader M → Bool → Reader (Many A M)
list stops value more joint = listed stops (λ first. value) more joint

-- what is made of each value
abbrev pub made : {A B : Type 0} → (A → B) → Reader A → Reader B
made make value = make <$> value

module _ {A : Type 0} (value : Reader A) where
  -- a comma, and further elements
  unfoldable pub more_elements : A → Reader (Many A token.Comma)
  more_elements x = do
    c ← comma
    rest ← terminated is_done value comma
    pure (x ∷ rest.0, c ∷ rest.1)

module _ {A M : Type 0} (stops : Bool → Toks → Bool) (value : Reader A) (more : Toks → Bool) (joint : Reader M) where
  -- the list that begins with a value that was read
  unfoldable pub list_from : A → Reader (Many A M)
  list_from x = do
    goes ← peek more
    if goes then (do
      m ← joint
      rest ← list stops value more joint false
      pure (x ∷ rest.0, m ∷ rest.1)) else pure (x ∷ [], [])

-- ---- bounds

-- a further bound begins after a `+`: with an identifier, keywords too, `::`, `?`, a lifetime or parentheses, and where `const` forms may stand with brackets
-- too
unfoldable pub sees_bound : Bool → Toks → Bool
sees_bound consts l = sees_word any_text l || (token.sees_path_sep l || (token.sees_question l || (sees_lifetime l || (sees_group d.Parenthesis l || (consts && sees_group d.Bracket l)))))

-- the first bound is needed; after a `+` the list may be over
abbrev pub stops_bound : Bool → Bool → Toks → Bool
stops_bound consts true l = false
stops_bound consts false l = not (sees_bound consts l)

abbrev pub plus_follows : Bool → Toks → Bool
plus_follows plus l = plus && token.sees_plus l

module _ {B : Type 0} (bound : Reader B) where
  -- several bounds only where a plus is allowed
  abbrev pub bounds : Bool → Bool → Reader (Many B token.Plus)
  bounds consts plus = list (stops_bound consts) bound (plus_follows plus) token.plus true

  -- the same, after the first bound
  abbrev pub bounds_from : Bool → Bool → B → Reader (Many B token.Plus)
  bounds_from consts plus = list_from (stops_bound consts) bound (plus_follows plus) token.plus

  -- after the first bound, each `+` needs a further one
  abbrev pub each_bound_from : B → Reader (Many B token.Plus)
  each_bound_from = list_from never bound token.sees_plus token.plus

  -- bounds up to an end, before which a `+` may stand; there may be none
  abbrev pub bounds_to : (Toks → Bool) → Reader (Many B token.Plus)
  bounds_to ends = list (λ first. ends) bound token.sees_plus token.plus true
