-- Tokens before others, and a last token that may be glued to what follows it.
use Rattle.std.specs.Prelude.{◌≡◌, ◌||◌, ◌&&◌, ◌==◌, Bool, false, if◌then◌else◌}
use Rattle.token_core.specs.declared.tree.Punct.{Punct}
use Rattle.token_core.specs.Reads.{is_done, is_joint}
use Rattle.token_core.specs.Toks.{Toks, done, word, mark, lit, group, enter, leave}
use Rattle.token_core.specs.Tokens as token

-- the first tokens, and then the second
abbrev pub before : Toks → Toks → Toks
before done k = k
before (word i l) k = word i (before l k)
before (mark p l) k = mark p (before l k)
before (lit x l) k = lit x (before l k)
before (group d s c l) k = group d s c (before l k)
before (enter s l) k = enter s (before l k)
before (leave l) k = leave (before l k)

-- the last token is a mark of this kind
abbrev pub ends_with : (Punct → Bool) → Toks → Bool
ends_with f done = false
ends_with f (word i l) = ends_with f l
ends_with f (mark p l) = if is_done l then f p else ends_with f l
ends_with f (lit x l) = ends_with f l
ends_with f (group d s c l) = ends_with f l
ends_with f (enter s l) = ends_with f l
ends_with f (leave l) = ends_with f l

-- a `!` that is glued to what follows
abbrev pub is_glued_bang : Punct → Bool
is_glued_bang p = is_joint p.spacing && p.ch == token.bang_char

-- the last token is no such `!`
abbrev pub NoBang : Toks → Type 0
NoBang l = ends_with is_glued_bang l ≡ false

-- `:`, `=`, `<`, `|` or a quote that is
abbrev pub is_other_glued : Punct → Bool
is_other_glued p = is_joint p.spacing && (p.ch == token.colon_char || (p.ch == 61 || (p.ch == 60 || (p.ch == 124 || p.ch == 39))))

-- one of these
abbrev pub may_go_on : Punct → Bool
may_go_on p = is_glued_bang p || is_other_glued p

-- the last token does not go on in what follows: it is none of these
abbrev pub Calm : Toks → Type 0
Calm l = ends_with may_go_on l ≡ false

-- What spells tokens up to a rest spells them before others too, where their last token does not go on there.
pub record Moved (Is : Toks → Toks → Type 0) (k l r : Toks) : Type 0 where
  pub calm : Calm r
  pub is : Is (before l k) (before r k)

-- the last token is none of these but perhaps a `!`
abbrev pub Shut : Toks → Type 0
Shut l = ends_with is_other_glued l ≡ false

-- and something stands there
pub record Ended (l : Toks) : Type 0 where
  pub there : is_done l ≡ false
  pub apart : Shut l
