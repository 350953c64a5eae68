-- The tokens of groups.
use Rattle.std.specs.Prelude.{ℕ, zero, suc, Bool, true, false, Option, Some, None, Ok, Err, codes}
use Rattle.token_core.specs.declared.span.DelimSpan.{DelimSpan}
use Rattle.token_core.specs.declared.token.Paren.{Paren}
use Rattle.token_core.specs.declared.token.Brace.{Brace}
use Rattle.token_core.specs.declared.token.Bracket.{Bracket}
use Rattle.token_core.specs.declared.token.GroupToken.{GroupToken}
use Rattle.token_core.specs.Toks.{Bytes, Toks, done, word, mark, lit, group, enter, leave}
use Rattle.token_core.specs.Front.{past_ends}
use Rattle.token_core.specs.Stream.{Stream}
use Rattle.token_core.specs.Reads.{Outcome, Reader, expected, inside, past}

abbrev pub paren : DelimSpan → Paren
paren s = record { span = s }

abbrev pub brace : DelimSpan → Brace
brace s = record { span = s }

abbrev pub bracket : DelimSpan → Bracket
bracket s = record { span = s }

abbrev pub group_token : DelimSpan → GroupToken
group_token s = record { span = s }

-- how refusals name them
abbrev pub paren_name : Bytes
paren_name = codes "parentheses"

abbrev pub brace_name : Bytes
brace_name = codes "curly braces"

abbrev pub bracket_name : Bytes
bracket_name = codes "square brackets"

abbrev pub invisible_name : Bytes
invisible_name = codes "invisible group"

-- the token of a group, and its child stream
abbrev pub opened : {T : Type 0} → (DelimSpan → T) → Outcome (DelimSpan × Stream) → Outcome (T × Stream)
opened f (Ok p) = Ok ((f p.0.0, p.0.1), p.1)
opened f (Err e) = Err e

-- ---- invisible groups

-- the tokens before the end of an invisible group that was entered, so many groups further out
abbrev pub within : ℕ → Toks → Toks
within n done = done
within n (word i k) = word i (within n k)
within n (mark p k) = mark p (within n k)
within n (lit l k) = lit l (within n k)
within n (group d s c k) = group d s c (within n k)
within n (enter s k) = enter s (within (suc n) k)
within zero (leave k) = done
within (suc n) (leave k) = leave (within n k)

-- the tokens after that end
abbrev pub beyond : ℕ → Toks → Toks
beyond n done = done
beyond n (word i k) = beyond n k
beyond n (mark p k) = beyond n k
beyond n (lit l k) = beyond n k
beyond n (group d s c k) = beyond n k
beyond n (enter s k) = beyond (suc n) k
beyond zero (leave k) = k
beyond (suc n) (leave k) = beyond n k

-- the invisible group that begins there, what it holds and what follows it
abbrev pub as_invisible : Toks → Option (DelimSpan × Toks × Toks)
as_invisible done = None
as_invisible (word i k) = None
as_invisible (mark p k) = None
as_invisible (lit l k) = None
as_invisible (group d s c k) = None
as_invisible (enter s k) = Some (s, within 0 k, beyond 0 k)
as_invisible (leave k) = None

-- the one at the front, after the ends of others
abbrev pub next_invisible : Toks → Option (DelimSpan × Toks × Toks)
next_invisible l = as_invisible (past_ends l)

abbrev pub is_there : Option (DelimSpan × Toks × Toks) → Bool
is_there None = false
is_there (Some p) = true

unfoldable pub sees_invisible : Toks → Bool
sees_invisible l = is_there (next_invisible l)

abbrev pub invisible_at : Stream → Option (DelimSpan × Toks × Toks) → Outcome (DelimSpan × Stream)
invisible_at s None = Err (expected invisible_name s)
invisible_at s (Some p) = Ok ((p.0, inside s p.0 p.1 p.2), past s p.2 p.0.closing)

-- the child stream of the invisible group at the front
unfoldable pub open_invisible : Reader (DelimSpan × Stream)
open_invisible s = invisible_at s (next_invisible s.rest)
