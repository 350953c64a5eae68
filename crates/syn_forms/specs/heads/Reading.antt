-- What stands before a form, over the read of what it holds.
use Rattle.std.specs.Prelude.{Option}
use Rattle.token_core.specs.declared.lit.LitStr.{LitStr}
use Rattle.token_core.specs.Lits.{sees_str, read_str}
use Rattle.token_core.specs.Loops.{Many, terminated}
use Rattle.token_core.specs.Reads.{Reader, ◌>>=◌, pure, optional}
use Rattle.syn_forms.specs.tokens.Reading.{comma, lt, gt, for_word, sees_gt}
use Rattle.token_core.specs.Tokens as token

-- values in angle brackets: a comma is needed between them, and may follow the last
abbrev pub Angled : Type 0 → Type 0
Angled A = token.Lt × Many A token.Comma × token.Gt

module _ {A : Type 0} (value : Reader A) where
  unfoldable pub angled : Reader (Angled A)
  angled = do
    l ← lt
    v ← terminated sees_gt value comma
    r ← gt
    pure (l, v, r)

  -- `for` before them
  unfoldable pub binder : Reader (token.For × Angled A)
  binder = do
    f ← for_word
    a ← angled
    pure (f, a)

-- `->` and what is returned, where it stands
module _ {A : Type 0} (value : Reader A) where
  unfoldable pub arrow : Reader (token.RArrow × A)
  arrow = do
    a ← token.r_arrow
    x ← value
    pure (a, x)

  abbrev pub returned : Reader (Option (token.RArrow × A))
  returned = optional token.sees_r_arrow arrow

-- `extern "C"`: the string may be missing
abbrev pub AbiParts : Type 0
AbiParts = token.Extern × Option LitStr

unfoldable pub abi : Reader AbiParts
abi = do
  e ← token.extern_word
  n ← optional sees_str read_str
  pure (e, n)

abbrev pub optional_abi : Reader (Option AbiParts)
optional_abi = optional token.sees_extern abi

-- `unsafe extern "C" fn`: all but `fn` may be missing
abbrev pub FnHead : Type 0
FnHead = Option token.Unsafe × Option AbiParts × token.Fn

unfoldable pub fn_head : Reader FnHead
fn_head = do
  u ← optional token.sees_unsafe token.unsafe_word
  a ← optional_abi
  f ← token.fn_word
  pure (u, a, f)
