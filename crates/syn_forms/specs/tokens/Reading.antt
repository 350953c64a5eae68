-- The reads of tokens before what a form holds.
use Rattle.std.specs.Prelude.{ℕ, Bool, if◌then◌else◌, Option, Err, codes}
use Rattle.token_core.specs.Marks as marks
use Rattle.token_core.specs.Toks.{Bytes, Toks}
use Rattle.token_core.specs.Reads.{Reader, ◌>>=◌, ◌<$>◌, peek, optional, expected, is_text, sees_word}
use Rattle.syn_forms.specs.declared.tokens.PointerMutability.{PointerMutability}
use Rattle.syn_forms.specs.declared.tokens.PointerMutability.TheVariants as m
pub use Rattle.token_core.specs.Tokens.{sees_comma, sees_semi, sees_gt, sees_question, and, star, comma, plus, semi, lt, gt, for_word}
use Rattle.token_core.specs.Tokens as token

-- ---- tests

abbrev pub sees_named : ℕ → Toks → Bool
sees_named n = sees_word (is_text (marks.text_of n))

-- ---- reads

abbrev pub question : Reader (Option token.Question)
question = optional sees_question token.question

abbrev pub asyncness : Reader (Option token.Async)
asyncness = optional token.sees_async token.async_word

abbrev pub mutable : Reader (Option token.Mut)
mutable = optional token.sees_mut token.mut_word

abbrev pub mutability_name : Bytes
mutability_name = codes "`const` or `mut`"

-- `const` or `mut`
unfoldable pub mutability : Reader PointerMutability
mutability = do
  is_const ← peek token.sees_const
  if is_const then m.Const <$> token.const_word else (do
    is_mut ← peek token.sees_mut
    if is_mut then m.Mut <$> token.mut_word else (λ s. Err (expected mutability_name s)))
