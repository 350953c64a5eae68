-- Predicates of where clauses: where they and their bounds end, and a predicate of a lifetime after its attributes.
use Rattle.std.specs.Prelude.{Bool, true, not, ◌&&◌, ◌||◌}
use Rattle.token_core.specs.declared.lifetime.Lifetime.{Lifetime}
use Rattle.token_core.specs.declared.tree.Delimiter.TheVariants as d
use Rattle.token_core.specs.Lifetimes.{read_lifetime}
use Rattle.token_core.specs.Loops.{Many}
use Rattle.token_core.specs.Reads.{Reader, ◌>>=◌, pure, is_done, sees_group}
use Rattle.token_core.specs.Toks.{Toks}
use Rattle.syn_forms.specs.lists.Reading.{bounds_to, list}
use Rattle.token_core.specs.Tokens as token

-- where the predicates of a clause end, and the bounds of a type: at the end, braces, `,`, `;`, `=` or a `:` that is not `::`
unfoldable pub ends_predicate : Toks → Bool
ends_predicate l = is_done l || (sees_group d.Brace l || (token.sees_comma l || (token.sees_semi l || ((token.sees_colon l && not (token.sees_path_sep l)) || token.sees_equals l))))

-- the bounds of a lifetime end at every `:`
unfoldable pub ends_lifetime_predicate : Toks → Bool
ends_lifetime_predicate l = is_done l || (sees_group d.Brace l || (token.sees_comma l || (token.sees_semi l || (token.sees_colon l || token.sees_equals l))))

-- predicates up to where the clause ends, before which a comma may stand; there may be none
abbrev pub predicates_to : {A : Type 0} → Reader A → Reader (Many A token.Comma)
predicates_to predicate = list (λ first. ends_predicate) predicate token.sees_comma token.comma true

-- `'a: 'b + 'c`
abbrev pub LifetimePredicate : Type 0
LifetimePredicate = Lifetime × token.Colon × Many Lifetime token.Plus

unfoldable pub lifetime_predicate : Reader LifetimePredicate
lifetime_predicate = do
  l ← read_lifetime
  c ← token.colon
  b ← bounds_to read_lifetime ends_lifetime_predicate
  pure (l, c, b)
