-- Lifetimes: a quote that is Joint, and any identifier.
use Rattle.std.specs.Prelude.{Bool, ◌==◌, if◌then◌else◌, ◌∷◌, Option, Some, None, is_some, codes}
use Rattle.token_core.specs.declared.tree.Ident.{Ident}
use Rattle.token_core.specs.declared.tree.Punct.{Punct}
use Rattle.token_core.specs.declared.span.Span.{Span}
use Rattle.token_core.specs.declared.lifetime.Lifetime.{Lifetime}
use Rattle.token_core.specs.declared.tree.Spacing.TheVariants.{Joint}
use Rattle.token_core.specs.declared.tree.TokenTree.TheVariants as t
use Rattle.token_core.specs.Prints.{Print, ident}
use Rattle.token_core.specs.Trees as trees
use Rattle.token_core.specs.Toks.{Bytes, Toks}
use Rattle.token_core.specs.Front.{front}
use Rattle.token_core.specs.Reads.{Reader, as_word, as_punct, is_joint, goes_on, expected, optional}

abbrev pub lifetime : Span → Ident → Lifetime
lifetime a i = record { apostrophe = a; ident = i }

abbrev pub lifetime_name : Bytes
lifetime_name = codes "lifetime"

abbrev pub next_word : Toks → Option (Ident × Toks)
next_word l = as_word (front l)

abbrev pub with_ident : Span → Option (Ident × Toks) → Option (Lifetime × Toks)
with_ident a None = None
with_ident a (Some p) = Some (lifetime a p.0, p.1)

abbrev pub with_quote : Option (Punct × Toks) → Option (Lifetime × Toks)
with_quote None = None
with_quote (Some p) = if p.0.ch == 39 then (if is_joint p.0.spacing then with_ident p.0.span (next_word p.1) else None) else None

-- the lifetime at the front, and what follows it
abbrev pub past_lifetime : Toks → Option (Lifetime × Toks)
past_lifetime l = with_quote (as_punct (front l))

unfoldable pub sees_lifetime : Toks → Bool
sees_lifetime l = is_some (past_lifetime l)

unfoldable pub read_lifetime : Reader Lifetime
read_lifetime s = goes_on (λ x. x.ident.span) (expected lifetime_name s) s (past_lifetime s.rest)

abbrev pub read_optional_lifetime : Reader (Option Lifetime)
read_optional_lifetime = optional sees_lifetime read_lifetime

-- the quote is Joint
abbrev pub print : Lifetime → Print
print x = t.Punct (trees.punct 39 Joint x.apostrophe) ∷ ident x.ident
