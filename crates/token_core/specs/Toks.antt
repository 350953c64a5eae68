-- The view of tokens that contracts share: a list that ends, with each token's own record, span included.
-- A visible group holds its content, which ends too; an invisible one stays flat between its bounds.
use Rattle.std.specs.Prelude.{ℕ, List}
use Rattle.token_core.specs.declared.tree.Delimiter.{Delimiter}
use Rattle.token_core.specs.declared.span.DelimSpan.{DelimSpan}
use Rattle.token_core.specs.declared.tree.Ident.{Ident}
use Rattle.token_core.specs.declared.tree.Punct.{Punct}
use Rattle.token_core.specs.declared.tree.Literal.{Literal}

-- a text, by its bytes
abbrev pub Bytes : Type 0
Bytes = List ℕ

pub data Toks : Type 0 where
  done : Toks
  word : Ident → Toks → Toks
  mark : Punct → Toks → Toks
  lit : Literal → Toks → Toks
  group : Delimiter → DelimSpan → Toks → Toks → Toks
  enter : DelimSpan → Toks → Toks
  leave : Toks → Toks
