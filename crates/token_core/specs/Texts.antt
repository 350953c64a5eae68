-- The bytes of a text, wherever it keeps them.
use Rattle.std.specs.Prelude.{ℕ, List, string_bytes}
use Rattle.token_core.specs.declared.text.Kept.{Kept}
use Rattle.token_core.specs.declared.text.Kept.TheVariants.{Short, Long}

unfoldable pub kept_bytes : Kept → List ℕ
kept_bytes (Short s) = s.bytes
kept_bytes (Long s) = string_bytes s
