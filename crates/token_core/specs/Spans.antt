-- Spans by their parts.
use Rattle.std.specs.Prelude.{ℕ}
use Rattle.token_core.specs.declared.span.Span.{Span}
use Rattle.token_core.specs.declared.span.DelimSpan.{DelimSpan}

abbrev pub span : ℕ → ℕ → Span
span l h = record { lo = l; hi = h }

abbrev pub none : Span
none = record { lo = 0; hi = 0 }

abbrev pub delim_span : Span → Span → DelimSpan
delim_span o c = record { opening = o; closing = c }
