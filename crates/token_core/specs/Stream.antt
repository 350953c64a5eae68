-- What a stream shows: the tokens up to the end of its scope, the span of the first left-over tree that was found
-- in a finished group, the span of the tree just before its position, and its scope.
use Rattle.std.specs.Prelude.{Option, None, List, [], refl}
use Rattle.std.specs.Coded.{Coded, code_by, coded×, coded_option}
use Rattle.token_core.specs.declared.span.Span.{Span}
use Rattle.token_core.specs.Toks.{Toks}
use Rattle.token_core.specs.Codes.{span_code}
use Rattle.token_core.specs.Pieces.{toks_code}
use Rattle.token_core.specs.Positions.{Item, items_code}
use Rattle.token_core.specs.Spans.{none}

-- where refusals at its end point, and what follows it in the whole buffer
pub record Scope : Type 0 where
  pub at : Span
  pub after : List Item

abbrev pub scope_code : Coded Scope
scope_code = code_by (Span × List Item) (coded× span_code items_code) (λ s. (s.at, s.after)) (λ p. record { at = p.0; after = p.1 }) (λ _. refl)

pub record Stream : Type 0 where
  pub rest : Toks
  pub left : Option Span
  pub last : Span
  pub scope : Scope

abbrev pub stream_code : Coded Stream
stream_code = code_by (Toks × (Option Span × (Span × Scope))) (coded× toks_code (coded× (coded_option span_code) (coded× span_code scope_code)))
    (λ s. (s.rest, (s.left, (s.last, s.scope)))) (λ p. record { rest = p.0; left = p.1.0; last = p.1.1.0; scope = p.1.1.1 }) (λ _. refl)

-- a scope that ends where the buffer ends
abbrev pub whole : Span → Scope
whole s = record { at = s; after = [] }

-- at the front of a list
abbrev pub started : Span → Toks → Stream
started s t = record { rest = t; left = None; last = none; scope = whole s }
