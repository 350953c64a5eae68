-- A minus and a number, as one literal.
use Rattle.std.specs.Prelude.{refl}
use Rattle.std.specs.Coded.{Coded, code_by, coded×}
use Rattle.token_core.specs.declared.span.Span.{Span}
use Rattle.token_core.specs.declared.tree.Literal.{Literal}
use Rattle.token_core.specs.Codes.{span_code, literal_code}

pub record Negative : Type 0 where
  pub minus : Span
  pub number : Literal

abbrev pub negative_code : Coded Negative
negative_code = code_by (Span × Literal) (coded× span_code literal_code) (λ n. (n.minus, n.number)) (λ p. record { minus = p.0; number = p.1 }) (λ _. refl)
