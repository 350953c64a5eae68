-- Modifiers of a trait bound: their parts, from where to where they stand, and what is refused where none is supported.
use Rattle.std.specs.Prelude.{◌≡◌, Option, Some, None, Result, Ok, Err}
use Rattle.token_core.specs.declared.error.ErrorKind.TheVariants.{BoundModifiersNotSupported}
use Rattle.token_core.specs.declared.span.Span.{Span}
use Rattle.token_core.specs.Refusal.{Made, Refusal, fixed, refusal}
use Rattle.token_core.specs.Tokens as token
use Rattle.syn_ty.specs.declared.generics.BoundConst.{BoundConst}
use Rattle.syn_ty.specs.declared.generics.BoundConst.TheVariants as c
use Rattle.syn_ty.specs.declared.generics.TraitBoundModifiers.{TraitBoundModifiers}

abbrev pub modifiers_of : Option BoundConst → Option token.Async → TraitBoundModifiers
modifiers_of c a = record { constness = c; asyncness = a }

abbrev pub no_modifiers : TraitBoundModifiers
no_modifiers = modifiers_of None None

-- a `const` form from its first to its last token, brackets by their delimiters
abbrev pub ends_of_const : BoundConst → Span × Span
ends_of_const (c.Const w) = (w.span, w.span)
ends_of_const (c.Conditional b w) = (b.span.opening, b.span.closing)

-- modifiers from their first to their last token
abbrev pub ends : Option BoundConst → Option token.Async → Option (Span × Span)
ends None None = None
ends None (Some a) = Some (a.span, a.span)
ends (Some c) None = Some (ends_of_const c)
ends (Some c) (Some a) = Some ((ends_of_const c).0, a.span)

-- where none may stand: with one, it is refused
abbrev pub required_empty : Option (Span × Span) → Result (Unit {0}) Refusal → Type 0
required_empty None r = r ≡ Ok tt
required_empty (Some e) (Ok x) = ⊥
required_empty (Some e) (Err f) = Made f (refusal BoundModifiersNotSupported (fixed BoundModifiersNotSupported) e.0 e.1)
