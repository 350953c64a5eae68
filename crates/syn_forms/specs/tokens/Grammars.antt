-- The promise of the reader of `const` or `mut`: it has no verbatim part, and is its own normal form.
use Rattle.std.specs.Prelude.{true}
use Rattle.token_core.specs.Fronted.{Fronting}
use Rattle.token_core.specs.Headline.{Grammar}
use Rattle.token_core.specs.Toks.{done}
use Rattle.syn_forms.specs.declared.tokens.PointerMutability.{PointerMutability}
use Rattle.syn_forms.specs.tokens.Printing.{pointer}
use Rattle.syn_forms.specs.tokens.Reading as reading
use Rattle.syn_forms.specs.tokens.Spelling.{IsMutability}

abbrev pub mutability : Grammar PointerMutability
mutability = record { spells = λ clear x l. IsMutability x l done; normal = λ x. x; print = pointer; plain = λ x. Unit {0}; reader = reading.mutability }

-- on the front of a list, whatever follows
abbrev pub mutability_front : Fronting PointerMutability
mutability_front = record { grammar = mutability; begins = λ clear. IsMutability; follows = λ k. true; plain = λ x k. Unit {0} }
