-- What `const` or `mut` prints.
use Rattle.token_core.specs.Prints as p
use Rattle.token_core.specs.Prints.{Print}
use Rattle.syn_forms.specs.declared.tokens.PointerMutability.{PointerMutability}
use Rattle.syn_forms.specs.declared.tokens.PointerMutability.TheVariants as m

abbrev pub pointer : PointerMutability → Print
pointer (m.Const w) = p.word w
pointer (m.Mut w) = p.word w
