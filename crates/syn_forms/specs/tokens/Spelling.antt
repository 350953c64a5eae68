-- Which lists `const` or `mut` spells.
use Rattle.token_core.specs.Spellings.{IsWord}
use Rattle.token_core.specs.Toks.{Toks}
use Rattle.syn_forms.specs.declared.tokens.PointerMutability.{PointerMutability}
use Rattle.syn_forms.specs.declared.tokens.PointerMutability.TheVariants as m
use Rattle.token_core.specs.Tokens as token

pub data IsMutability : PointerMutability → Toks → Toks → Type 0 where
  a_const : {w : token.Const} {l r : Toks} → IsWord w l r → IsMutability (m.Const w) l r
  a_mut : {w : token.Mut} {l r : Toks} → IsWord w l r → IsMutability (m.Mut w) l r
