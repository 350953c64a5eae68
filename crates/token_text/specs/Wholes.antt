-- What a whole read of a text answers, by what the text spells.
use Rattle.std.specs.Prelude.{◌≡◌, ◌⊎◌, List, Option, length, Result, MatchResult}
use Rattle.token_core.specs.declared.span.Span.{Span}
use Rattle.token_core.specs.declared.tree.TokenTree.{TokenTree}
use Rattle.token_core.specs.Reads.{WholeRead, Promised}
use Rattle.token_core.specs.Refusal.{Refusal, out_of_memory}
use Rattle.token_core.specs.Spans.{span}
use Rattle.token_core.specs.Stream.{Stream, started}
use Rattle.token_core.specs.Toks.{Bytes, Toks}
use Rattle.token_core.specs.Trees.{toks}
use Rattle.token_text.specs.declared.piece.Docs.{Docs}
use Rattle.token_text.specs.declared.piece.Docs.TheVariants.{Refuse}
use Rattle.token_text.specs.Spelling.{SpellsWith, RefusedWith}

-- the place of a text's end
abbrev pub text_end : Bytes → Span
text_end text = span (length text) (length text)

-- the refusal that was asked for, unless memory ran out
abbrev pub RefusedSo : {A : Type 0} → Refusal → Result A Refusal → Type 0
RefusedSo e r = MatchResult r (λ _. ⊥) (λ f. (f ≡ e) ⊎ (f ≡ out_of_memory))

-- a whole read of the tokens that the text spells, in the scope of its end
abbrev pub ReadsWith : {A : Type 0} → Docs → (Stream → A → Stream → Type 0) → (Stream → Refusal → Type 0) → Bytes → Result A Refusal → Type 0
ReadsWith docs reads refuses text r = (l : List TokenTree) → SpellsWith docs text l → WholeRead reads refuses (started (text_end text) (toks l)) r

-- what is promised of these tokens
abbrev pub KeepsWith : {A : Type 0} → Docs → (Toks → Option A → Type 0) → Bytes → Result A Refusal → Type 0
KeepsWith docs promise text r = (l : List TokenTree) → SpellsWith docs text l → Promised (promise (toks l)) r

-- what the text itself is refused for
abbrev pub RefusesWith : {A : Type 0} → Docs → Bytes → Result A Refusal → Type 0
RefusesWith docs text r = (e : Refusal) → RefusedWith docs text e → RefusedSo e r

-- An answer is that of tokens which the text spells; a refusal is for memory, one that the text has, or one of a read of tokens which it spells.
abbrev pub ToldWith : {A : Type 0} → Docs → Bytes → Result A Refusal → Type 0
ToldWith docs text r =
    MatchResult r (λ _. (l : List TokenTree) × SpellsWith docs text l)
    (λ e. (e ≡ out_of_memory) ⊎ RefusedWith docs text e ⊎ ((l : List TokenTree) × SpellsWith docs text l))

-- the same where comments of documentation are refused

abbrev pub Reads : {A : Type 0} → (Stream → A → Stream → Type 0) → (Stream → Refusal → Type 0) → Bytes → Result A Refusal → Type 0
Reads reads refuses text r = ReadsWith Refuse reads refuses text r

abbrev pub Keeps : {A : Type 0} → (Toks → Option A → Type 0) → Bytes → Result A Refusal → Type 0
Keeps promise text r = KeepsWith Refuse promise text r

abbrev pub Refuses : {A : Type 0} → Bytes → Result A Refusal → Type 0
Refuses text r = RefusesWith Refuse text r

abbrev pub Told : {A : Type 0} → Bytes → Result A Refusal → Type 0
Told text r = ToldWith Refuse text r
