-- What a whole read of a text answers, where its tokens are read and where they are not.
use Rattle.std.proofs.Common.{◌≡◌, List, Option, Result, Err, ap, subst}
use Rattle.token_core.specs.declared.span.Span.{Span}
use Rattle.token_core.specs.declared.tree.TokenTree.{TokenTree}
use Rattle.token_core.specs.Reads.{WholeRead, Promised}
use Rattle.token_core.specs.Refusal.{Refusal, out_of_memory}
use Rattle.token_core.specs.Stream.{Stream, started}
use Rattle.token_core.specs.Toks.{Bytes, Toks}
use Rattle.token_core.specs.Trees.{toks}
use Rattle.token_text.specs.declared.piece.Docs.{Docs}
use Rattle.token_text.specs.Spelling.{SpellsWith}
use Rattle.token_text.specs.Wholes.{text_end, ReadsWith, KeepsWith}

-- the text was not cut into tokens
module _ {A : Type 0} (docs : Docs) (text : Bytes) (e : Refusal) (all : (l : List TokenTree) → SpellsWith docs text l → e ≡ out_of_memory) where
  pub unread : (reads : Stream → A → Stream → Type 0) (refuses : Stream → Refusal → Type 0) → ReadsWith docs reads refuses text (Err e)
  unread reads refuses l s k = absurd (k (ap (λ x. x.kind) (all l s)))

  pub unkept : (promise : Toks → Option A → Type 0) → KeepsWith docs promise text (Err e)
  unkept promise l s k = absurd (k (ap (λ x. x.kind) (all l s)))

-- these are its tokens
module _ {A : Type 0} (docs : Docs) (text : Bytes) (read : List TokenTree) (all : (l : List TokenTree) → SpellsWith docs text l → read ≡ l) (r : Result A Refusal) where
  pub reads_all : (reads : Stream → A → Stream → Type 0) (refuses : Stream → Refusal → Type 0) (end : Span) → end ≡ text_end text
      → WholeRead reads refuses (started end (toks read)) r → ReadsWith docs reads refuses text r
  reads_all reads refuses end e h l s =
      subst (λ k. WholeRead reads refuses (started (text_end text) (toks k)) r) (all l s) (subst (λ k. WholeRead reads refuses (started k (toks read)) r) e h)

  pub keeps_all : (promise : Toks → Option A → Type 0) → Promised (promise (toks read)) r → KeepsWith docs promise text r
  keeps_all promise h l s = subst (λ k. Promised (promise (toks k)) r) (all l s) h
