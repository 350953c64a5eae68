-- The signature that is refused after a trait bound.
use Rattle.std.proofs.Common.{◌≡◌, Option, Ok, Err, ap}
use Rattle.syn_ty.proofs.ty_laws.words.Tokens.{and_then, Stream, Refusal}
use Rattle.syn_ty.proofs.ty_laws.words.Paths.{AsWritten}
use Rattle.syn_ty.proofs.ty_laws.words.Forms.{question}
use Rattle.syn_ty.proofs.ty_laws.words.Types.{TraitBoundModifiers, trait_of, binder_after, trait_after, BoundLifetimes, Path, path, signed, Readers}
use Rattle.token_core.specs.Tokens as token
use Rattle.token_core.proofs.Steps.{link}

module _ {A E : Type 0} (r : Readers A E) where
  pub signature_refused : (x : Option (BoundLifetimes A E)) (m : TraitBoundModifiers) (s t u v : Stream) (q : Option token.Question) (y : Option (BoundLifetimes A E)) (p : Path A E) (e : Refusal) →
      question s ≡ Ok (q, t) → binder_after r x q t ≡ Ok (y, u) → path r AsWritten u ≡ Ok (p, v) → signed r p v ≡ Err e → trait_after r x m s ≡ Err e
  unfolding trait_after
  signature_refused x m s t u v q y p e asked bound named refused = link _ asked (link _ bound (link _ named (ap (λ o. and_then o (trait_of m y q)) refused)))
