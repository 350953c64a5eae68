-- What is held verbatim spells its form clearly before other tokens, where it does so by itself and ends in no glued `!`.
use Rattle.std.proofs.Common.{refl, subst}
use Rattle.syn_ty.proofs.ty_laws.words.Tokens.{TokenStream, row, trees, Toks, done}
use Rattle.syn_ty.proofs.ty_laws.words.Paths.{Calm, Ended, Moved, Shut}
use Rattle.syn_ty.proofs.ty_laws.words.Types.{Manner, clearly}
use Rattle.syn_path.specs.Ends.{NoBang}
use Rattle.syn_path.proofs.Ends.{calm_of}
use Rattle.syn_path.proofs.Moves.{row_before}

module _ (Form : Manner → Toks → Toks → Type 0) (moves : (k l r : Toks) → Form clearly l r → Calm l → Moved (Form clearly) k l r) (ends : (l r : Toks) → Form clearly l r → Shut r → Ended l) where
  -- before other tokens
  pub held_before : (t : TokenStream) → Form clearly (row (trees t) done) done → NoBang (row (trees t) done) → (k : Toks) → Form clearly (row (trees t) k) k
  held_before t i q k =
      let own = row (trees t) done in
      let u = ends own done i refl in
      subst (λ z. Form clearly z k) (row_before (trees t) done k) (moves k own done i (calm_of own q u.apart)).is
