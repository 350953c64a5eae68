-- Captured parameters are read turn by turn.
use Rattle.std.proofs.Common.{◌≡◌, ◌<◌, Bool, true, false, not, [], ◌∷◌, ◌++◌, Ok, Err, ap, subst, ◌∙◌}
use Rattle.syn_ty.proofs.ty_laws.words.Tokens.{Many, size, Refusal, Stream, Toks, Reader}
use Rattle.syn_ty.proofs.ty_laws.words.Forms.{list}
use Rattle.syn_ty.proofs.ty_laws.words.Types.{CapturedParam, captured_comma, listed_captured}
use Rattle.token_core.specs.Tokens as token
use Rattle.syn_forms.proofs.lists_laws.Turns as turns

abbrev pub Captures : Type 0
Captures = Many CapturedParam token.Comma

abbrev pub ends : Bool → Toks → Bool
ends first = token.sees_gt

abbrev pub goes : Toks → Bool
goes k = not (token.sees_gt k)

abbrev pub all : Reader Captures
all = list (λ first. token.sees_gt) listed_captured (λ k. not (token.sees_gt k)) captured_comma true

-- what is told of the list after some turns
pub record Told (s : Stream) (v : Captures) (t : Stream) : Type 0 where
  pub first : Bool
  pub told : turns.Told ends listed_captured goes captured_comma (all s) v first t

pub start : (s : Stream) → Told s ([], []) s
start s = record { first = true; told = subst (λ w. turns.Told ends listed_captured goes captured_comma w ([], []) true s) (turns.none_yet_at (all s)) (turns.start ends listed_captured goes captured_comma ([], []) true s) }

pub over : (s t : Stream) (v : Captures) → Told s v t → token.sees_gt t.rest ≡ true → all s ≡ Ok (v, t)
over s t v i h = i.told.told ∙ turns.over ends listed_captured goes captured_comma i.told.turns v i.first t h

pub refused : (s t : Stream) (v : Captures) (e : Refusal) → Told s v t → token.sees_gt t.rest ≡ false → listed_captured t ≡ Err e → all s ≡ Err e
refused s t v e i h k = i.told.told ∙ turns.refused ends listed_captured goes captured_comma i.told.turns v i.first t e h k

pub last : (s t u : Stream) (v : Captures) (x : CapturedParam) → Told s v t → token.sees_gt t.rest ≡ false → listed_captured t ≡ Ok (x, u) → token.sees_gt u.rest ≡ true → all s ≡ Ok ((v.0 ++ x ∷ [], v.1), u)
last s t u v x i h k g = i.told.told ∙ turns.last ends listed_captured goes captured_comma i.told.turns v i.first t u x h k (ap not g)

pub stuck : (s t u : Stream) (v : Captures) (x : CapturedParam) (e : Refusal) → Told s v t → token.sees_gt t.rest ≡ false → listed_captured t ≡ Ok (x, u) → token.sees_gt u.rest ≡ false → captured_comma u ≡ Err e → all s ≡ Err e
stuck s t u v x e i h k g j = i.told.told ∙ turns.stuck ends listed_captured goes captured_comma i.told.turns v i.first t u x e h k (ap not g) j

pub next : (s t u w : Stream) (v : Captures) (x : CapturedParam) (c : token.Comma) → Told s v t → token.sees_gt t.rest ≡ false → listed_captured t ≡ Ok (x, u) → token.sees_gt u.rest ≡ false → captured_comma u ≡ Ok (c, w) → size w.rest < size t.rest →
    Told s (v.0 ++ x ∷ [], v.1 ++ c ∷ []) w
next s t u w v x c i h k g j less = record { first = false; told = turns.next ends listed_captured goes captured_comma (all s) v i.first t u w x c i.told h k (ap not g) j less }
