-- A call says what it was asked to say.
use Rattle.std.proofs.Common.{◌≡◌, ℕ, length, ap, subst, ◌∙◌}
use Rattle.token_core.specs.Toks.{Bytes}
use Rattle.syn_run.specs.declared.call.Call.{Call}
use Rattle.syn_run.specs.Calls.{Takes, Tells}

pub tells_so : (s t : Bytes) (ends k j : ℕ) (p q : ℕ × ℕ) (old new : Bytes) (call : Call) → s ≡ t → k ≡ j → p ≡ q → Tells s ends k p old new call → Tells t ends j q old new call
tells_so s t ends k j p q old new call e f g h = record {
  bytes = h.bytes ∙ ap length e;
  kind = h.kind ∙ f;
  start = h.start ∙ ap (λ x. x.0) g;
  end = h.end ∙ ap (λ x. x.1) g;
  takes = let P : Bytes → Type 0 = λ x. Takes x ends old new call.status in subst P e h.takes;
}
