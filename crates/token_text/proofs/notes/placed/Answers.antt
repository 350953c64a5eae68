use Rattle.std.proofs.Common.{◌≡◌, string_bytes, ap, ◌∙◌}
use Rattle.std.proofs.lemmas.Result.{IfOk-weaker}
use Rattle.token_text.specs.Note as spec
use Rattle.token_text.proofs.notes.placed.Goals as goal

pub returns : goal.returns
returns c =
    let name = c.args.name.now in
    let text = c.args.text.now in
    let e = c.args.refusal.now in
    let p = c.place_of-start.result in
    IfOk-weaker c.note_at.result (λ s. string_bytes s ≡ spec.note name text c.text.result.now p.0 p.1) (λ s. string_bytes s ≡ spec.placed name text e)
    (λ s h. h ∙ ap (λ m. spec.note name text m p.0 p.1) c.text.ensures ∙ ap (λ q. spec.note name text e.text q.0 q.1) c.place_of-start.ensures) c.note_at.ensures
