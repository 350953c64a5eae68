use Rattle.std.proofs.Common.{◌≡◌, ◌≤◌, ◌-◌, false, cond, nat_lt, length, arith, ap, sym, ◌∙◌}
use Rattle.std.proofs.lemmas.Bool.{le-ltb}
use Rattle.token_text.specs.Note as spec
use Rattle.token_text.proofs.NoteLaws.{size_so}
use Rattle.token_text.proofs.notes.shown_place.Goals as goal

pub returns-else-start-text : goal.returns-else-start-text
returns-else-start-text c =
    let text = c.args.text.now in
    let le : length text ≤ c.args.start = omega (arith, c.if-start-text.false) in
    let t : nat_lt c.args.start (length text) ≡ false = le-ltb c.args.start (length text) le in
    let last = spec.input_end text in
    let n : length text - length c.after_tokens.result.now ≡ last =
    ap (λ k. length text - k) (size_so c.after_tokens.result.now _ c.after_tokens.utf8 c.after_tokens.ensures.rest) in
    ap (λ k. (k, k)) n ∙ ap (λ b. cond b (c.args.start, c.args.end) (last, last)) (sym t)
