use Rattle.std.proofs.Common.{◌≡◌, true, false, cond, ◌==◌, length, ap, sym, ◌∙◌}
use Rattle.std.proofs.lemmas.Bool.{eq-eqb, ne_eqb}
use Rattle.token_text.proofs.notes.start_of.Goals as goal

pub returns-then-span-eq0 : goal.returns-then-span-eq0
returns-then-span-eq0 c =
    let e = c.args.refusal.now in
    let t : (e.start.hi == 0) ≡ true = ap (λ p. p.hi == 0) (sym c.start-span.ensures) ∙ eq-eqb _ 0 c.if-span-eq0.true in
    ap (λ b. cond b (length c.args.text.now) e.start.lo) (sym t)

pub returns-else-span-eq0 : goal.returns-else-span-eq0
returns-else-span-eq0 c =
    let e = c.args.refusal.now in
    let t : (e.start.hi == 0) ≡ false = ap (λ p. p.hi == 0) (sym c.start-span.ensures) ∙ ne_eqb _ 0 c.if-span-eq0.false in
    ap (λ p. p.lo) c.start-span.ensures ∙ ap (λ b. cond b (length c.args.text.now) e.start.lo) (sym t)
