use Rattle.std.proofs.Common.{◌≡◌, ◌∙◌, ◌-◌, suc, chars, drop, rules, arith, sym, ap}
use Rattle.token_text.specs.Pieces.{has_hashes}
use Rattle.token_text.proofs.Pasts.{past_trans}
use Rattle.token_text.proofs.Scans.{has_hashes_end, has_hashes_none, has_hashes_goes}
use Rattle.token_text.proofs.literal.past_hashes.Goals as goal

pub loop-left-preserved : goal.loop-left-preserved
loop-left-preserved c =
    let i = c.loop-left.invariant in
    let e = c.in-Some.ensures in
    let n : c.loop-left.left ≡ suc (c.loop-left.left - 1) = omega (arith, c.loop-left-test.true) in
    let s = has_hashes_goes (c.loop-left.left - 1) _ _ e.0 in (
      search rules,
      past_trans i.1 e.1,
      i.2 ∙ ap (λ k. has_hashes k (chars c.loop-left.rest.now)) n ∙ s.0,
      i.3 ∙ ap (λ k. drop k (chars c.loop-left.rest.now)) n ∙ s.1,
    )

pub returns : goal.returns
returns c =
    let i = c.loop-left.invariant in
    let n : c.loop-left.left ≡ 0 = omega (arith, c.loop-left-test.false) in
    (i.2 ∙ has_hashes_end c.loop-left.left _ n, sym (i.3 ∙ ap (λ k. drop k (chars c.loop-left.rest.now)) n), i.1)

pub returns-in_default : goal.returns-in_default
returns-in_default c =
    let n : c.loop-left.left ≡ suc (c.loop-left.left - 1) = omega (arith, c.loop-left-test.true) in
    c.loop-left.invariant.2 ∙ ap (λ k. has_hashes k (chars c.loop-left.rest.now)) n ∙ has_hashes_none (c.loop-left.left - 1) _ c.in_default.ensures
