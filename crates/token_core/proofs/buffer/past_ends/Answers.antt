use Rattle.std.proofs.Common.{◌≡◌, true, false, ◌∙◌, ◌-◌, length, take, drop, rules, arith}
use Rattle.std.proofs.lemmas.Grind.{common_steps}
use Rattle.token_core.specs.Front.{is_end}
use Rattle.token_core.proofs.Fronts.{past_end, left_at, left_end, nested_drop}
use Rattle.token_core.proofs.buffer.past_ends.Goals.{then-ends-test+else-is_end, else-ends-test}
use Rattle.token_core.proofs.buffer.past_ends.Goals as goal

pub ends-preserved : goal.ends-preserved
ends-preserved c =
    let b : is_end c.index-entries-at.result ≡ true = search rules in
    record {
      in_range = omega arith;
      front = past_end c.args.entries.now c.ends.at c.index-entries-at.result (omega arith) c.index-entries-at.is b ∙ c.ends.invariant.front;
    }

pub returns-clause-shown : goal.returns-clause-shown
returns-clause-shown c =
    let whole : take (length c.args.entries.now - c.ends.at) (drop c.ends.at c.args.entries.now) ≡ drop c.ends.at c.args.entries.now = grind (arith, common_steps) in
    rw whole (elim c.ends-test.branch [
      | then-ends-test+else-is_end w ↦
          (let b : is_end w.index-entries-at.result ≡ false = search rules in
          left_at c.args.entries.now c.ends.at w.index-entries-at.result (omega arith) w.index-entries-at.is b ∙ c.ends.invariant.front)
      | else-ends-test w ↦ left_end c.args.entries.now c.ends.at (omega arith) ∙ c.ends.invariant.front
    ])

pub returns-clause-nested : goal.returns-clause-nested
returns-clause-nested c =
    let whole : take (length c.args.entries.now - c.ends.at) (drop c.ends.at c.args.entries.now) ≡ drop c.ends.at c.args.entries.now = grind (arith, common_steps) in
    rw whole (nested_drop c.args.entries.now c.ends.at)
