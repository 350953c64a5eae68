use Rattle.std.proofs.Common.{◌≡◌, true, false, ◌∙◌, ◌-◌, length, take, drop, rules, arith}
use Rattle.std.proofs.lemmas.Grind.{common_steps}
use Rattle.token_core.specs.Front.{is_bound}
use Rattle.token_core.proofs.Fronts.{past_bound, settled_at, settled_end, nested_drop}
use Rattle.token_core.proofs.buffer.past_bounds.Goals.{then-bounds-test+else-is_bound, else-bounds-test}
use Rattle.token_core.proofs.buffer.past_bounds.Goals as goal

pub bounds-preserved : goal.bounds-preserved
bounds-preserved c =
    let b : is_bound c.index-entries-at.result ≡ true = search rules in
    record {
      in_range = omega arith;
      front = past_bound c.args.entries.now c.bounds.at c.index-entries-at.result (omega arith) c.index-entries-at.is b ∙ c.bounds.invariant.front;
    }

pub returns-clause-shown : goal.returns-clause-shown
returns-clause-shown c =
    let whole : take (length c.args.entries.now - c.bounds.at) (drop c.bounds.at c.args.entries.now) ≡ drop c.bounds.at c.args.entries.now = grind (arith, common_steps) in
    rw whole (elim c.bounds-test.branch [
      | then-bounds-test+else-is_bound w ↦
          (let b : is_bound w.index-entries-at.result ≡ false = search rules in
          settled_at c.args.entries.now c.bounds.at w.index-entries-at.result (omega arith) w.index-entries-at.is b ∙ c.bounds.invariant.front)
      | else-bounds-test w ↦ settled_end c.args.entries.now c.bounds.at (omega arith) ∙ c.bounds.invariant.front
    ])

pub returns-clause-nested : goal.returns-clause-nested
returns-clause-nested c =
    let whole : take (length c.args.entries.now - c.bounds.at) (drop c.bounds.at c.args.entries.now) ≡ drop c.bounds.at c.args.entries.now = grind (arith, common_steps) in
    rw whole (nested_drop c.args.entries.now c.bounds.at)
