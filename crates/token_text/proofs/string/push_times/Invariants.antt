use Rattle.std.proofs.Common.{◌≡◌, ◌++◌, replicate}
use Rattle.token_text.proofs.string.push_times.Given as goal

abbrev pub invariant-loop-left : goal.invariant-loop-left
invariant-loop-left l = l.places.items ++ replicate l.left l.fn.place ≡ l.fn.places.items ++ replicate l.fn.count l.fn.place

abbrev pub decreases-loop-left : goal.decreases-loop-left
decreases-loop-left l = l.left
