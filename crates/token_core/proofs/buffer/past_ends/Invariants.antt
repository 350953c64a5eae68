use Rattle.std.proofs.Common.{◌≡◌, ◌≤◌, length, drop, ◌-◌}
use Rattle.token_core.specs.Front.{past_ends}
use Rattle.token_core.specs.Entries.{entries_view}
use Rattle.token_core.proofs.buffer.past_ends.Given as goal

abbrev pub invariant-ends : goal.invariant-ends
invariant-ends l = record {
  in_range : l.at ≤ length l.entries;
  front : past_ends (entries_view (drop l.at l.entries)) ≡ past_ends (entries_view l.entries);
}

abbrev pub decreases-ends : goal.decreases-ends
decreases-ends l = length l.entries - l.at
