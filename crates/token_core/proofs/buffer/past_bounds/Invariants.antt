use Rattle.std.proofs.Common.{◌≡◌, ◌≤◌, length, drop, ◌-◌}
use Rattle.token_core.specs.Front.{front}
use Rattle.token_core.specs.Entries.{entries_view}
use Rattle.token_core.proofs.buffer.past_bounds.Given as goal

abbrev pub invariant-bounds : goal.invariant-bounds
invariant-bounds l = record {
  in_range : l.at ≤ length l.entries;
  front : front (entries_view (drop l.at l.entries)) ≡ front (entries_view l.entries);
}

abbrev pub decreases-bounds : goal.decreases-bounds
decreases-bounds l = length l.entries - l.at
