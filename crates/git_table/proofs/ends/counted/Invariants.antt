use Rattle.std.proofs.Common.{◌≡◌, ◌+◌, ◌-◌, ◌≤◌}
use Rattle.std.specs.Slots.{slots_items}
use Rattle.git_visits.specs.Lists.{cut, filled}
use Rattle.git_table.proofs.ends.counted.Given as goal

abbrev pub invariant-loop-r : goal.invariant-loop-r
invariant-loop-r l = record {
  low : l.count ≤ l.r;
  rest : l.count + filled (cut (slots_items l.closed.words) (l.states + l.r) (l.records - l.r)) ≡ filled (cut (slots_items l.closed.words) l.states l.records);
}
