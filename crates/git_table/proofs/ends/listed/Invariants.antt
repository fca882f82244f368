use Rattle.std.proofs.Common.{◌≡◌, ◌+◌, ◌-◌, ◌≤◌, ◌++◌, length}
use Rattle.std.specs.List.{All}
use Rattle.std.specs.Slots.{slots_items}
use Rattle.std.specs.Vec.{vec_capacity}
use Rattle.git_visits.specs.Lists.{cut, filled}
use Rattle.git_table.specs.Listings.{IsRoom, rows, sigs_in}
use Rattle.git_table.proofs.ends.listed.Given as goal

abbrev pub invariant-loop-r : goal.invariant-loop-r
invariant-loop-r l = record {
  parts : l.sigs.items ++ sigs_in (rows (slots_items l.closed.words) l.states l.start l.width l.r (l.records - l.r)) ≡ sigs_in (rows (slots_items l.closed.words) l.states l.start l.width 0 l.records);
  holds : length l.sigs.items + length l.rooms.items ≤ vec_capacity l.sigs;
  left : length l.rooms.items ≡ filled (cut (slots_items l.closed.words) (l.states + l.r) (l.records - l.r));
  each : All (IsRoom l.width) l.rooms.items;
}
