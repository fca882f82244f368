use Rattle.std.proofs.Common.{◌≡◌, length}
use Rattle.std.specs.List.{All}
use Rattle.git_table.specs.Listings.{IsRoom}
use Rattle.git_table.proofs.ends.rooms.Given as goal

abbrev pub invariant-loop-r : goal.invariant-loop-r
invariant-loop-r l = record {
  long : length l.rooms.items ≡ l._r;
  each : All (IsRoom l.width) l.rooms.items;
}
