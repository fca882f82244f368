use Rattle.std.proofs.Common.{◌≡◌, ◌+◌, [], length, None}
use Rattle.std.specs.List.{All}
use Rattle.git_table.specs.Calls.{IsOf}
use Rattle.git_share.specs.Views.{IsNew}
use Rattle.git_crew.specs.Members.{IsMember}
use Rattle.git_crew.proofs.close.members.Given as goal

abbrev pub invariant-loop-k : goal.invariant-loop-k
invariant-loop-k g l = record {
  of : IsOf l.frontier l.seat;
  places : l.seat.places + l._k ≡ l.workers + 1;
  free : l.seat.hand ≡ None;
  bare : l.seat.finished ≡ [];
  long : length l.all.items + 1 ≡ l._k;
  hinted : length l.hints.items + l._k ≡ l.workers + 1;
  rooms : All (IsNew (l.cap + l.workers)) l.hints.items;
  ready : All (IsMember g.G.Successors.next g.G.Successors.payload l.frontier 1) l.all.items;
}
