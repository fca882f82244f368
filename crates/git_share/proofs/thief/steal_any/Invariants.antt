use Rattle.std.proofs.Common.{◌≡◌, length}
use Rattle.std.specs.List.{All}
use Rattle.git_share.specs.Views.{IsThief}
use Rattle.git_share.proofs.thief.steal_any.Given as goal

abbrev pub invariant-loop-i : goal.invariant-loop-i
invariant-loop-i l = record {
  long : length l.thieves.items ≡ length l.fn.thieves.items;
  kept : All (IsThief l.room) l.thieves.items;
}
