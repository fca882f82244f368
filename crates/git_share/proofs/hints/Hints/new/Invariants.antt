use Rattle.std.proofs.Common.{◌≡◌, length}
use Rattle.std.specs.List.{All}
use Rattle.git_share.specs.Views.{IsNew}
use Rattle.git_share.proofs.hints.Hints.new.Given as goal

abbrev pub invariant-loop-member : goal.invariant-loop-member
invariant-loop-member l = record {
  long : length l.all.items ≡ l.members;
  new : All (IsNew l.room) l.all.items;
}
