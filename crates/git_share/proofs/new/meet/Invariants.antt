use Rattle.std.proofs.Common.{◌≡◌, length}
use Rattle.std.specs.List.{All}
use Rattle.git_share.specs.Views.{IsNew}
use Rattle.git_share.proofs.new.meet.Given as goal

abbrev pub invariant-loop-step : goal.invariant-loop-step
invariant-loop-step l = record {
  long : length l.all.items ≡ length l.fn.all.items;
  new : All (IsNew l.room) l.all.items;
}
