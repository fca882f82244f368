use Rattle.std.proofs.Common.{◌≡◌, [], length, Some}
use Rattle.std.specs.List.{All}
use Rattle.git_share.specs.Views.{HintsView, IsNew}
use Rattle.git_share.proofs.new.lones.Given as goal

abbrev pub invariant-loop-member : goal.invariant-loop-member
invariant-loop-member l = record {
  long : length l.all.items ≡ l._member;
  new : All (IsNew l.room) l.all.items;
  alone : All (λ (h : HintsView). h.queue ≡ Some []) l.all.items;
}
