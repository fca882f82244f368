use Rattle.std.proofs.Common.{◌≡◌}
use Rattle.std.proofs.lemmas.List.Elements.{All-weaker}
use Rattle.git_share.specs.Views.{HintsView, IsNew}
use Rattle.git_share.proofs.tests.is_row.Goals as goal

pub loop-giver-init : goal.loop-giver-init
loop-giver-init c = All-weaker (IsNew 8) (λ (h : HintsView). h.room ≡ 8) (λ h n. n.room_is) c.in_ok-all.all.items c.in_ok-all.ensures.new
