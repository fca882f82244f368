use Rattle.std.proofs.Common.{◌≡◌}
use Rattle.std.specs.List.{All}
use Rattle.git_share.specs.Views.{HintsView}
use Rattle.git_share.proofs.tests.is_row.Given as goal

abbrev pub invariant-loop-giver : goal.invariant-loop-giver
invariant-loop-giver l = All (λ (h : HintsView). h.room ≡ 8) l.all.items
