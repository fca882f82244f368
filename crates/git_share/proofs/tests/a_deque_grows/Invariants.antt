use Rattle.std.proofs.Common.{◌≡◌}
use Rattle.git_share.proofs.tests.a_deque_grows.Given as goal

abbrev pub invariant-loop-id : goal.invariant-loop-id
invariant-loop-id g l = l.one.room ≡ 65600
