use Rattle.git_ideals.proofs.Cancelling.{height}
use Rattle.git_reduce.specs.Steps.{IsReached}
use Rattle.git_reduce.proofs.division.divided_while_short.Given as goal

abbrev pub invariant-loop-step : goal.invariant-loop-step
invariant-loop-step l = IsReached l.basis l.f l.left

abbrev pub decreases-loop-step : goal.decreases-loop-step
decreases-loop-step l = height l.left
