use Rattle.git_ideals.proofs.Cancelling.{height}
use Rattle.git_reduce.specs.Steps.{IsReached}
use Rattle.git_reduce.proofs.division.divides_to_zero.Given as goal

abbrev pub invariant-loop-step : goal.invariant-loop-step
invariant-loop-step l = IsReached l.basis l.f l.dividend

abbrev pub decreases-loop-step : goal.decreases-loop-step
decreases-loop-step l = height l.dividend
