use Rattle.git_ideals.proofs.Cancelling.{height}
use Rattle.git_reduce.proofs.Dividing.{IsDividedSoFar}
use Rattle.git_reduce.proofs.division.divide.Given as goal

abbrev pub invariant-loop-step : goal.invariant-loop-step
invariant-loop-step l = IsDividedSoFar l.basis l.f l.quotients.items l.dividend

abbrev pub decreases-loop-step : goal.decreases-loop-step
decreases-loop-step l = height l.dividend
