use Rattle.git_orbit.proofs.Fans.{few_cones}
use Rattle.git_orbit.proofs.laws.fan_is_small.Goals as goal

pub returns : goal.returns
returns c = λ fan is. record { some_entries = is.grading.matrix.some_rows; few_entries = is.grading.matrix.few_rows; few_cones = few_cones fan.k fan.list is }
