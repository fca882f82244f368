use Rattle.git_orbit.proofs.Settled.{not_both}
use Rattle.git_orbit.proofs.laws.cones_or_wide.Goals as goal

pub returns : goal.returns
returns c = λ k columns masks mask at list grading faces. not_both k columns masks grading faces mask at list
