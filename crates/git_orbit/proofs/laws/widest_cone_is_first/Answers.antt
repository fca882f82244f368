use Rattle.git_orbit.proofs.Fans.{first_is_whole}
use Rattle.git_orbit.proofs.laws.widest_cone_is_first.Goals as goal

pub returns : goal.returns
returns c = λ k columns masks list grading are given. first_is_whole k columns masks list grading.rank are given
