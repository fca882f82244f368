use Rattle.git_saturate.proofs.Verdicts.{free, monomial, a_face}
use Rattle.git_saturate.proofs.laws.ended_runs_decide_faces.Goals as goal

pub returns : goal.returns
returns c = record { free = free; monomial = monomial; a_face = a_face }
