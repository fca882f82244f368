use Rattle.git_faces.proofs.Certified.{certified}
use Rattle.git_faces.proofs.laws.ended_runs_certify.Goals as goal

pub returns : goal.returns
returns c = certified
