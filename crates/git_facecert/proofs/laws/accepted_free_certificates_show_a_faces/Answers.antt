use Rattle.git_facecert.proofs.Showing.{free_show}
use Rattle.git_facecert.proofs.laws.accepted_free_certificates_show_a_faces.Goals as goal

pub returns : goal.returns
returns c = free_show
