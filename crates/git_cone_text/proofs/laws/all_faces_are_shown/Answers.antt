use Rattle.git_cone_text.proofs.Exists.{shown}
use Rattle.git_cone_text.proofs.laws.all_faces_are_shown.Goals as goal

pub returns : goal.returns
returns c = shown
