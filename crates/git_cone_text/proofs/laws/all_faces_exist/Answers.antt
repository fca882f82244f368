use Rattle.git_cone_text.proofs.Exists.{all_exist}
use Rattle.git_cone_text.proofs.laws.all_faces_exist.Goals as goal

pub returns : goal.returns
returns c = all_exist
