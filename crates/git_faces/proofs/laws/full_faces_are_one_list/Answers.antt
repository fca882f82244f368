use Rattle.git_faces.proofs.FullLists.{some, one}
use Rattle.git_faces.proofs.laws.full_faces_are_one_list.Goals as goal

pub returns : goal.returns
returns c = record { some = some; one = one }
