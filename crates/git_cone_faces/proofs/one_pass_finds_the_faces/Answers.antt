use Rattle.git_cone_faces.proofs.Full.{full_pass}
use Rattle.git_cone_faces.proofs.one_pass_finds_the_faces.Goals as goal

pub returns : goal.returns
returns c = λ k rays facets list full. full_pass full list
