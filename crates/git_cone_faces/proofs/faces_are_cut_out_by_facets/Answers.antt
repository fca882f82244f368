use Rattle.git_cone_faces.proofs.Full.{full_faces}
use Rattle.git_cone_faces.proofs.faces_are_cut_out_by_facets.Goals as goal

pub returns : goal.returns
returns c = λ k rays facets list full. full_faces full list
