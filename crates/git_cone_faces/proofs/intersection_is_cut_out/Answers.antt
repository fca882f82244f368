use Rattle.git_defs.specs.Cones.{InCone}
use Rattle.git_cone_faces.proofs.Full.{full_same}
use Rattle.git_cone_faces.proofs.Meetings.{both_cut}
use Rattle.git_cone_faces.proofs.intersection_is_cut_out.Goals as goal

pub returns : goal.returns
returns c = λ k rays facets other_rays other_facets one other. both_cut k (InCone k rays) (InCone k other_rays) facets other_facets (full_same one) (full_same other)
