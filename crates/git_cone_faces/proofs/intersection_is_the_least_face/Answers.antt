use Rattle.git_cone_faces.proofs.Meetings.{common_face}
use Rattle.git_cone_faces.proofs.intersection_is_the_least_face.Goals as goal

pub returns : goal.returns
returns c = λ k rays facets other_rays other_facets common one other e. common_face k rays facets other_rays other_facets common one other e
