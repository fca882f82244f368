use Rattle.git_cone_faces.proofs.Meetings.{separated_faces}
use Rattle.git_cone_faces.proofs.separated_cones_meet_in_faces.Goals as goal

pub returns : goal.returns
returns c = λ k rays facets other_rays other_facets n one other side back same. separated_faces k rays facets other_rays other_facets n one other side back same
