use Rattle.git_cone_faces.proofs.Meetings.{shared_wall}
use Rattle.git_cone_faces.proofs.neighbours_meet_in_faces.Goals as goal

pub returns : goal.returns
returns c = λ k rays facets other_rays other_facets n one other here there same. shared_wall k rays facets other_rays other_facets n one other here there same
