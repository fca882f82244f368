use Rattle.git_cone_faces.proofs.Full.{full_filters}
use Rattle.git_cone_faces.proofs.all_facets_leave_no_ray.Goals as goal

pub returns : goal.returns
returns c = λ k rays facets full. full_filters full
