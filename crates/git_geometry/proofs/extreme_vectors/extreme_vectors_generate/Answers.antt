use Rattle.git_geometry.proofs.Facets.{rays_same}
use Rattle.git_geometry.proofs.extreme_vectors.extreme_vectors_generate.Goals as goal

pub returns : goal.returns
returns g c = λ k rays cut pointed r. rays_same k g.C.VectorSet.holds rays cut pointed r
