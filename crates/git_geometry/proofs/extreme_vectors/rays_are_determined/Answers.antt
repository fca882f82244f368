use Rattle.git_geometry.proofs.Rays.{rays_along}
use Rattle.git_geometry.proofs.Sorted.{rays_once}
use Rattle.git_geometry.proofs.extreme_vectors.rays_are_determined.Goals as goal

pub returns : goal.returns
returns g c = λ k us vs same r s. rays_once k g.D.VectorSet.holds us vs (rays_along k g.C.VectorSet.holds g.D.VectorSet.holds us same r) s
