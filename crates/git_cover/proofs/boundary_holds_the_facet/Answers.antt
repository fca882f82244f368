use Rattle.git_cover.proofs.Boundaries.{boundary_level}
use Rattle.git_cover.proofs.boundary_holds_the_facet.Goals as goal

pub returns : goal.returns
returns c = λ k walls cones C n are listed facet b x on. boundary_level k walls C n (are.full C listed) (λ r m. are.within C r listed m) facet b x on
