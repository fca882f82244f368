use Rattle.git_defs.proofs.Closed.{closed_cone, cone_closed}
use Rattle.git_lemmas.proofs.Members.{all_member}
use Rattle.git_defs.proofs.Lengths.{all_of_length}
use Rattle.git_defs.specs.Cones.{InCone}
use Rattle.git_geometry.proofs.membership.cone_lies_in_the_cone_of_its_generators.Goals as goal

pub returns : goal.returns
returns c = λ k us vs have all x h. closed_cone k (InCone k vs) us x (cone_closed k vs (all_of_length k vs have))
    (λ u m. all_member (InCone k vs) u us all m) h
