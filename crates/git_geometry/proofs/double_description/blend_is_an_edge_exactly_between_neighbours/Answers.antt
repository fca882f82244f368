use Rattle.git_lemmas.proofs.Members.{contains_member}
use Rattle.git_geometry.proofs.Extreme.{blend_exactly}
use Rattle.git_geometry.proofs.double_description.blend_is_an_edge_exactly_between_neighbours.Goals as goal

pub returns : goal.returns
returns c = λ k A R b r s pointed exact c d above below. blend_exactly k A R b r s pointed exact (contains_member r R c)
    (contains_member s R d) above below
