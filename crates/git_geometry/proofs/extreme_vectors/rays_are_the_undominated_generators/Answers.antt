use Rattle.git_lemmas.proofs.Members.{all_member}
use Rattle.git_defs.proofs.Lengths.{all_of_length}
use Rattle.git_defs.specs.Vectors.{IsPrimitive}
use Rattle.git_geometry.proofs.Facets.{rays_by_dropping}
use Rattle.git_geometry.proofs.extreme_vectors.rays_are_the_undominated_generators.Goals as goal

pub returns : goal.returns
returns c = λ k vs facets rays have primitive rank f u ordered. rays_by_dropping k vs facets rays (all_of_length k vs have)
    (λ v m. all_member IsPrimitive v vs primitive m) rank f u ordered
