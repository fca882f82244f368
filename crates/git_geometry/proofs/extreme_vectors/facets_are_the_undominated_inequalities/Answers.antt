use Rattle.git_lemmas.proofs.Members.{all_member}
use Rattle.git_defs.proofs.Lengths.{all_of_length}
use Rattle.git_defs.specs.Vectors.{IsPrimitive}
use Rattle.git_geometry.proofs.Facets.{facets_by_dropping}
use Rattle.git_geometry.proofs.extreme_vectors.facets_are_the_undominated_inequalities.Goals as goal

pub returns : goal.returns
returns c = λ k A rays facets have primitive rank r u ordered. facets_by_dropping k A rays facets (all_of_length k A have)
    (λ v m. all_member IsPrimitive v A primitive m) rank r u ordered
