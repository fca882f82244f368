use Rattle.git_lemmas.proofs.Members.{all_member}
use Rattle.git_defs.proofs.Lengths.{all_of_length}
use Rattle.git_defs.specs.Vectors.{IsPrimitive}
use Rattle.git_geometry.proofs.Extreme.{extreme_where}
use Rattle.git_geometry.proofs.Minkowski.{generates_of_same}
use Rattle.git_geometry.proofs.extreme_vectors.generator_is_extreme_exactly_where_alone.Goals as goal

pub returns : goal.returns
returns c = λ k A R r same have primitive c. extreme_where k A R r (generates_of_same k A R (all_of_length k R have) same)
    (λ v m. all_member IsPrimitive v R primitive m) c
