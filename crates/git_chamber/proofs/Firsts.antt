-- The first signature is legal.
use Rattle.std.proofs.Common.{[], ◌∷◌, refl}
use Rattle.git_defs.specs.Vectors.{vector_sum}
use Rattle.git_defs.proofs.Lengths.{all_of_length, more_of_length, none_of_length, of_length_all}
use Rattle.git_geometry.proofs.Inside.{length-vector_sum}
use Rattle.git_machine.specs.Signatures.{Signature}
use Rattle.git_orbit.specs.Signatures.{IsLegal, IsSignature}
use Rattle.git_orbit.proofs.Fans.{first_is_whole}
use Rattle.git_orbit.proofs.Walls.{first_germ_held}
use Rattle.git_chamber.specs.Views.{Graph, IsGraph}
use Rattle.git_chamber.specs.Chambers.{first_germ}

pub first_legal : (g : Graph) → IsGraph g → (s : Signature) → IsSignature g.fan (first_germ g.fan.k g.columns) s → IsLegal g.fan s
first_legal g is s signature =
    let k = g.fan.k in
    let sum = vector_sum k g.columns in
    let entries = length-vector_sum k g.columns (all_of_length k g.columns is.grading.matrix.lengths) in
    let some = first_is_whole k g.columns is.cones.masks g.fan.list is.grading.rank is.cones.cones is.cones.whole in
    record {
      germ = first_germ k g.columns;
      ends = record { front = sum ∷ []; is = refl; entries = of_length_all k (sum ∷ []) (more_of_length k sum [] entries (none_of_length k)) };
      is = signature;
      member = 0;
      has_member = (signature.each 0).1 (some.0, first_germ_held k g.columns is.cones.masks g.fan.list is.grading is.cones.cones is.cones.whole);
    }
