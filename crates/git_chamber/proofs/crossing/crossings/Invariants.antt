use Rattle.std.proofs.Common.{◌++◌, List, drop}
use Rattle.git_machine.specs.Signatures.{Signature}
use Rattle.git_chamber.specs.Chambers.{AreCrossings}
use Rattle.git_chamber.proofs.crossing.crossings.Given as goal

abbrev pub invariant-loop-normal : goal.invariant-loop-normal
invariant-loop-normal l = (rest : List Signature) → AreCrossings l.cones l.rays (drop l.normal-index l.normals) rest → AreCrossings l.cones l.rays l.normals (l.sigs.items ++ rest)
