-- Lists of vectors as a set.
use Rattle.std.specs.Prelude.{◌↔◌, List, AllPairs, Contains}
use Rattle.std.specs.Global.{Vec}
use Rattle.git_defs.specs.Vectors.{Vector}
use Rattle.git_ints.specs.declared.vector.IVec.{IVec}
use Rattle.git_allcones.specs.Faces.{StandsBefore}

abbrev pub vectors_of : Vec IVec → List Vector
vectors_of v = v.items

-- the same lists
abbrev pub SameLists : List (List Vector) → List (List Vector) → Type 0
SameLists lists others = (vs : List Vector) → Contains lists vs ↔ Contains others vs

-- the same lists, each once, in order
pub record IsListSet (old new : List (List Vector)) : Type 0 where
  pub sorted : AllPairs StandsBefore new
  pub same : SameLists new old
