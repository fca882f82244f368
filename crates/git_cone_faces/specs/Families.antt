-- Families of cones.
use Rattle.std.specs.Prelude.{ℕ, List, Contains}
use Rattle.git_defs.specs.Vectors.{Vector}
use Rattle.git_defs.specs.Cones.{InCone}
use Rattle.git_cone_faces.specs.Faces.{AreRaysOfFace, MeetInFaces}

-- a cone by its rays and its facets
pub record Cone : Type 0 where
  pub rays : List Vector
  pub facets : List Vector

-- the list has the extreme vectors of a face of one of the cones
pub record AreRaysOfSomeFace (k : ℕ) (cones : List Cone) (list : List Vector) : Type 0 where
  pub cone : Cone
  pub listed : Contains cones cone
  pub face : AreRaysOfFace k (InCone k cone.rays) list

-- the cones and their faces are a fan: what each two of the cones share is a face of both
abbrev pub FormFan : ℕ → List Cone → Type 0
FormFan k cones = (C D : Cone) → Contains cones C → Contains cones D → MeetInFaces k (InCone k C.rays) (InCone k D.rays)
