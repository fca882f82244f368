-- Double description: from the extreme vectors of a cone to those after one inequality more.
use Rattle.std.specs.Prelude.{◌≤ℤ◌, ◌<ℤ◌, ◌↔◌, ℕ, List, ◌∷◌, pos, Contains}
use Rattle.git_defs.specs.Vectors.{Vector, dot, AllOfLength}
use Rattle.git_defs.specs.Cones.{InCone, Cut, SameSet, IsPointed, IsEdge, IsExtreme, IsClosed}
use Rattle.git_geometry.specs.Zeros.{Adjacent}
use Rattle.git_geometry.specs.Stages.{blend, Exact, IsNext}

-- a closed set that holds the generators on b's side, and the blends across b, holds the part of the cone on b's side
abbrev pub OneInequalityMore : (Vector → Type 0) → Type 0
OneInequalityMore D = (k : ℕ) (b : Vector) (R : List Vector) → IsClosed k D → AllOfLength k R
    → ((r : Vector) → Contains R r → pos 0 ≤ℤ dot b r → D r)
    → ((r s : Vector) → Contains R r → Contains R s → pos 0 <ℤ dot b r → dot b s <ℤ pos 0 → D (blend b r s))
    → (x : Vector) → InCone k R x → pos 0 ≤ℤ dot b x → D x

-- an exact list has the extreme vectors, and no others
abbrev pub ExactListHasExtremeVectors : Type 0
ExactListHasExtremeVectors = (k : ℕ) (inequalities R : List Vector) → Exact k inequalities R ↔ SameSet (Contains R) (IsExtreme k (Cut k inequalities))

-- the blend of two extreme vectors, one above b and one below, is an edge exactly where they are neighbours
abbrev pub BlendOfNeighboursIsEdge : Type 0
BlendOfNeighboursIsEdge = (k : ℕ) (inequalities R : List Vector) (b r s : Vector) → IsPointed k (Cut k inequalities) → Exact k inequalities R
    → Contains R r → Contains R s → pos 0 <ℤ dot b r → dot b s <ℤ pos 0
    → (IsEdge k (Cut k (b ∷ inequalities)) (blend b r s) ↔ Adjacent inequalities R r s)

-- a list that is exact stays exact with one inequality more
abbrev pub NextListIsExact : Type 0
NextListIsExact = (k : ℕ) (inequalities R S : List Vector) (b : Vector) → IsPointed k (Cut k inequalities) → Exact k inequalities R
    → IsNext inequalities R b S → Exact k (b ∷ inequalities) S
