-- What tells whether the columns of a face generate a cone: which columns the cone holds, and for each ray which are along it.
use Rattle.std.specs.Prelude.{ℕ, List, All, Contains}
use Rattle.git_defs.specs.Cones.{Cut}
use Rattle.git_defs.specs.Faces.{face}
use Rattle.git_defs.specs.Vectors.{Vector}
use Rattle.git_ints.specs.Content.{IsPrimitivePart}
use Rattle.git_orbit.specs.Keys.{AreZipped, Selects}

-- the ray is the primitive part of q
abbrev pub IsAlong : Vector → Vector → Type 0
IsAlong ray q = IsPrimitivePart q ray

-- a column of the face is along the ray
abbrev pub MeetsRay : List Vector → ℕ → Vector → Type 0
MeetsRay columns mask r = (q : Vector) × Contains (face columns mask) q × IsAlong r q

abbrev pub MeetsRays : List Vector → List Vector → ℕ → Type 0
MeetsRays columns rays mask = All (MeetsRay columns mask) rays

-- the columns in the cone with these rays and facets, and for each ray the columns along it
pub record IsKey (k : ℕ) (columns rays facets : List Vector) (held : ℕ) (along : List ℕ) : Type 0 where
  pub within : Selects (Cut k facets) columns held
  pub each : AreZipped (λ (r : Vector) (a : ℕ). Selects (IsAlong r) columns a) rays along
