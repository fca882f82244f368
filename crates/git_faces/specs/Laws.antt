-- What the crate's laws say.
use Rattle.std.specs.Prelude.{ℕ, ◌≡◌, ◌≤◌, ◌<◌, ◌^◌, ◌⊎◌, List, All}
use Rattle.git_defs.specs.Vectors.{Vector, AllOfLength}
use Rattle.git_algebra.specs.Polynomials.{Polynomial}
use Rattle.git_algebra.specs.Operations.{total_degree}
use Rattle.git_ideals.specs.Faces.{IsAFace}
use Rattle.git_basis.specs.Stops.{StopsBySteps}
use Rattle.git_basis.specs.Laws.{DegreeStop}
use Rattle.git_basis.specs.declared.step.Step.{Step}
use Rattle.git_saturate.specs.Laws.{HasMonomialCertificate}
use Rattle.git_saturate.specs.Verdicts.{IsFreeGiven}
use Rattle.git_faces.specs.FullFaces.{AreFullFaces}
use Rattle.git_faces.specs.FaceVerdicts.{RunEnds, EndBefore, run_of, IsFirstStop}
use Rattle.git_faces.specs.declared.fault.FacesFault.{FacesFault}
use Rattle.git_faces.specs.declared.fault.FacesFault.TheVariants.{Steps, Degree, NoMemory}
use Rattle.git_limits.specs.declared.TheConstants.{COLUMNS, STEPS}
use Rattle.git_basis.specs.declared.element.TheConstants.{RUN_DEGREE}

-- vectors have one list of full faces
pub record FullFaceLaws : Type 0 where
  pub some : (k : ℕ) (columns : List Vector) → AllOfLength k columns → (masks : List ℕ) × AreFullFaces k columns masks
  pub one : (k : ℕ) (columns : List Vector) (ms ns : List ℕ) → AreFullFaces k columns ms → AreFullFaces k columns ns → ms ≡ ns

-- the run of a face stops by steps, or by degree
abbrev pub RunStops : List Polynomial → ℕ → ℕ → Type 0
RunStops generators limit mask = ((steps : List Step) × StopsBySteps (run_of generators mask) limit steps) ⊎ DegreeStop (run_of generators mask) limit

-- some mask is the first whose run stops
pub record HasFirstStop (generators : List Polynomial) (limit : ℕ) (masks : List ℕ) : Type 0 where
  pub mask : ℕ
  pub before : EndBefore generators limit masks mask
  pub stops : RunStops generators limit mask

-- two faults are of one mask, and of one stop of its run
abbrev pub AreSameStops : FacesFault → FacesFault → Type 0
AreSameStops (Steps m s) (Steps n t) = (m ≡ n) × (s.steps.items ≡ t.steps.items)
AreSameStops (Degree m s x) (Degree n t y) = (m ≡ n) × (s.steps.items ≡ t.steps.items) × (x ≡ y)
AreSameStops (Steps m s) (Degree n t y) = ⊥
AreSameStops (Degree m s x) (Steps n t) = ⊥
AreSameStops NoMemory g = Unit {0}
AreSameStops f NoMemory = Unit {0}

-- the runs of all masks end, or one is the first that stops, never both; faults other than want of memory agree
pub record StopLaws : Type 0 where
  pub some : (generators : List Polynomial) (limit : ℕ) (masks : List ℕ) → All (RunEnds generators limit) masks ⊎ HasFirstStop generators limit masks
  pub never_both : (generators : List Polynomial) (limit : ℕ) (masks : List ℕ) → All (RunEnds generators limit) masks → HasFirstStop generators limit masks → ⊥
  pub one : (generators : List Polynomial) (limit : ℕ) (masks : List ℕ) (m n : ℕ) → EndBefore generators limit masks m → EndBefore generators limit masks n → RunStops generators limit m → RunStops generators limit n → m ≡ n
  pub one_fault : (generators : List Polynomial) (limit : ℕ) (masks : List ℕ) (f g : FacesFault) → IsFirstStop generators limit masks f → IsFirstStop generators limit masks g → AreSameStops f g

-- a face has a certificate of its kind
abbrev pub IsCertified : List Polynomial → ℕ → Type 0
IsCertified generators mask = (IsAFace generators mask × ((members : List Polynomial) × IsFreeGiven generators mask members)) ⊎ ((IsAFace generators mask → ⊥) × HasMonomialCertificate generators mask)

-- where the run of a face ends, the face has a certificate of its kind
abbrev pub EndedRunsCertify : Type 0
EndedRunsCertify = (generators : List Polynomial) (limit mask : ℕ) → mask < 2 ^ COLUMNS → limit ≤ STEPS → All (λ f. total_degree f ≤ RUN_DEGREE) generators → RunEnds generators limit mask → IsCertified generators mask
