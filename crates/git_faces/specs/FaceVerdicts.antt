-- Verdicts of faces, and the first face whose run stops before it ends.
use Rattle.std.specs.Prelude.{ℕ, ◌≡◌, ◌↔◌, List, ◌∷◌, ◌++◌, All, Result, Ok, Err}
use Rattle.git_algebra.specs.Polynomials.{Polynomial}
use Rattle.git_ideals.specs.Faces.{IsAFace}
use Rattle.git_basis.specs.Run.{State, first_state}
use Rattle.git_basis.specs.Stops.{Ends, StopsBySteps, StopsByDegree}
use Rattle.git_basis.specs.declared.step.Step.{Step}
use Rattle.git_facecert.specs.declared.certificate.FaceVerdict.{FaceVerdict}
use Rattle.git_saturate.specs.Starts.{start_of}
use Rattle.git_saturate.specs.Verdicts.{IsCertificate, IsFree}
use Rattle.git_faces.specs.declared.fault.FacesFault.{FacesFault}
use Rattle.git_faces.specs.declared.fault.FacesFault.TheVariants.{Steps, Degree, NoMemory}

-- the first state of a face's run
abbrev pub run_of : List Polynomial → ℕ → State
run_of generators mask = first_state (start_of generators mask)

-- the run of the face ends within the limit
pub record RunEnds (generators : List Polynomial) (limit mask : ℕ) : Type 0 where
  pub steps : List Step
  pub ends : Ends (run_of generators mask) limit steps

-- a verdict of the face: its accepted certificate, which is free exactly for a-faces; its run ends
pub record IsFaceVerdict (generators : List Polynomial) (limit mask : ℕ) (v : FaceVerdict) : Type 0 where
  pub of_mask : v.mask ≡ mask
  pub certificate : IsCertificate generators mask v.cert
  pub free : IsFree v.cert ↔ IsAFace generators mask
  pub run_ends : RunEnds generators limit mask

-- the fault says how the run of the face stops
abbrev pub StopsAt : List Polynomial → ℕ → ℕ → FacesFault → Type 0
StopsAt generators limit mask (Steps m trace) = (m ≡ mask) × StopsBySteps (run_of generators mask) limit trace.steps.items
StopsAt generators limit mask (Degree m trace step) = (m ≡ mask) × StopsByDegree (run_of generators mask) limit trace.steps.items step
StopsAt generators limit mask NoMemory = Unit {0}

-- what is found of a face
abbrev pub IsOutcome : List Polynomial → ℕ → ℕ → Result FaceVerdict FacesFault → Type 0
IsOutcome generators limit mask (Ok v) = IsFaceVerdict generators limit mask v
IsOutcome generators limit mask (Err fault) = StopsAt generators limit mask fault

-- the mask is one of the list, and the runs of all before it end
pub record EndBefore (generators : List Polynomial) (limit : ℕ) (masks : List ℕ) (mask : ℕ) : Type 0 where
  pub front : List ℕ
  pub back : List ℕ
  pub whole : masks ≡ front ++ mask ∷ back
  pub before : All (RunEnds generators limit) front

-- the fault is that of the first of the masks whose run stops
abbrev pub IsFirstStop : List Polynomial → ℕ → List ℕ → FacesFault → Type 0
IsFirstStop generators limit masks (Steps mask trace) = EndBefore generators limit masks mask × StopsBySteps (run_of generators mask) limit trace.steps.items
IsFirstStop generators limit masks (Degree mask trace step) = EndBefore generators limit masks mask × StopsByDegree (run_of generators mask) limit trace.steps.items step
IsFirstStop generators limit masks NoMemory = Unit {0}
