-- The full faces of an input, how their runs stop, and their certificates.
use Rattle.std.specs.Prelude.{◌≡◌, ◌↔◌, ◌⊎◌, ℕ, ◌-◌, ◌<◌, ◌^◌, List, [], length, map, All, AllPairs, Contains}
use Rattle.git_base.specs.declared.status.Status.{Status}
use Rattle.git_base.specs.declared.status.Status.TheVariants.{Steps, Degree}
use Rattle.git_defs.specs.Faces.{IsConeFace}
use Rattle.git_ideals.specs.Faces.{IsAFace}
use Rattle.git_input.specs.Inputs.{InputValue}
use Rattle.git_basis.specs.Run.{State, first_state}
use Rattle.git_basis.specs.Stops.{StopsBySteps, StopsByDegree}
use Rattle.git_basis.specs.declared.step.Step.{Step}
use Rattle.git_saturate.specs.Starts.{start_of}
use Rattle.git_saturate.specs.Verdicts.{IsCertificate, IsFree}
use Rattle.git_facecert.specs.declared.certificate.FaceVerdict.{FaceVerdict}
use Rattle.git_certtext.specs.CertificateText.{block_text, certificates_text}
use Rattle.git_replies.specs.Cases.{Tail, nothing, block, certificates}

-- a full face of the input
abbrev pub IsFullFace : InputValue → ℕ → Type 0
IsFullFace v mask = IsConeFace v.degrees.k v.degrees.columns (λ m. Unit {0}) mask

-- the face of all variables
abbrev pub whole_face : InputValue → ℕ
whole_face v = 2 ^ length v.degrees.columns - 1

-- the state that the face's run begins with
abbrev pub start_at : InputValue → ℕ → State
start_at v mask = first_state (start_of v.generators mask)

-- with so many steps the run of the face stops, by its steps or by a degree
abbrev pub StopsWith : InputValue → ℕ → ℕ → Status → Type 0
StopsWith v limit mask s =
    ((s ≡ Steps) × ((made : List Step) × StopsBySteps (start_at v mask) limit made))
    ⊎ ((s ≡ Degree) × ((made : List Step) × (step : Step) × StopsByDegree (start_at v mask) limit made step))

-- a full face whose run stops
abbrev pub StopsAt : InputValue → ℕ → ℕ → Type 0
StopsAt v limit mask = IsFullFace v mask × ((s : Status) × StopsWith v limit mask s)

-- an accepted certificate of the face, free exactly where it is an a-face
pub record IsVerdict (v : InputValue) (f : FaceVerdict) : Type 0 where
  pub accepted : IsCertificate v.generators f.mask f.cert
  pub free : IsFree f.cert ↔ IsAFace v.generators f.mask

-- one certificate for each full face, masks descending
pub record AreVerdicts (v : InputValue) (list : List FaceVerdict) : Type 0 where
  pub descending : AllPairs (λ (m n : ℕ). n < m) (map (λ (f : FaceVerdict). f.mask) list)
  pub full : (mask : ℕ) → Contains (map (λ (f : FaceVerdict). f.mask) list) mask ↔ IsFullFace v mask
  pub each : All (IsVerdict v) list

-- the certificates that are to follow
abbrev pub IsTail : InputValue → Tail → List ℕ → Type 0
IsTail v nothing text = text ≡ []
IsTail v (block mask) text = (f : FaceVerdict) × (f.mask ≡ mask) × IsVerdict v f × (text ≡ block_text f)
IsTail v certificates text = (list : List FaceVerdict) × AreVerdicts v list × (text ≡ certificates_text list)
