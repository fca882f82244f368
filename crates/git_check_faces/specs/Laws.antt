-- What holds of all that is asked of certificates, as the laws of this crate say it.
use Rattle.std.specs.Prelude.{◌↔◌, ℕ, ◌<◌, List, map, All, AllPairs, Contains}
use Rattle.git_grading.specs.Gradings.{IsGrading}
use Rattle.git_ideals.specs.Faces.{IsAFace}
use Rattle.git_input.specs.Inputs.{InputValue}
use Rattle.git_facecert.specs.declared.certificate.FaceVerdict.{FaceVerdict}
use Rattle.git_certtext.specs.Blocks.{Block, blocks_of}
use Rattle.git_answers.specs.Verdicts.{AreVerdicts, IsFullFace, whole_face}
use Rattle.git_asked.specs.declared.finding.Reason.{Reason}
use Rattle.git_check_faces.specs.Faces.{AsksFaces, IsAccepted}

-- one accepted certificate for each full face, masks descending
pub record AreAccepted (v : InputValue) (bs : List Block) : Type 0 where
  pub descending : AllPairs (λ (m n : ℕ). n < m) (map (λ (b : Block). b.mask) bs)
  pub full : (mask : ℕ) → Contains (map (λ (b : Block). b.mask) bs) mask ↔ IsFullFace v mask
  pub each : All (λ (b : Block). IsAccepted v.generators b.mask b.cert) bs

-- all that is asked holds exactly of one accepted certificate for each full face, masks descending, where the whole face is an a-face
abbrev pub AllHoldsExactlyOfTheVerdicts : Type 0
AllHoldsExactlyOfTheVerdicts = (v : InputValue) (bs : List Block) → IsGrading v.degrees.k v.degrees.columns
    → (((reason : Reason) (line : ℕ) → AsksFaces v bs reason line) ↔ (AreAccepted v bs × IsAFace v.generators (whole_face v)))

-- the verdicts of the full faces are such certificates
abbrev pub VerdictsAreAccepted : Type 0
VerdictsAreAccepted = (v : InputValue) (vs : List FaceVerdict) → AreVerdicts v vs → AreAccepted v (blocks_of vs)
