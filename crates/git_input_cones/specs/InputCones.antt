-- The masks of free verdicts, and the first wide face of an input.
use Rattle.std.specs.Prelude.{◌≡◌, ℕ, ◌≤◌, List, [], ◌∷◌}
use Rattle.git_stages.specs.declared.wide.WideAt.{WideAt}
use Rattle.git_input.specs.Inputs.{InputValue}
use Rattle.git_facecert.specs.declared.certificate.FaceCert.{FaceCert}
use Rattle.git_facecert.specs.declared.certificate.FaceCert.TheVariants.{Monomial, Free}
use Rattle.git_facecert.specs.declared.certificate.FaceVerdict.{FaceVerdict}
use Rattle.git_orbit.specs.declared.orbit.ConesFault.{ConesFault}
use Rattle.git_orbit.specs.declared.orbit.ConesFault.TheVariants.{Wide, NoMemory}
use Rattle.git_replies.specs.Cases.{IsFirst}
use Rattle.git_answers.specs.Fan.{IsWideFace}

-- the mask where the certificate is free, before the others
abbrev pub with_free : ℕ → FaceCert → List ℕ → List ℕ
with_free mask (Monomial power cofactors) masks = masks
with_free mask (Free members) masks = mask ∷ masks

abbrev pub free_masks_of : List FaceVerdict → List ℕ
free_masks_of [] = []
free_masks_of (f ∷ fs) = with_free f.mask f.cert (free_masks_of fs)

-- the masks of the free verdicts, in their order
abbrev pub AreFreeMasks : List FaceVerdict → List ℕ → Type 0
AreFreeMasks faces masks = masks ≡ free_masks_of faces

-- it is the least of the masks that are the least with their cones and wide
abbrev pub IsWideFault : InputValue → ConesFault → Type 0
IsWideFault v (Wide mask at) = IsFirst (λ a b. a ≤ b) (λ m. (w : WideAt) × IsWideFace v m w) mask × IsWideFace v mask at
IsWideFault v NoMemory = Unit {0}
