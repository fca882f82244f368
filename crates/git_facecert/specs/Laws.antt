-- What the crate's laws say of certificates.
use Rattle.std.specs.Prelude.{ℕ, ◌≡◌, List}
use Rattle.git_algebra.specs.Polynomials.{Polynomial}
use Rattle.git_ideals.specs.Faces.{IsAFace}
use Rattle.git_facecert.specs.declared.certificate.FaceCert.{FaceCert}
use Rattle.git_facecert.specs.declared.certificate.Accepted.{Accepted}
use Rattle.git_facecert.specs.Certificates.{IsAcceptedMonomial, IsAcceptedFree}
use Rattle.git_facecert.specs.Answers.{IsAnswer}

-- an accepted monomial certificate shows that the face is no a-face
abbrev pub MonomialsRefute : Type 0
MonomialsRefute = (generators : List Polynomial) (mask exponent : ℕ) (cofactors : List Polynomial) → IsAcceptedMonomial generators mask exponent cofactors → IsAFace generators mask → ⊥

-- an accepted free certificate shows that the face is an a-face
abbrev pub FreeShow : Type 0
FreeShow = (generators : List Polynomial) (mask : ℕ) (members : List Polynomial) → IsAcceptedFree generators mask members → IsAFace generators mask

-- a certificate has one answer
abbrev pub OneAnswer : Type 0
OneAnswer = (generators : List Polynomial) (mask : ℕ) (certificate : FaceCert) (a b : Accepted) → IsAnswer generators mask certificate a → IsAnswer generators mask certificate b → a ≡ b

-- a certificate has an answer
abbrev pub SomeAnswer : Type 0
SomeAnswer = (generators : List Polynomial) (mask : ℕ) (certificate : FaceCert) → (a : Accepted) × IsAnswer generators mask certificate a
