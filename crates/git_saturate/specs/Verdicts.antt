-- What a verdict hands out.
use Rattle.std.specs.Prelude.{ℕ, ◌≤◌, List, length}
use Rattle.git_algebra.specs.Polynomials.{Polynomial}
use Rattle.git_facecert.specs.declared.certificate.FaceCert.{FaceCert}
use Rattle.git_facecert.specs.declared.certificate.FaceCert.TheVariants.{Monomial, Free}
use Rattle.git_facecert.specs.Certificates.{IsAcceptedMonomial, IsAcceptedFree}
use Rattle.git_facecert.specs.declared.certificate.TheConstants.{CERT_MEMBERS}
use Rattle.git_limits.specs.declared.TheConstants.{GENERATORS}

-- an accepted free certificate of 1 to 65,536 members
abbrev pub IsFreeGiven : List Polynomial → ℕ → List Polynomial → Type 0
IsFreeGiven generators mask members = IsAcceptedFree generators mask members × (1 ≤ length members) × (length members ≤ CERT_MEMBERS)

-- an accepted certificate, and one that fits a block of the certificates' text: at most 64 cofactors, or from 1 to 65,536 members
abbrev pub IsCertificate : List Polynomial → ℕ → FaceCert → Type 0
IsCertificate generators mask (Monomial exponent cofactors) = IsAcceptedMonomial generators mask exponent cofactors.items × (length cofactors.items ≤ GENERATORS)
IsCertificate generators mask (Free members) = IsFreeGiven generators mask members.items

-- the certificate is a free one
abbrev pub IsFree : FaceCert → Type 0
IsFree (Monomial exponent cofactors) = ⊥
IsFree (Free members) = Unit {0}
