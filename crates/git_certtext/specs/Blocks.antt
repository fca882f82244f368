-- What a text of certificates says: blocks, and their limits.
use Rattle.std.specs.Prelude.{ℕ, ◌<◌, ◌≤◌, ◌^◌, List, length, map}
use Rattle.std.specs.List.{AllByRecursion}
use Rattle.git_algebra.specs.Polynomials.{Polynomial}
use Rattle.git_facecert.specs.declared.certificate.FaceCert.{FaceCert}
use Rattle.git_facecert.specs.declared.certificate.FaceCert.TheVariants.{Monomial, Free}
use Rattle.git_facecert.specs.declared.certificate.FaceVerdict.{FaceVerdict}
use Rattle.git_facecert.specs.declared.certificate.TheConstants.{CERT_POWER, CERT_MEMBERS}
use Rattle.git_limits.specs.declared.TheConstants.{GENERATORS}
use Rattle.git_strictpoly.specs.Laws.{FitsPoly}
use Rattle.git_certtext.specs.declared.limits.TheConstants.{FACES}

-- what a certificate says: a power and its cofactors, or members
pub data Cert : Type 0 where
  monomial : ℕ → List Polynomial → Cert
  free : List Polynomial → Cert

-- the certificate of a face
pub record Block : Type 0 where
  pub mask : ℕ
  pub cert : Cert

abbrev pub cert_of : FaceCert → Cert
cert_of (Monomial power cofactors) = monomial power cofactors.items
cert_of (Free basis) = free basis.items

abbrev pub block_of : FaceVerdict → Block
block_of v = record { mask = v.mask; cert = cert_of v.cert }

abbrev pub blocks_of : List FaceVerdict → List Block
blocks_of vs = map block_of vs

-- ---- limits, with r variables

abbrev pub FitsCert : ℕ → Cert → Type 0
FitsCert r (free gs) = (1 ≤ length gs) × (length gs ≤ CERT_MEMBERS) × AllByRecursion (FitsPoly r) gs
FitsCert r (monomial power hs) = (power ≤ CERT_POWER) × (length hs ≤ GENERATORS) × AllByRecursion (FitsPoly r) hs

pub record FitsBlock (r : ℕ) (b : Block) : Type 0 where
  pub some : 1 ≤ b.mask
  pub within : b.mask < 2 ^ r
  pub cert : FitsCert r b.cert

pub record FitsCerts (r : ℕ) (bs : List Block) : Type 0 where
  pub few : length bs ≤ FACES
  pub each : AllByRecursion (FitsBlock r) bs
