-- What holds of reading certificates.
use Rattle.std.specs.Prelude.{◌≡◌, ℕ, ◌≤◌, List, Ok}
use Rattle.git_facecert.specs.declared.certificate.FaceVerdict.{FaceVerdict}
use Rattle.git_limits.specs.declared.TheConstants.{COLUMNS}
use Rattle.git_certtext.specs.Blocks.{blocks_of, FitsCerts}
use Rattle.git_certtext.specs.CertificateText.{certificates_text}
use Rattle.git_certtext.specs.CertReading.{reading}

-- certificates within the limits that are printed are read back
abbrev pub PrintedCertificatesAreReadBack : Type 0
PrintedCertificatesAreReadBack = (r : ℕ) (vs : List FaceVerdict) → r ≤ COLUMNS → FitsCerts r (blocks_of vs) → reading r (certificates_text vs) ≡ Ok (blocks_of vs)

-- what is read as certificates is their text, and they are within the limits
abbrev pub CertificatesReadArePrinted : Type 0
CertificatesReadArePrinted = (r : ℕ) (bytes : List ℕ) (vs : List FaceVerdict) → r ≤ COLUMNS → reading r bytes ≡ Ok (blocks_of vs) → FitsCerts r (blocks_of vs) × (bytes ≡ certificates_text vs)
