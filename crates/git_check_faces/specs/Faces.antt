-- What is asked of the certificates of an input, whoever wrote them, by reason and line.
use Rattle.std.specs.Prelude.{◌≡◌, ℕ, ◌+◌, ◌≤◌, List, length, map, sum, take, Some, slice_get}
use Rattle.git_algebra.specs.Polynomials.{Polynomial}
use Rattle.git_input.specs.Inputs.{InputValue}
use Rattle.git_facecert.specs.Certificates.{IsAcceptedFree, IsAcceptedMonomial}
use Rattle.git_certtext.specs.Blocks.{Block, Cert, free, monomial}
use Rattle.git_faces.specs.FullFaces.{AreFullFaces}
use Rattle.git_answers.specs.Verdicts.{whole_face}
use Rattle.git_asked.specs.declared.finding.Reason.{Reason}
use Rattle.git_asked.specs.declared.finding.Reason.TheVariants.{VerdictMissing, CertRefused, Monomial}
use Rattle.git_check_chambers.specs.Families.{AtLines, OfEach}

-- ---- certificates, by what they say
abbrev pub IsAccepted : List Polynomial → ℕ → Cert → Type 0
IsAccepted generators mask (monomial power cofactors) = IsAcceptedMonomial generators mask power cofactors
IsAccepted generators mask (free members) = IsAcceptedFree generators mask members

abbrev pub IsFreeCert : Cert → Type 0
IsFreeCert (monomial power cofactors) = ⊥
IsFreeCert (free members) = Unit {0}

-- ---- lines
-- the first line of a certificate, and one for each polynomial
abbrev pub lines_of : Cert → ℕ
lines_of (monomial power cofactors) = 1 + length cofactors
lines_of (free members) = 1 + length members

abbrev pub lines_in : Block → ℕ
lines_in b = lines_of b.cert

-- the line of the certificate at place i, or of the end; two lines stand before the certificates
abbrev pub face_line : List Block → ℕ → ℕ
face_line bs i = 3 + sum (map lines_in (take i bs))

module _ (v : InputValue) where
  -- ---- of a certificate
  -- it is that of the full face at its place, masks descending
  abbrev pub AsksPlace : ℕ → Block → Type 0
  AsksPlace i b = (masks : List ℕ) → AreFullFaces v.degrees.k v.degrees.columns masks → slice_get masks i ≡ Some b.mask

  -- it is accepted, and that of the whole face is free
  abbrev pub AsksOfFace : ℕ → Block → Reason → Type 0
  AsksOfFace i b VerdictMissing = AsksPlace i b
  AsksOfFace i b CertRefused = IsAccepted v.generators b.mask b.cert
  AsksOfFace i b Monomial = b.mask ≡ whole_face v → IsFreeCert b.cert
  AsksOfFace i b reason = Unit {0}

  -- ---- of the end: no full face is left
  abbrev pub AsksEnd : List Block → Reason → Type 0
  AsksEnd bs VerdictMissing = (masks : List ℕ) → AreFullFaces v.degrees.k v.degrees.columns masks → length masks ≤ length bs
  AsksEnd bs reason = Unit {0}

  -- ---- of all
  abbrev pub FaceAt : List Block → ℕ → Block → Reason → ℕ → Type 0
  FaceAt bs i b = AtLines (λ r. face_line bs i) (AsksOfFace i b)

  abbrev pub AsksFaces : List Block → Reason → ℕ → Type 0
  AsksFaces bs reason line = OfEach (FaceAt bs) bs reason line × AtLines (λ r. face_line bs (length bs)) (AsksEnd bs) reason line
