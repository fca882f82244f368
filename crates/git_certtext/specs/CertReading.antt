-- Reading certificates from the first line on: a value and what is left, or the first fault.
use Rattle.std.specs.Prelude.{◌≡◌, ℕ, ◌-◌, ◌^◌, if◌then◌else◌, List, codes, pos, Result, Ok, Err, unsigned_abs}
use Rattle.std.specs.Str.{bytes_eq}
use Rattle.git_algebra.specs.Polynomials.{Polynomial}
use Rattle.git_facecert.specs.declared.certificate.TheConstants.{CERT_POWER, CERT_MEMBERS}
use Rattle.git_limits.specs.declared.TheConstants.{GENERATORS}
use Rattle.git_lines.specs.declared.fault.FormFault.{FormFault}
use Rattle.git_lines.specs.declared.fault.FormKind.{FormKind}
use Rattle.git_lines.specs.declared.fault.FormKind.TheVariants.{Syntax}
use Rattle.git_lines.specs.Fields.{RestOfFields, fields_in, next_field, word_field, integer_field, no_field}
use Rattle.git_lines.specs.Lines.{RestOfText, text_from}
use Rattle.git_lines.specs.Reading.{◌>>=◌, lift, times, fault_at, no_line}
use Rattle.git_strictlines.specs.Reading.{next_by, header_line, number_line, end_line}
use Rattle.git_strictpoly.specs.Strict.{strict_polynomial}
use Rattle.git_certtext.specs.declared.limits.TheConstants.{FACES}
use Rattle.git_certtext.specs.Blocks.{Cert, monomial, free, Block}

-- ---- lines of polynomials

abbrev pub at_line : ℕ → FormKind → FormFault
at_line line kind = record { line = line; column = 1; kind = kind }

-- the next field is a polynomial in T(1) to T(r) and y
unfoldable pub polynomial_field : ℕ → RestOfFields → Result (Polynomial × RestOfFields) FormFault
polynomial_field r rest = do
  f ← next_field rest
  p ← lift (at_line f.1.line) (strict_polynomial r f.0)
  Ok (p, f.1)

-- a letter and a polynomial
unfoldable pub polynomial_line : List ℕ → ℕ → ℕ → List ℕ → Result Polynomial FormFault
polynomial_line letter r line text = do
  a ← word_field letter (fields_in line text)
  p ← polynomial_field r a
  b ← no_field p.1
  Ok p.0

-- ---- the first line of a block

-- what it announces: so many members, or a power and so many cofactors
pub data Kind : Type 0 where
  members : ℕ → Kind
  cofactors : ℕ → ℕ → Kind

unfoldable pub members_fields : RestOfFields → Result (Kind × RestOfFields) FormFault
members_fields rest = do
  n ← integer_field (pos 1) (pos CERT_MEMBERS) rest
  Ok (members (unsigned_abs n.0), n.1)

unfoldable pub cofactors_fields : RestOfFields → Result (Kind × RestOfFields) FormFault
cofactors_fields rest = do
  n ← integer_field (pos 0) (pos CERT_POWER) rest
  m ← integer_field (pos 0) (pos GENERATORS) n.1
  Ok (cofactors (unsigned_abs n.0) (unsigned_abs m.0), m.1)

abbrev pub kind_by : List ℕ × RestOfFields → Result (Kind × RestOfFields) FormFault
kind_by f =
    if bytes_eq f.0 (codes "free") then members_fields f.1
    else (if bytes_eq f.0 (codes "monomial") then cofactors_fields f.1 else fault_at f.1.line 1 Syntax)

unfoldable pub kind_fields : RestOfFields → Result (Kind × RestOfFields) FormFault
kind_fields rest = do
  f ← next_field rest
  kind_by f

-- the mask of a face, at most the last one, and the kind of its certificate
unfoldable pub face_line : ℕ → ℕ → List ℕ → Result (ℕ × Kind) FormFault
face_line last line text = do
  a ← word_field (codes "face") (fields_in line text)
  mask ← integer_field (pos 1) (pos last) a
  kind ← kind_fields mask.1
  b ← no_field kind.1
  Ok (unsigned_abs mask.0, kind.0)

-- ---- blocks

abbrev pub polynomials_at : List ℕ → ℕ → ℕ → RestOfText → Result (List Polynomial × RestOfText) FormFault
polynomials_at letter r n text = times (next_by (polynomial_line letter r)) n text

unfoldable pub cert_at : ℕ → Kind → RestOfText → Result (Cert × RestOfText) FormFault
cert_at r (members n) text = do
  gs ← polynomials_at (codes "g") r n text
  Ok (free gs.0, gs.1)
cert_at r (cofactors power n) text = do
  hs ← polynomials_at (codes "h") r n text
  Ok (monomial power hs.0, hs.1)

unfoldable pub block_at : ℕ → ℕ → RestOfText → Result (Block × RestOfText) FormFault
block_at r last text = do
  face ← next_by (face_line last) text
  cert ← cert_at r face.0.1 face.1
  Ok (record { mask = face.0.0; cert = cert.0 }, cert.1)

-- ---- the whole

unfoldable pub certs_at : ℕ → ℕ → RestOfText → Result (List Block × RestOfText) FormFault
certs_at r last text = do
  version ← next_by (header_line (codes "gitfan-certs") 1) text
  count ← next_by (number_line (codes "faces") 0 FACES) version.1
  blocks ← times (block_at r last) count.0 count.1
  end ← next_by end_line blocks.1
  Ok (blocks.0, end.1)

-- no byte may follow
unfoldable pub certs_whole : ℕ → ℕ → RestOfText → Result (List Block) FormFault
certs_whole r last text = do
  blocks ← certs_at r last text
  nothing ← no_line blocks.1
  Ok blocks.0

-- the certificates of the bytes, with r variables
abbrev pub reading : ℕ → List ℕ → Result (List Block) FormFault
reading r bytes = certs_whole r (2 ^ r - 1) (text_from 1 0 bytes)

-- the first fault of the bytes: its line and its kind
abbrev pub IsFirstFault : ℕ → List ℕ → ℕ → FormKind → Type 0
IsFirstFault r bytes line kind = (column : ℕ) × (reading r bytes ≡ Err (record { line = line; column = column; kind = kind }))
