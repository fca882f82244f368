-- The text of certificates: lines of words with one space between each two, and a line feed after each line.
use Rattle.std.specs.Prelude.{ℕ, List, [], ◌∷◌, ◌++◌, length, codes}
use Rattle.std.specs.List.{flat_map}
use Rattle.std.specs.Fmt.{decimal}
use Rattle.git_algebra.specs.Polynomials.{Polynomial}
use Rattle.git_facecert.specs.declared.certificate.FaceCert.{FaceCert}
use Rattle.git_facecert.specs.declared.certificate.FaceCert.TheVariants.{Monomial, Free}
use Rattle.git_facecert.specs.declared.certificate.FaceVerdict.{FaceVerdict}
use Rattle.git_lines.specs.Printing.{line_text, number_line}
use Rattle.git_polytext.specs.Printing.{polynomial_text}

-- a line of a letter and a polynomial
abbrev pub polynomial_line : List ℕ → Polynomial → List ℕ
polynomial_line letter p = line_text (letter ∷ polynomial_text p ∷ [])

-- the block of a face: what its certificate is, and a line for each member or cofactor
abbrev pub cert_text : ℕ → FaceCert → List ℕ
cert_text mask (Free basis) =
    line_text (codes "face" ∷ decimal mask ∷ codes "free" ∷ decimal (length basis.items) ∷ []) ++ flat_map (polynomial_line (codes "g")) basis.items
cert_text mask (Monomial power cofactors) =
    line_text (codes "face" ∷ decimal mask ∷ codes "monomial" ∷ decimal power ∷ decimal (length cofactors.items) ∷ []) ++ flat_map (polynomial_line (codes "h")) cofactors.items

abbrev pub block_text : FaceVerdict → List ℕ
block_text v = cert_text v.mask v.cert

-- the number of blocks, the blocks, and the last line
abbrev pub certificates_text : List FaceVerdict → List ℕ
certificates_text vs =
    line_text (codes "gitfan-certs" ∷ codes "1" ∷ []) ++ number_line (codes "faces") (length vs) ++ flat_map block_text vs ++ line_text (codes "end" ∷ [])
