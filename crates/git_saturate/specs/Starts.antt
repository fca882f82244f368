-- The start of a face's run.
use Rattle.std.specs.Prelude.{ℕ, List, [], ◌∷◌, ◌++◌, map, Option, Some, None}
use Rattle.git_algebra.specs.Exponents.{Exponents}
use Rattle.git_algebra.specs.Polynomials.{Polynomial}
use Rattle.git_algebra.specs.Operations.{lead_of, restricted}
use Rattle.git_ideals.specs.Ideals.{clearing}
use Rattle.git_ideals.specs.Faces.{face_monomial}

abbrev pub kept_by : Option (Exponents × ℕ) → Polynomial → List Polynomial → List Polynomial
kept_by None p ps = ps
kept_by (Some t) p ps = p ∷ ps

-- those other than 0
abbrev pub nonzero_part : List Polynomial → List Polynomial
nonzero_part [] = []
nonzero_part (p ∷ ps) = kept_by (lead_of p) p (nonzero_part ps)

-- the nonzero restricted generators, and the clearing polynomial 1 - y e, where e is the product of the face's variables
abbrev pub start_of : List Polynomial → ℕ → List Polynomial
start_of generators mask = nonzero_part (map (restricted mask) generators) ++ clearing (face_monomial mask) ∷ []
