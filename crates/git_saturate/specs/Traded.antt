-- Cofactors of 1 as cofactors of a power of the face's product: y becomes 1 / e, and a power of e clears the denominators.
use Rattle.std.specs.Prelude.{ℕ, max, List, [], ◌∷◌, Option, Some, None}
use Rattle.git_algebra.specs.Exponents.{Exponents}
use Rattle.git_algebra.specs.Sums.{Sum}
use Rattle.git_algebra.specs.Polynomials.{Polynomial, normal}
use Rattle.git_algebra.specs.Operations.{zero_polynomial, restricted, lead_of}
use Rattle.git_ideals.specs.Extra.{extra, traded, mapped}

abbrev pub traded_polynomial : Exponents → ℕ → Polynomial → Polynomial
traded_polynomial e n p = normal (mapped (traded e n) p.terms)

-- the greatest exponent of the extra variable
abbrev pub greatest_extra : Sum → ℕ
greatest_extra [] = 0
greatest_extra (t ∷ p) = max (extra t.0) (greatest_extra p)

abbrev pub greatest_extra_of : List Polynomial → ℕ
greatest_extra_of [] = 0
greatest_extra_of (p ∷ ps) = max (greatest_extra p.terms) (greatest_extra_of ps)

-- one cofactor for each generator: 0 for those that are 0 on the face, and the next one for the others
abbrev pub spread_here : Option (Exponents × ℕ) → List Polynomial → (List Polynomial → List Polynomial) → List Polynomial
spread_here None cs more = zero_polynomial ∷ more cs
spread_here (Some t) [] more = zero_polynomial ∷ more []
spread_here (Some t) (c ∷ cs) more = c ∷ more cs

abbrev pub spread : ℕ → List Polynomial → List Polynomial → List Polynomial
spread mask [] cs = []
spread mask (f ∷ fs) cs = spread_here (lead_of (restricted mask f)) cs (spread mask fs)
