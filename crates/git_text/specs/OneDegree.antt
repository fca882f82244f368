-- Whether the monomials of a polynomial have one degree.
use Rattle.std.specs.Prelude.{[], ◌∷◌, Bool, if◌then◌else◌, Option, Some, None}
use Rattle.std.specs.Option.{option_map}
use Rattle.std.specs.Cmp.Lexicographic.{pointwise}
use Rattle.std.specs.Ordering.{int_eq}
use Rattle.git_grading.specs.Gradings.{Degrees}
use Rattle.git_algebra.specs.Exponents.{Exponents}
use Rattle.git_algebra.specs.Sums.{Sum}
use Rattle.git_poly.specs.Degrees.{degree_under}

abbrev pub same_degree : Degrees → Exponents → Exponents → Bool
same_degree d a b = pointwise int_eq (degree_under d.k d.columns a) (degree_under d.k d.columns b)

-- the first monomial of another degree
abbrev pub first_apart : Degrees → Exponents → Sum → Option Exponents
first_apart d a [] = None
first_apart d a (t ∷ ts) = if same_degree d a t.0 then first_apart d a ts else Some t.0

-- of terms in descending order, the lead's monomial and the greatest of another degree
abbrev pub apart : Degrees → Sum → Option (Exponents × Exponents)
apart d [] = None
apart d (t ∷ ts) = option_map (λ m. (t.0, m)) (first_apart d t.0 ts)
