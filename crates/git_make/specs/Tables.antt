-- Relations by the places of their variables.
use Rattle.std.specs.Prelude.{ℕ, ◌<◌, List, slice_index, All}
use Rattle.git_algebra.specs.Exponents.{Exponents, times, variable_power}
use Rattle.git_algebra.specs.Polynomials.{Polynomial}
use Rattle.git_make.specs.Samples.{three_terms}

abbrev pub product_at : ℕ → ℕ → Exponents
product_at i j = times (variable_power i 1) (variable_power j 1)

-- the product of the variables at the first two places, less that of the next two, and that of the last two
abbrev pub relation_at : List ℕ → Polynomial
relation_at places =
    three_terms (product_at (slice_index places 0) (slice_index places 1)) (product_at (slice_index places 2) (slice_index places 3)) (product_at (slice_index places 4) (slice_index places 5))

-- all places are those of variables
abbrev pub AreShort : List (List ℕ) → Type 0
AreShort table = All (λ places. (i : ℕ) → slice_index places i < 17) table
