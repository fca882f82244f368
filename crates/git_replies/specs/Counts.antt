-- The line of a listing's counts.
use Rattle.std.specs.Prelude.{ℕ, Bool, true, false, List, [], ◌∷◌, length, codes}
use Rattle.std.specs.List.{sum_by, count_by}
use Rattle.std.specs.Fmt.{decimal}
use Rattle.git_lines.specs.Printing.{line_text}
use Rattle.git_listing.specs.Listings.{Side, boundary, inner, Chamber, Listing}

-- the sides that are inner walls, and those on the boundary
abbrev pub is_inner : Side → Bool
is_inner boundary = false
is_inner (inner number matched) = true

abbrev pub is_boundary : Side → Bool
is_boundary boundary = true
is_boundary (inner number matched) = false

-- how many facets of all chambers have such a side
abbrev pub facets_with : (Side → Bool) → List Chamber → ℕ
facets_with test chambers = sum_by (λ c. count_by (λ f. test f.side) c.facets) chambers

-- the line of so many cones, chambers, inner walls and facets on the boundary
abbrev pub tally_text : ℕ → ℕ → ℕ → ℕ → List ℕ
tally_text cones chambers within outer =
    line_text (codes "cones" ∷ decimal cones ∷ codes "chambers" ∷ decimal chambers ∷ codes "inner" ∷ decimal within ∷ codes "boundary" ∷ decimal outer ∷ [])

abbrev pub counts_text : Listing → List ℕ
counts_text l = tally_text l.cones (length l.chambers) (facets_with is_inner l.chambers) (facets_with is_boundary l.chambers)
