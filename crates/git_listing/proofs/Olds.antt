-- A listing without its marks has none.
use Rattle.std.proofs.Common.{◌∷◌, [], List, All, map, inl, refl}
use Rattle.std.proofs.lemmas.List.Elements.{All-cons, All-nil}
use Rattle.git_listing.specs.Listings.{Chamber, Facet, FitsVersion, IsUnmarked, IsUnmatched, Listing, Side, boundary, inner, old_chamber, old_facet, old_of, old_side}

unmatched : (s : Side) → IsUnmatched (old_side s)
unmatched boundary = tt
unmatched (inner number matched) = refl

all_unmatched : (fs : List Facet) → All (λ (f : Facet). IsUnmatched f.side) (map old_facet fs)
all_unmatched [] = All-nil (λ (f : Facet). IsUnmatched f.side)
all_unmatched (f ∷ fs) = All-cons (λ (g : Facet). IsUnmatched g.side) (old_facet f) (map old_facet fs) (unmatched f.side) (all_unmatched fs)

all_unmarked : (cs : List Chamber) → All IsUnmarked (map old_chamber cs)
all_unmarked [] = All-nil IsUnmarked
all_unmarked (c ∷ cs) = All-cons IsUnmarked (old_chamber c) (map old_chamber cs) (record { crossed = refl; sides = all_unmatched c.facets }) (all_unmarked cs)

pub old_fits : (l : Listing) → FitsVersion (old_of l)
old_fits l = inl (refl, all_unmarked l.chambers)
