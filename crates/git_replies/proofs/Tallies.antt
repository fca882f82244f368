-- The counts of a listing, by the values of the code.
use Rattle.std.proofs.Common.{◌≡◌, ◌∙◌, ℕ, ◌+◌, List, [], ◌∷◌, length, map, refl, sym, ap}
use Rattle.std.specs.Prelude.{Bool}
use mathlib.Core.Bool.{cond}
use Rattle.std.specs.List.{sum_by, count_by}
use Rattle.std.proofs.lemmas.List.{length-map}
use Rattle.std.proofs.lemmas.List.Sums.{sum_by-cons}
use Rattle.git_listing.specs.Listings.{Side, Facet, Chamber}
use Rattle.git_listing.specs.declared.listing.ListedFacet.{ListedFacet}
use Rattle.git_listing.specs.declared.listing.ListedChamber.{ListedChamber}
use Rattle.git_listing.specs.declared.listing.Listing as code
use Rattle.git_listing.specs.Views.{side_of, facet_of, chamber_of, listing_of}
use Rattle.git_replies.specs.Counts.{facets_with, is_boundary, is_inner, tally_text, counts_text}

-- a sum over what is mapped
sum_mapped : {X Y : Type 0} (f : Y → ℕ) (g : X → Y) (h : X → ℕ) → ((x : X) → f (g x) ≡ h x) → (xs : List X) → sum_by f (map g xs) ≡ sum_by h xs
sum_mapped f g h same [] = refl
sum_mapped f g h same (x ∷ xs) =
    sum_by-cons f (g x) (map g xs) ∙ ap (λ (n : ℕ). n + sum_by f (map g xs)) (same x) ∙ ap (λ (n : ℕ). h x + n) (sum_mapped f g h same xs) ∙ sym (sum_by-cons h x xs)

pub facets_counted : (test : Side → Bool) (cs : List ListedChamber) → facets_with test (map chamber_of cs) ≡ sum_by (λ c. count_by (λ f. test (side_of f.side)) c.facets.items) cs
facets_counted test cs =
    sum_mapped (λ c. count_by (λ f. test f.side) c.facets) chamber_of (λ c. count_by (λ f. test (side_of f.side)) c.facets.items)
    (λ c. sum_mapped (λ f. cond (test f.side) 1 0) facet_of (λ f. cond (test (side_of f.side)) 1 0) (λ f. refl) c.facets.items) cs

-- the line, from the numbers that the code counts
pub tallied : (l : code.Listing) (xs : List ListedChamber) (within outer : ℕ) → xs ≡ l.chambers.items → within ≡ sum_by (λ c. count_by (λ f. is_inner (side_of f.side)) c.facets.items) xs
    → outer ≡ sum_by (λ c. count_by (λ f. is_boundary (side_of f.side)) c.facets.items) xs → tally_text l.cones (length xs) within outer ≡ counts_text (listing_of l)
tallied l xs within outer same p q =
    let long : length xs ≡ length (map chamber_of l.chambers.items) = ap (λ (ys : List ListedChamber). length ys) same ∙ sym (length-map l.chambers.items chamber_of) in
    let i : within ≡ facets_with is_inner (map chamber_of l.chambers.items) = p ∙ ap (λ (ys : List ListedChamber). sum_by (λ c. count_by (λ f. is_inner (side_of f.side)) c.facets.items) ys) same ∙ sym (facets_counted is_inner l.chambers.items) in
    let o : outer ≡ facets_with is_boundary (map chamber_of l.chambers.items) = q ∙ ap (λ (ys : List ListedChamber). sum_by (λ c. count_by (λ f. is_boundary (side_of f.side)) c.facets.items) ys) same ∙ sym (facets_counted is_boundary l.chambers.items) in
    λ k. tally_text l.cones (long k) (i k) (o k)
