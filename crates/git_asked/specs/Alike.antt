-- Lists of chambers that differ in marks of facets alone.
use Rattle.std.specs.Prelude.{◌≡◌, ℕ, List, Some, slice_get}
use Rattle.git_listing.specs.Listings.{Side, boundary, inner, Facet, Chamber, normals_of}

abbrev pub AreLikeSides : Side → Side → Type 0
AreLikeSides boundary boundary = Unit {0}
AreLikeSides boundary (inner n b) = ⊥
AreLikeSides (inner m a) boundary = ⊥
AreLikeSides (inner m a) (inner n b) = m ≡ n

pub record AreLikeFacets (f g : Facet) : Type 0 where
  pub normal : f.normal ≡ g.normal
  pub side : AreLikeSides f.side g.side

-- the chamber with other facets
abbrev pub with_facets : Chamber → List Facet → Chamber
with_facets c fs = record { rays = c.rays; weight = c.weight; crossed = c.crossed; facets = fs }

pub record AreLike (c d : Chamber) : Type 0 where
  pub is : d ≡ with_facets c d.facets
  pub normals : normals_of c ≡ normals_of d
  pub to : (j : ℕ) (f : Facet) → slice_get c.facets j ≡ Some f → (g : Facet) × (slice_get d.facets j ≡ Some g) × AreLikeFacets f g
  pub from : (j : ℕ) (g : Facet) → slice_get d.facets j ≡ Some g → (f : Facet) × (slice_get c.facets j ≡ Some f) × AreLikeFacets f g

pub record AreAlike (cs ds : List Chamber) : Type 0 where
  pub to : (i : ℕ) (c : Chamber) → slice_get cs i ≡ Some c → (d : Chamber) × (slice_get ds i ≡ Some d) × AreLike c d
  pub from : (i : ℕ) (d : Chamber) → slice_get ds i ≡ Some d → (c : Chamber) × (slice_get cs i ≡ Some c) × AreLike c d
