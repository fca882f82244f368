-- The cones of a listing.
use Rattle.std.specs.Prelude.{ℕ, ◌≤◌, List, [], map, get_or, All}
use Rattle.git_defs.specs.Vectors.{Vector}
use Rattle.git_stages.specs.Short.{IsShort}
use Rattle.git_cone_faces.specs.Faces.{IsFullCone}
use Rattle.git_cone_faces.specs.Families.{Cone}
use Rattle.git_listing.specs.Listings.{Chamber, Listing, normals_of}
use Rattle.git_listing.specs.declared.listing.ListedFacet.{ListedFacet}
use Rattle.git_allcones.specs.declared.cones.ListedCone.{ListedCone}

abbrev pub normal_of : ListedFacet → Vector
normal_of f = f.normal

abbrev pub cone_of : ListedCone → Cone
cone_of c = record { rays = c.rays.items; facets = c.facets.items }

abbrev pub cone_of_chamber : Chamber → Cone
cone_of_chamber c = record { rays = c.rays; facets = normals_of c }

abbrev pub cones_of : Listing → List Cone
cones_of l = map cone_of_chamber l.chambers

-- the cone at this place, from 0
abbrev pub cone_at : List Cone → ℕ → Cone
cone_at cones i = get_or cones i (record { rays = []; facets = [] })

-- a full cone with small entries
pub record IsShortCone (k : ℕ) (C : Cone) : Type 0 where
  pub full : IsFullCone k C.rays C.facets
  pub rays_short : All (IsShort k) C.rays
  pub facets_short : All (IsShort k) C.facets

-- full cones of one to six dimensions with small entries
pub record AreShortCones (k : ℕ) (cones : List Cone) : Type 0 where
  pub some : 1 ≤ k
  pub six : k ≤ 6
  pub each : All (IsShortCone k) cones
