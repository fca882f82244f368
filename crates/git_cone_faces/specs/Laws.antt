-- What holds of the faces of cones.
use Rattle.std.specs.Prelude.{◌≡◌, ◌↔◌, ℕ, List, [], ◌∷◌, ◌++◌, pos, negsuc, length, Contains}
use Rattle.git_defs.specs.Vectors.{Vector, dot, scale, vector_sum}
use Rattle.git_defs.specs.Cones.{InCone, Cut, Dual, SameSet, IsPointed, AreRays}
use Rattle.git_geometry.specs.Generators.{IsCutOut}
use Rattle.git_cone_faces.specs.Faces.{on_wall, OnFace, IsFace, AreRaysOfFace, InBoth, MeetInFaces, IsFullCone}
use Rattle.git_cone_faces.specs.Filters.{on_walls, AreOnFacets, one_pass}

-- the rays of a face are those of the cone that lie on it
abbrev pub FaceHasTheRaysOnIt : (Vector → Type 0) → Type 0
FaceHasTheRaysOnIt C = (k : ℕ) (rays : List Vector) (n : Vector) → ((x : Vector) → C x → length x ≡ k) → AreRays k C rays → Dual k C n
    → AreRays k (OnFace C n) (on_wall n rays)

-- and they generate it
abbrev pub FaceIsGenerated : (Vector → Type 0) → Type 0
FaceIsGenerated C = (k : ℕ) (rays : List Vector) (n : Vector) → IsCutOut k C → IsPointed k C → AreRays k C rays → Dual k C n
    → SameSet (OnFace C n) (InCone k (on_wall n rays))

-- so a face of one cone is a face of another exactly where they have the same rays
abbrev pub FacesAreKnownByTheirRays : (Vector → Type 0) → (Vector → Type 0) → Type 0
FacesAreKnownByTheirRays C D = (k : ℕ) (rays other_rays : List Vector) (m n : Vector) → IsCutOut k C → IsPointed k C → AreRays k C rays → Dual k C m
    → IsCutOut k D → IsPointed k D → AreRays k D other_rays → Dual k D n
    → (SameSet (OnFace C m) (OnFace D n) ↔ (on_wall m rays ≡ on_wall n other_rays))

-- a face is what the facets that vanish on it cut out: its rays are those on some of the facets
abbrev pub FacesAreCutOutByFacets : Type 0
FacesAreCutOutByFacets = (k : ℕ) (rays facets list : List Vector) → IsFullCone k rays facets
    → (AreRaysOfFace k (InCone k rays) list ↔ AreOnFacets facets rays list)

-- all facets together leave no ray
abbrev pub AllFacetsLeaveNoRay : Type 0
AllFacetsLeaveNoRay = (k : ℕ) (rays facets : List Vector) → IsFullCone k rays facets → on_walls facets rays ≡ []

-- one pass through the facets, from the list of all rays on, finds the rays of each face and no other list
abbrev pub OnePassFindsTheFaces : Type 0
OnePassFindsTheFaces = (k : ℕ) (rays facets list : List Vector) → IsFullCone k rays facets
    → (Contains (one_pass facets (rays ∷ [])) list ↔ AreRaysOfFace k (InCone k rays) list)

-- two cones meet in what the facets of both cut out
abbrev pub IntersectionIsCutOut : Type 0
IntersectionIsCutOut = (k : ℕ) (rays facets other_rays other_facets : List Vector) → IsFullCone k rays facets → IsFullCone k other_rays other_facets
    → SameSet (InBoth (InCone k rays) (InCone k other_rays)) (Cut k (facets ++ other_facets))

-- the ray is on each facet that is 0 at the sum of these vectors: on the least face around them
abbrev pub IsAround : ℕ → List Vector → List Vector → Vector → Type 0
IsAround k facets common ray = (m : Vector) → Contains facets m → dot m (vector_sum k common) ≡ pos 0 → dot m ray ≡ pos 0

-- their intersection is a face of the first exactly where it is the least face around it there: where the other holds that face's rays
abbrev pub IntersectionIsTheLeastFace : Type 0
IntersectionIsTheLeastFace = (k : ℕ) (rays facets other_rays other_facets common : List Vector) → IsFullCone k rays facets
    → IsFullCone k other_rays other_facets → AreRays k (InBoth (InCone k rays) (InCone k other_rays)) common
    → (IsFace k (InCone k rays) (InBoth (InCone k rays) (InCone k other_rays))
    ↔ ((r : Vector) → Contains rays r → IsAround k facets common r → InCone k other_rays r))

-- two cones on the two sides of a normal, with the same rays on it, meet in a face of both
abbrev pub SeparatedConesMeetInFaces : Type 0
SeparatedConesMeetInFaces = (k : ℕ) (rays facets other_rays other_facets : List Vector) (n : Vector) → IsFullCone k rays facets
    → IsFullCone k other_rays other_facets → Dual k (InCone k rays) n → Dual k (InCone k other_rays) (scale (negsuc 0) n)
    → on_wall n rays ≡ on_wall n other_rays → MeetInFaces k (InCone k rays) (InCone k other_rays)

-- so neighbours that share a wall whole meet in a face of both
abbrev pub NeighboursMeetInFaces : Type 0
NeighboursMeetInFaces = (k : ℕ) (rays facets other_rays other_facets : List Vector) (n : Vector) → IsFullCone k rays facets
    → IsFullCone k other_rays other_facets → Contains facets n → Contains other_facets (scale (negsuc 0) n)
    → on_wall n rays ≡ on_wall n other_rays → MeetInFaces k (InCone k rays) (InCone k other_rays)
