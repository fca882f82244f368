-- When cones cover.
use Rattle.std.specs.Prelude.{◌≡◌, ℕ, List, pos, Contains}
use Rattle.git_defs.specs.Vectors.{Vector, dot}
use Rattle.git_defs.specs.Cones.{InCone, Cut}
use Rattle.git_cone_faces.specs.Faces.{OnFace}
use Rattle.git_cone_faces.specs.Families.{Cone}
use Rattle.git_cover.specs.Families.{AllAreMatched, AreFullWithin, IsBoundary, IsCovered}

-- full cones of which there is one, and whose facets all lie on the boundary or are matched, cover the cone of the walls
abbrev pub MatchedConesCover : Type 0
MatchedConesCover = (k : ℕ) (walls : List Vector) (cones : List Cone) (C : Cone) (w : Vector) → AreFullWithin k walls cones → Contains cones C
    → AllAreMatched k walls cones → Cut k walls w → IsCovered k cones w

-- a wall that is 0 in the middle of a facet is 0 on the whole of it
abbrev pub BoundaryHoldsTheFacet : Type 0
BoundaryHoldsTheFacet = (k : ℕ) (walls : List Vector) (cones : List Cone) (C : Cone) (n : Vector) → AreFullWithin k walls cones → Contains cones C
    → Contains C.facets n → (b : IsBoundary k walls C n) → (x : Vector) → OnFace (InCone k C.rays) n x → dot b.wall x ≡ pos 0
