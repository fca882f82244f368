-- Three cones that everybody knows, with their rays and facets.
use Rattle.std.specs.Prelude.{ℕ, List, [], ◌∷◌, pos, negsuc}
use Rattle.git_defs.specs.Vectors.{Vector, units}
use Rattle.git_defs.specs.Cones.{InCone, AreRays, AreFacets}

abbrev pub plane : ℕ → ℕ → Vector
plane x y = pos x ∷ pos y ∷ []

abbrev pub space : ℕ → ℕ → ℕ → Vector
space x y z = pos x ∷ pos y ∷ pos z ∷ []

-- (0, 1) and (1, 0), in order
abbrev pub plane_units : List Vector
plane_units = plane 0 1 ∷ plane 1 0 ∷ []

-- the same with (1, 1), which lies between them
abbrev pub units_and_inside : List Vector
units_and_inside = plane 0 1 ∷ plane 1 1 ∷ plane 1 0 ∷ []

-- the corners of a square, at height 1
abbrev pub square : List Vector
square = space 0 0 1 ∷ space 0 1 1 ∷ space 1 0 1 ∷ space 1 1 1 ∷ []

-- x and y are at most z and at least 0
abbrev pub square_sides : List Vector
square_sides = (negsuc 0 ∷ pos 0 ∷ pos 1 ∷ []) ∷ (pos 0 ∷ negsuc 0 ∷ pos 1 ∷ []) ∷ space 0 1 0 ∷ space 1 0 0 ∷ []

abbrev pub QuadrantHasUnitFacets : Type 0
QuadrantHasUnitFacets = AreFacets 2 (InCone 2 (units 2)) plane_units

abbrev pub InsideGeneratorIsNoRay : Type 0
InsideGeneratorIsNoRay = AreRays 2 (InCone 2 units_and_inside) plane_units

abbrev pub InsideGeneratorChangesNoFacet : Type 0
InsideGeneratorChangesNoFacet = AreFacets 2 (InCone 2 units_and_inside) plane_units

abbrev pub SquareHasItsCornersAsRays : Type 0
SquareHasItsCornersAsRays = AreRays 3 (InCone 3 square) square

abbrev pub SquareHasItsSidesAsFacets : Type 0
SquareHasItsSidesAsFacets = AreFacets 3 (InCone 3 square) square_sides
