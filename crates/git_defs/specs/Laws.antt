-- What the definitions have to mean, as the laws of this crate say it.
use Rattle.std.specs.Prelude.{ℕ, List, [], ◌∷◌, ℤ, pos, ◌≤ℤ◌, ◌↔◌, Contains}
use Rattle.git_lemmas.specs.Members.{Member}
use Rattle.git_defs.specs.Vectors.{Vector, AllOfLength, scale, plus, units}
use Rattle.git_defs.specs.Cones.{InCone, Cut, Dual, SameSet, AreRays}

-- the members of a list of vectors by recursion are those by place
abbrev pub MembersAreContained : Type 0
MembersAreContained = (x : Vector) (vs : List Vector) → Member x vs ↔ Contains vs x

-- a cone holds the sum of two of its vectors
abbrev pub ConesHoldSums : Type 0
ConesHoldSums = (k : ℕ) (vs : List Vector) (x y : Vector) → AllOfLength k vs → InCone k vs x → InCone k vs y → InCone k vs (plus x y)

-- a cone holds each multiple, by a number that is not negative, of each of its vectors
abbrev pub ConesHoldMultiples : Type 0
ConesHoldMultiples = (k : ℕ) (vs : List Vector) (c : ℤ) (x : Vector) → AllOfLength k vs → pos 0 ≤ℤ c → InCone k vs x → InCone k vs (scale c x)

-- a cone holds each of its generators
abbrev pub ConesHoldGenerators : Type 0
ConesHoldGenerators = (k : ℕ) (vs : List Vector) (x : Vector) → AllOfLength k vs → Contains vs x → InCone k vs x

-- what inequalities cut out is the dual of the cone that they generate
abbrev pub CutIsDual : Type 0
CutIsDual = (k : ℕ) (ns : List Vector) → AllOfLength k ns → SameSet (Cut k ns) (Dual k (InCone k ns))

-- the rays of the quadrant are its two unit vectors
abbrev pub QuadrantHasUnitRays : Type 0
QuadrantHasUnitRays = AreRays 2 (InCone 2 (units 2)) ((pos 0 ∷ pos 1 ∷ []) ∷ (pos 1 ∷ pos 0 ∷ []) ∷ [])
