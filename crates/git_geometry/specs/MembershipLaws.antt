-- Which vectors a cone holds.
use Rattle.std.specs.Prelude.{ℕ, List, All}
use Rattle.git_defs.specs.Vectors.{Vector, AllOfLength}
use Rattle.git_defs.specs.Cones.{InCone, Cut, IsClosed}

-- sums, multiples by natural numbers and quotients stay in the cone
abbrev pub ConeIsClosed : Type 0
ConeIsClosed = (k : ℕ) (vs : List Vector) → AllOfLength k vs → IsClosed k (InCone k vs)

abbrev pub CutConeIsClosed : Type 0
CutConeIsClosed = (k : ℕ) (inequalities : List Vector) → IsClosed k (Cut k inequalities)

-- a closed set that holds the generators holds their cone
abbrev pub ClosedSetHoldsCone : (Vector → Type 0) → Type 0
ClosedSetHoldsCone D = (k : ℕ) (vs : List Vector) → IsClosed k D → All D vs → (x : Vector) → InCone k vs x → D x

-- where one cone holds the generators of another, it holds that cone
abbrev pub ConeLiesInCone : Type 0
ConeLiesInCone = (k : ℕ) (us vs : List Vector) → AllOfLength k vs → All (InCone k vs) us → (x : Vector) → InCone k us x → InCone k vs x
