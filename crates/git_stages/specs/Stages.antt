-- The stages of double description: the elimination of the first k independent inequalities, then the extreme vectors after each further one.
use Rattle.std.specs.Prelude.{◌≡◌, ◌⊎◌, ℕ, ◌+◌, ◌<◌, ◌≤◌, List, ◌++◌, length, take}
use Rattle.git_defs.specs.Vectors.{Vector}
use Rattle.git_defs.specs.Cones.{Cut, AreRays}
use Rattle.git_stages.specs.Eliminations.{AreEliminated}

-- the free vectors and the rays after j members of the base, j from 1 to k
pub record IsEarly (k : ℕ) (base : List Vector) (j : ℕ) (vs : List Vector) : Type 0 where
  pub some : 0 < j
  pub few : j ≤ k
  pub free : List Vector
  pub rays : List Vector
  pub lists : AreEliminated k base j free rays
  pub is : vs ≡ free ++ rays

-- the extreme vectors of what the base and some of the rest cut out
pub record IsLate (k : ℕ) (base rest : List Vector) (j : ℕ) (vs : List Vector) : Type 0 where
  pub more : ℕ
  pub some : 0 < more
  pub few : more ≤ length rest
  pub is : j ≡ k + more
  pub rays : AreRays k (Cut k (base ++ take more rest)) vs

-- the vectors of stage j
abbrev pub IsStage : ℕ → List Vector → List Vector → ℕ → List Vector → Type 0
IsStage k base rest j vs = IsEarly k base j vs ⊎ IsLate k base rest j vs
