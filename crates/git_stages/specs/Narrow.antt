-- Stages that are not wide.
use Rattle.std.specs.Prelude.{ℕ, ◌<◌, ◌≤◌, List}
use Rattle.git_defs.specs.Vectors.{Vector}
use Rattle.git_stages.specs.Stages.{IsStage}
use Rattle.git_stages.specs.Wide.{IsWideStage}

-- stage i has some list, and it isn't wide
pub record IsNarrowAt (k : ℕ) (base rest : List Vector) (i : ℕ) : Type 0 where
  pub list : List Vector
  pub stage : IsStage k base rest i list
  pub narrow : IsWideStage k i list → ⊥

-- none of the first n stages is wide
abbrev pub IsNarrowTo : ℕ → List Vector → List Vector → ℕ → Type 0
IsNarrowTo k base rest n = (i : ℕ) → 0 < i → i ≤ n → IsNarrowAt k base rest i
