-- A stage that is wide.
use Rattle.std.specs.Prelude.{◌≡◌, ℕ, suc, List, take, drop}
use Rattle.git_defs.specs.Vectors.{Vector}
use Rattle.git_stages.specs.Narrow.{IsNarrowTo}
use Rattle.git_stages.specs.Prepared.{IsPrepared}
use Rattle.git_stages.specs.Stages.{IsStage}
use Rattle.git_stages.specs.Wide.{IsWideStage, IsWideAt, IsWhat}
use Rattle.git_stages.specs.declared.wide.WideWhat.{WideWhat}
use Rattle.git_elimination.specs.declared.fault.StageFault.{StageFault}
use Rattle.git_elimination.specs.declared.fault.StageFault.TheVariants.{Wide, NoMemory}

-- a later stage that is wide
pub record IsLateWide (k : ℕ) (ordered : List Vector) (stage : ℕ) (what : WideWhat) : Type 0 where
  pub list : List Vector
  pub before : ℕ
  pub is : stage ≡ suc before
  pub narrow : IsNarrowTo k (take k ordered) (drop k ordered) before
  pub at : IsStage k (take k ordered) (drop k ordered) stage list
  pub wide : IsWideStage k stage list
  pub evidence : IsWhat list what

abbrev pub IsLateStop : ℕ → List Vector → StageFault → Type 0
IsLateStop k ordered (Wide w) = IsLateWide k ordered w.stage w.what
IsLateStop k ordered NoMemory = Unit {0}

-- a wide list
abbrev pub IsWideFault : ℕ → List Vector → StageFault → Type 0
IsWideFault k given (Wide w) = IsWideAt k given w.stage w.what
IsWideFault k given NoMemory = Unit {0}
