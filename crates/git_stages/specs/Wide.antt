-- When a list of inequalities is wide: the first stage that is, and its evidence.
use Rattle.std.specs.Prelude.{◌⊎◌, ℕ, ◌<◌, List, [], length, Contains, Option, Some, None}
use Rattle.git_defs.specs.Vectors.{Vector, Precedes}
use Rattle.git_ints.specs.Padded.{AreWithin}
use Rattle.git_limits.specs.declared.TheConstants.{ENTRY, MANY}
use Rattle.git_stages.specs.Eliminations.{IsSplit}
use Rattle.git_stages.specs.Prepared.{IsPrepared}
use Rattle.git_stages.specs.Stages.{IsStage}
use Rattle.git_stages.specs.declared.wide.WideWhat.{WideWhat}
use Rattle.git_stages.specs.declared.wide.WideWhat.TheVariants.{Entry, Many}

-- some entry is above 2^40 in absolute value
abbrev pub IsLarge : Vector → Type 0
IsLarge v = AreWithin ENTRY v → ⊥

-- some vector is large, or there are more than 65,536 after the elimination
abbrev pub IsWideStage : ℕ → ℕ → List Vector → Type 0
IsWideStage k j vs = ((v : Vector) × Contains vs v × IsLarge v) ⊎ ((k < j) × (MANY < length vs))

-- the least of the large vectors
pub record IsLeastLarge (vs : List Vector) (v : Vector) : Type 0 where
  pub member : Contains vs v
  pub large : IsLarge v
  pub least : (u : Vector) → Contains vs u → IsLarge u → Precedes u v → ⊥

-- the least large vector, if there is one
abbrev pub IsLeastOf : List Vector → Option Vector → Type 0
IsLeastOf vs None = (v : Vector) → Contains vs v → IsLarge v → ⊥
IsLeastOf vs (Some v) = IsLeastLarge vs v

-- the evidence: the least large vector, or `Many` where none is large
abbrev pub IsWhat : List Vector → WideWhat → Type 0
IsWhat vs (Entry v) = IsLeastLarge vs v
IsWhat vs Many = (v : Vector) → Contains vs v → IsLarge v → ⊥

-- stage j is the first that is wide, and has these vectors
pub record IsFirstWide (k : ℕ) (given : List Vector) (j : ℕ) (vs : List Vector) : Type 0 where
  pub prepared : List Vector
  pub is_prepared : IsPrepared given prepared
  pub base : List Vector
  pub rest : List Vector
  pub split : IsSplit k [] prepared base rest
  pub stage : IsStage k base rest j vs
  pub wide : IsWideStage k j vs
  pub first : (i : ℕ) (us : List Vector) → i < j → IsStage k base rest i us → IsWideStage k i us → ⊥

-- the list is wide, first at this stage, with this evidence
pub record IsWideAt (k : ℕ) (given : List Vector) (stage : ℕ) (what : WideWhat) : Type 0 where
  pub vectors : List Vector
  pub first : IsFirstWide k given stage vectors
  pub evidence : IsWhat vectors what

-- no stage is wide
pub record NeverWide (k : ℕ) (given : List Vector) : Type 0 where
  pub prepared : List Vector
  pub is_prepared : IsPrepared given prepared
  pub base : List Vector
  pub rest : List Vector
  pub split : IsSplit k [] prepared base rest
  pub never : (i : ℕ) (us : List Vector) → IsStage k base rest i us → IsWideStage k i us → ⊥
