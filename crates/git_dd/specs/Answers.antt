-- What each answer of double description means.
use Rattle.std.specs.Prelude.{◌<◌, ℕ, List}
use Rattle.git_defs.specs.Vectors.{Vector, HasRank}
use Rattle.git_defs.specs.Cones.{Cut, AreRays}
use Rattle.git_stages.specs.Prepared.{IsPrepared}
use Rattle.git_stages.specs.Ranks.{IsRank}
use Rattle.git_stages.specs.Wide.{IsWideAt}
use Rattle.git_dd.specs.Tights.{AreAllTight}
use Rattle.git_dd.specs.declared.answers.DdFault.{DdFault}
use Rattle.git_dd.specs.declared.answers.DdFault.TheVariants.{NotPointed, Wide, NoMemory}

-- the extreme vectors of the cone that the inequalities cut out, and their tight sets over the prepared list
pub record AreRaysOf (k : ℕ) (given list : List Vector) (tight : List (List ℕ)) : Type 0 where
  pub rays : AreRays k (Cut k given) list
  pub prepared : List Vector
  pub is_prepared : IsPrepared given prepared
  pub tight_sets : AreAllTight prepared list tight

-- `NotPointed` with the rank, where it is less than k; else `Wide` with the first wide stage and its evidence
abbrev pub IsFaultOf : ℕ → List Vector → DdFault → Type 0
IsFaultOf k given (NotPointed rank) = IsRank k given rank × (rank < k)
IsFaultOf k given (Wide at) = HasRank k given × IsWideAt k given at.stage at.what
IsFaultOf k given NoMemory = Unit {0}
