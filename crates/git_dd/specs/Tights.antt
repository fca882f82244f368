-- The inequalities at which a vector is 0.
use Rattle.std.specs.Prelude.{◌≡◌, ◌↔◌, ◌<◌, ℕ, List, [], length, get_or, pos, AllPairs, Contains}
use Rattle.git_defs.specs.Vectors.{Vector, dot}

-- the places in the prepared list of the inequalities at which x is 0, ascending
pub record AreTight (prepared : List Vector) (x : Vector) (places : List ℕ) : Type 0 where
  pub ascending : AllPairs (λ m n. m < n) places
  pub each : (i : ℕ) → Contains places i ↔ ((i < length prepared) × (dot (get_or prepared i []) x ≡ pos 0))

-- for each vector of a list
pub record AreAllTight (prepared list : List Vector) (tight : List (List ℕ)) : Type 0 where
  pub one_each : length tight ≡ length list
  pub exact : (i : ℕ) → i < length list → AreTight prepared (get_or list i []) (get_or tight i [])
