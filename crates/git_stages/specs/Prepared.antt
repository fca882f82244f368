-- The prepared list of some inequalities: the primitive vectors along those that are not 0, each once, in order.
use Rattle.std.specs.Prelude.{◌≡◌, ◌↔◌, ℕ, ◌<◌, List, pos, AllPairs, Contains}
use Rattle.git_defs.specs.Vectors.{Vector, scale, IsPrimitive, Precedes}

-- a is a positive multiple of the vector x
pub record IsAlong (x a : Vector) : Type 0 where
  pub times : ℕ
  pub positive : 0 < times
  pub is : a ≡ scale (pos times) x

pub record IsPrepared (given list : List Vector) : Type 0 where
  pub sorted : AllPairs Precedes list
  pub primitive : (x : Vector) → Contains list x → IsPrimitive x
  pub from : (x : Vector) → Contains list x → (a : Vector) × Contains given a × IsAlong x a
  pub each : (x a : Vector) → Contains given a → IsPrimitive x → IsAlong x a → Contains list x

-- the same, in any order, and perhaps with repeats
pub record ArePrimitiveParts (given out : List Vector) : Type 0 where
  pub primitive : (x : Vector) → Contains out x → IsPrimitive x
  pub from : (x : Vector) → Contains out x → (a : Vector) × Contains given a × IsAlong x a
  pub each : (x a : Vector) → Contains given a → IsPrimitive x → IsAlong x a → Contains out x

-- the vectors of a list, each once, in order
pub record IsSortedSet (old new : List Vector) : Type 0 where
  pub sorted : AllPairs Precedes new
  pub each : (x : Vector) → Contains new x ↔ Contains old x
