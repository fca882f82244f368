-- Where a weight lies: outside of the weight cone, or in cones and in listed chambers.
use Rattle.std.specs.Prelude.{ℕ, List}
use Rattle.git_defs.specs.Vectors.{Vector}

-- the numbers of the cones that hold it, the extreme vectors of what these cones have in common, how many of those are independent, and
-- the numbers of the listed chambers that hold it
pub record Position : Type 0 where
  pub cones : List ℕ
  pub rays : List Vector
  pub dimension : ℕ
  pub chambers : List ℕ

-- a facet of the weight cone that is negative there, or a position
pub data Place : Type 0 where
  outside : Vector → Place
  inside : Position → Place

-- a weight and where it lies
pub record Placed : Type 0 where
  pub weight : Vector
  pub place : Place
