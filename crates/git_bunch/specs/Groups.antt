-- The full a-faces of a family by the numbers of their cones.
use Rattle.std.specs.Prelude.{◌≡◌, ◌↔◌, ℕ, ◌<◌, List, length, get_or, Contains}
use Rattle.git_defs.specs.Vectors.{Vector}
use Rattle.git_defs.specs.Cones.{Cut, SameSet}
use Rattle.git_defs.specs.Faces.{face_cone}
use Rattle.git_machine.specs.Signatures.{Signature, Has}
use Rattle.git_orbit.specs.Signatures.{facets_at}
use Rattle.git_bunch.specs.declared.groups.Group.{Group}
use Rattle.git_bunch.specs.Least.{Covers}
use Rattle.git_bunch.specs.Stable.{Family}

-- the faces of which the columns generate the cone with these facets; some of them, with one of those within each
pub record IsGroupOf (k : ℕ) (columns : List Vector) (free : List ℕ) (facets : List Vector) (g : Group) : Type 0 where
  pub all : (m : ℕ) → Contains g.all.items m ↔ (Contains free m × SameSet (Cut k facets) (face_cone k columns m))
  pub least : (m : ℕ) → Contains g.least.items m → Contains g.all.items m
  pub covers : Covers g.all.items g.least.items

-- a group for each cone
pub record AreGroups (F : Family) (groups : List Group) : Type 0 where
  pub long : length groups ≡ length F.fan.list
  pub each : (i : ℕ) (g : Group) → i < length groups → g ≡ get_or groups i g → IsGroupOf F.fan.k F.columns F.free (facets_at F.fan i) g

-- the number is in the first set and in neither of the others
pub record IsOnly (on one two : Signature) (n : ℕ) : Type 0 where
  pub has : Has on n
  pub not_one : Has one n → ⊥
  pub not_two : Has two n → ⊥
