-- Where inequalities are 0 on vectors.
use Rattle.std.specs.Prelude.{◌≡◌, ◌⊎◌, List, pos, Contains}
use Rattle.git_defs.specs.Vectors.{Vector, dot}

-- those of the inequalities that Z holds of are 0 on y
abbrev pub Flat : (Vector → Type 0) → List Vector → Vector → Type 0
Flat Z inequalities y = (a : Vector) → Contains inequalities a → Z a → dot a y ≡ pos 0

-- a is 0 on r
abbrev pub ZeroOn : Vector → Vector → Type 0
ZeroOn r a = dot a r ≡ pos 0

-- a is 0 on r and on s
abbrev pub ZeroOnBoth : Vector → Vector → Vector → Type 0
ZeroOnBoth r s a = (dot a r ≡ pos 0) × (dot a s ≡ pos 0)

-- each inequality that is 0 on r is 0 on s
pub record Dominates (inequalities : List Vector) (s r : Vector) : Type 0 where
  pub zeros : Flat (ZeroOn r) inequalities s

-- r and s are neighbours: no other member has all the zeros that they share
pub record Adjacent (inequalities list : List Vector) (r s : Vector) : Type 0 where
  pub only : (t : Vector) → Contains list t → Flat (ZeroOnBoth r s) inequalities t → (r ≡ t) ⊎ (s ≡ t)

-- those of the given vectors that no other of them dominates
pub record AreUndominated (inequalities given list : List Vector) : Type 0 where
  pub from : (r : Vector) → Contains list r → Contains given r
  pub only : (r s : Vector) → Contains list r → Contains given s → Dominates inequalities s r → s ≡ r
  pub back : (r : Vector) → Contains given r → ((s : Vector) → Contains given s → Dominates inequalities s r → s ≡ r) → Contains list r
