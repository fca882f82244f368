-- Faces of cones of integer vectors.
use Rattle.std.specs.Prelude.{◌≡◌, ℕ, List, [], ◌∷◌, pos, if◌then◌else◌}
use Rattle.std.specs.Ordering.{int_eq}
use Rattle.git_defs.specs.Vectors.{Vector, HasRank, dot}
use Rattle.git_defs.specs.Cones.{InCone, Dual, SameSet, AreRays, AreFacets}

-- the vectors at which the normal is 0
abbrev pub on_wall : Vector → List Vector → List Vector
on_wall n [] = []
on_wall n (v ∷ vs) = if int_eq (dot n v) (pos 0) then v ∷ on_wall n vs else on_wall n vs

-- the members of C at which n is 0
pub record OnFace (C : Vector → Type 0) (n x : Vector) : Type 0 where
  pub member : C x
  pub level : dot n x ≡ pos 0

-- F is a face of C: the members at which a normal is 0 that is negative nowhere on C
pub record IsFace (k : ℕ) (C F : Vector → Type 0) : Type 0 where
  pub normal : Vector
  pub side : Dual k C normal
  pub is : SameSet F (OnFace C normal)

-- the list has the extreme vectors of a face of C
pub record AreRaysOfFace (k : ℕ) (C : Vector → Type 0) (list : List Vector) : Type 0 where
  pub normal : Vector
  pub side : Dual k C normal
  pub are : AreRays k (OnFace C normal) list

-- x is in both sets
pub record InBoth (C D : Vector → Type 0) (x : Vector) : Type 0 where
  pub one : C x
  pub other : D x

-- what both hold is a face of each
pub record MeetInFaces (k : ℕ) (C D : Vector → Type 0) : Type 0 where
  pub of_one : IsFace k C (InBoth C D)
  pub of_other : IsFace k D (InBoth C D)

-- the rays and the facets of one cone, k of each independent
pub record IsFullCone (k : ℕ) (rays facets : List Vector) : Type 0 where
  pub are_rays : AreRays k (InCone k rays) rays
  pub are_facets : AreFacets k (InCone k rays) facets
  pub rays_rank : HasRank k rays
  pub facets_rank : HasRank k facets
