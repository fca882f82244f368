-- Lists of rays, with those left out at which some normals are not 0.
use Rattle.std.specs.Prelude.{◌≡◌, List, [], ◌∷◌, ◌++◌, map, All, Contains}
use Rattle.git_defs.specs.Vectors.{Vector}
use Rattle.git_cone_faces.specs.Faces.{on_wall}

-- the vectors at which each of the normals is 0
abbrev pub on_walls : List Vector → List Vector → List Vector
on_walls [] vs = vs
on_walls (n ∷ ns) vs = on_wall n (on_walls ns vs)

-- the list has the rays at which some of the facets are 0
pub record AreOnFacets (facets rays list : List Vector) : Type 0 where
  pub used : List Vector
  pub from : All (Contains facets) used
  pub is : list ≡ on_walls used rays

-- the lists, and behind them of each the vectors at which the normal is 0
abbrev pub with_wall : Vector → List (List Vector) → List (List Vector)
with_wall n lists = lists ++ map (on_wall n) lists

-- the same for one normal after another
abbrev pub one_pass : List Vector → List (List Vector) → List (List Vector)
one_pass [] lists = lists
one_pass (n ∷ ns) lists = one_pass ns (with_wall n lists)
