use Rattle.std.proofs.Common.{◌≡◌, Contains, map, take}
use Rattle.git_stages.specs.Ranks.{IsRank}
use Rattle.git_allcones.specs.Faces.{Face, face_of, rays_of_face}
use Rattle.git_allcones.specs.Sets.{vectors_of}
use Rattle.git_allcones.proofs.faces.with_dimensions.Given as goal

abbrev pub invariant-loop-list : goal.invariant-loop-list
invariant-loop-list l = (map (λ f. rays_of_face (face_of f)) l.out.items ≡ map vectors_of (take l.list-index l.lists)) × ((f : Face) → Contains (map face_of l.out.items) f → IsRank l.k f.rays f.dimension)
