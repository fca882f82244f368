-- Canonical cones are full cones with small entries.
use Rattle.std.proofs.Common.{ℕ, List}
use Rattle.git_defs.specs.Vectors.{Vector}
use Rattle.git_canon.specs.Canons.{IsCanonical}
use Rattle.git_allcones.specs.Cones.{IsShortCone}

pub canonical_short : (k : ℕ) (rays facets : List Vector) → IsCanonical k rays facets → IsShortCone k (record { rays = rays; facets = facets })
canonical_short k rays facets c = record {
  full = record { are_rays = c.canon.are_rays; are_facets = c.canon.are_facets; rays_rank = c.rays_rank; facets_rank = c.facets_rank };
  rays_short = c.rays_short;
  facets_short = c.facets_short;
}
