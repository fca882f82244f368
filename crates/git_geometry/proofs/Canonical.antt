-- The rays of a cone among its generators, by its facets.
use Rattle.std.proofs.Common.{◌≡◌, List, ℕ}
use Rattle.git_lemmas.specs.Members.{Member}
use Rattle.git_defs.specs.Cones.{Cut, IsEdge, OnRay}
use Rattle.git_defs.specs.Vectors.{IsPrimitive, Vector, zero_vector}
use Rattle.git_geometry.proofs.Cuts.{cut_closed}
use Rattle.git_geometry.proofs.Edges.{dominator_on_edge, edge_of_alone}
use Rattle.git_geometry.proofs.Primitive.{primitive_nonzero}
use Rattle.git_geometry.proofs.Rays.{edge_on_ray, on_own_ray, on_ray_back, primitive_of_ray, ray_of_generator, some_times}
use Rattle.git_geometry.specs.Generators.{Generates, RayOf}
use Rattle.git_geometry.specs.Stages.{Exact}
use Rattle.git_geometry.specs.Zeros.{AreUndominated}
use Rattle.git_lemmas.proofs.Members.{as_member, contained}
use Rattle.git_geometry.proofs.Contained.{inside_at}
use Rattle.std.specs.Prelude.{Contains}

-- primitive vectors that generate a cone: the undominated ones are its extreme vectors
pub undominated_exact : (k : ℕ) (A R S : List Vector) → Generates k A R → ((r : Vector) → Member r R → IsPrimitive r) → AreUndominated A R S
    → Exact k A S
undominated_exact k A R S g primitive u = record { edges = edge; primitive = λ r m. primitive r (as_member R (u.from r m)); complete = complete } where
  some : (r : Vector) → Member r R → r ≡ zero_vector k → ⊥
  some r m = primitive_nonzero k r (inside_at g r m).entries (primitive r m)

  edge : (r : Vector) → Contains S r → IsEdge k (Cut k A) r
  edge r m = edge_of_alone k A R r g (g.inside r (u.from r m)) (some r (as_member R (u.from r m)))
      (λ s n d. on_own_ray (u.only r s m (contained R n) d))

  -- a generator on the ray of an edge is an edge, so what dominates it is on its ray
  kept : (x r : Vector) → IsEdge k (Cut k A) x → Member r R → OnRay x r → Contains S r
  kept x r e m o =
      let t = some_times k r x (inside_at g r m).entries e.nonzero o in
      let er = edge_on_ray k (Cut k A) (cut_closed k A) x r e (inside_at g r m) (some r m) (on_ray_back r x o t) o.positive in
      u.back r (contained R m) (λ s n d.
      let o = as_member R n in
      primitive_of_ray k r s (inside_at g r m).entries (some s o) (primitive r m) (primitive s o) (dominator_on_edge k A s r er (g.inside s n) d))

  complete : (x : Vector) → IsEdge k (Cut k A) x → RayOf S x
  complete x e = let o = ray_of_generator k (Cut k A) R x (cut_closed k A) (inside_at g) e (g.all x e.member) in
      record { one = o.one; member = kept x o.one e (as_member R o.member) o.on; on = o.on }
