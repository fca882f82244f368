-- Which generators are extreme, and which blends.
use Rattle.std.proofs.Common.{◌≡◌, ◌∷◌, ◌↔◌, Contains, List, ℕ}
use Rattle.std.proofs.Math.IntN.{pos}
use Rattle.std.specs.Prelude.{◌<ℤ◌}
use Rattle.git_lemmas.specs.Members.{Member}
use Rattle.git_lemmas.proofs.Members.{contains_member, member_contains}
use Rattle.git_defs.specs.Cones.{Cut, IsEdge, IsExtreme, IsPointed, OnRay}
use Rattle.git_defs.specs.Vectors.{IsPrimitive, Vector, dot, zero_vector}
use Rattle.git_geometry.proofs.Edges.{dominator_on_edge, edge_of_alone}
use Rattle.git_geometry.proofs.Neighbours.{adjacent_edge, edge_near}
use Rattle.git_geometry.proofs.Primitive.{primitive_nonzero}
use Rattle.git_geometry.proofs.Rays.{on_own_ray, primitive_of_ray}
use Rattle.git_geometry.proofs.Stages.{exact_generators}
use Rattle.git_geometry.specs.Generators.{Generates}
use Rattle.git_geometry.specs.Stages.{Exact, blend}
use Rattle.git_geometry.specs.Zeros.{Adjacent, Dominates}
use Rattle.git_geometry.proofs.Contained.{inside_at, edge_at, primitive_at}

-- a generator is an edge exactly where each generator that has its zeros is on its ray
pub edge_exactly : (k : ℕ) (A R : List Vector) (r : Vector) → Generates k A R → Member r R → (r ≡ zero_vector k → ⊥)
    → IsEdge k (Cut k A) r ↔ ((s : Vector) → Member s R → Dominates A s r → OnRay s r)
edge_exactly k A R r g m some = (
  λ e s n d. dominator_on_edge k A s r e (inside_at g s n) d,
  edge_of_alone k A R r g (inside_at g r m) some,
)

pub extreme_exactly : (k : ℕ) (A R : List Vector) (r : Vector) → Generates k A R → ((s : Vector) → Member s R → IsPrimitive s) → Member r R
    → IsExtreme k (Cut k A) r ↔ ((s : Vector) → Member s R → Dominates A s r → s ≡ r)
extreme_exactly k A R r g primitive m = (
  λ e s n d. primitive_of_ray k r s (inside_at g r m).entries (some s n) (primitive r m) (primitive s n)
      (dominator_on_edge k A s r e.edge (inside_at g s n) d),
  λ alone. record {
    edge = edge_of_alone k A R r g (inside_at g r m) (some r m) (λ s n d. on_own_ray (alone s n d));
    primitive = primitive r m;
  },
) where
  some : (s : Vector) → Member s R → s ≡ zero_vector k → ⊥
  some s n = primitive_nonzero k s (inside_at g s n).entries (primitive s n)

-- the blend of two extreme vectors on the two sides of b is an edge exactly where they are neighbours
pub blend_exactly : (k : ℕ) (A R : List Vector) (b r s : Vector) → IsPointed k (Cut k A) → Exact k A R → Member r R → Member s R → pos 0 <ℤ dot b r
    → dot b s <ℤ pos 0
    → IsEdge k (Cut k (b ∷ A)) (blend b r s) ↔ Adjacent A R r s
blend_exactly k A R b r s pointed exact m n above below = (
  λ edge. record {
    only = λ t o f. edge_near k A pointed b r s (edge_at exact r m) (edge_at exact s n) above below edge t (exact.edges t o) f
        (primitive_at exact r m) (primitive_at exact s n) (exact.primitive t o);
  },
  adjacent_edge k A R (exact_generators k A pointed R exact) pointed b r s (edge_at exact r m).member (edge_at exact s n).member
      (edge_at exact r m).nonzero above below,
)

-- ---- the same by index
all_by_index : (R : List Vector) (P Q : Vector → Type 0) → ((s : Vector) → Member s R → P s → Q s) ↔ ((s : Vector) → Contains R s → P s → Q s)
all_by_index R P Q = (λ f s c. f s (contains_member s R c), λ f s m. f s (member_contains s R m))

pub edge_where : (k : ℕ) (A R : List Vector) (r : Vector) → Generates k A R → Contains R r → (r ≡ zero_vector k → ⊥)
    → IsEdge k (Cut k A) r ↔ ((s : Vector) → Contains R s → Dominates A s r → OnRay s r)
edge_where k A R r g c some =
    let e = edge_exactly k A R r g (contains_member r R c) some in
    let f = all_by_index R (λ s. Dominates A s r) (λ s. OnRay s r) in
    (λ h. f.0 (e.0 h), λ h. e.1 (f.1 h))

pub extreme_where : (k : ℕ) (A R : List Vector) (r : Vector) → Generates k A R → ((s : Vector) → Member s R → IsPrimitive s) → Contains R r
    → IsExtreme k (Cut k A) r ↔ ((s : Vector) → Contains R s → Dominates A s r → s ≡ r)
extreme_where k A R r g primitive c =
    let e = extreme_exactly k A R r g primitive (contains_member r R c) in
    let f = all_by_index R (λ s. Dominates A s r) (λ s. s ≡ r) in
    (λ h. f.0 (e.0 h), λ h. e.1 (f.1 h))
