-- The rays of pointed cones and the facets of cones of full dimension.
use Rattle.std.proofs.Common.{◌≡◌, ◌∙◌, ◌↔◌, AllPairs, Contains, List, ap, arith, subst, sym, ℕ}
use Rattle.std.proofs.Math.IntN.{pos, ℤ}
use Rattle.std.proofs.lemmas.Int.{ints}
use Rattle.std.specs.Prelude.{◌≤ℤ◌}
use Rattle.git_defs.specs.Cones.{IsClosed, AreFacets, AreRays, Cut, Dual, InCone, IsEdge, IsExtreme, IsPointed, OnRay, SameSet}
use Rattle.git_defs.proofs.Closed.{cone_has}
use Rattle.git_defs.proofs.Linear.{cone_beside, dot-comm}
use Rattle.git_lemmas.specs.Members.{Member}
use Rattle.git_lemmas.proofs.Members.{contains_member, member_contains}
use Rattle.git_defs.proofs.Lengths.{OfLength}
use Rattle.git_defs.proofs.Sums.{scale-one, scale-zero}
use Rattle.git_defs.specs.Vectors.{HasRank, IsPrimitive, Precedes, Vector, scale, zero_vector}
use Rattle.git_geometry.proofs.Canonical.{undominated_exact}
use Rattle.git_geometry.proofs.Cuts.{cut_closed, cut_of, side_at}
use Rattle.git_geometry.proofs.Independence.{rank_pointed}
use Rattle.git_geometry.proofs.Minkowski.{generates_back, generators_of_length, generators_same, minkowski, normals_cut, weyl}
use Rattle.git_geometry.proofs.Primitive.{primitive_part}
use Rattle.git_geometry.proofs.Ranks.{pointed_rank}
use Rattle.git_geometry.proofs.Rays.{dual_along, dual_cut, edge_on_ray, pointed_along, rays_along, same_back, same_through}
use Rattle.git_geometry.proofs.Stages.{exact_each, exact_generators}
use Rattle.git_geometry.specs.Generators.{Generates, IsCutOut, PrimitivePart, RayOf}
use Rattle.git_geometry.specs.Stages.{Exact}
use Rattle.git_geometry.specs.Zeros.{AreUndominated}

-- ---- lists of extreme vectors are exact
pub exact_of_extreme : (k : ℕ) (A rays : List Vector) → SameSet (Contains rays) (IsExtreme k (Cut k A)) → Exact k A rays
exact_of_extreme k A rays each = record { edges = λ x m. (extreme x m).edge; primitive = λ x m. (extreme x m).primitive; complete = complete } where
  extreme : (x : Vector) → Contains rays x → IsExtreme k (Cut k A) x
  extreme x m = (each x).0 m

  closed : IsClosed k (Cut k A)
  closed = cut_closed k A

  -- the primitive vector along x is listed
  complete : (x : Vector) → IsEdge k (Cut k A) x → RayOf rays x
  complete x edge = by (primitive_part k x edge.member.entries edge.nonzero) where
    by : PrimitivePart x → RayOf rays x
    by p =
        let w = p.vector in
        let t = p.positive in
        let inside = closed.quotients (pos p.times) w (omega (arith, ints, t)) (subst (Cut k A) p.is edge.member) in
        let some : w ≡ zero_vector k → ⊥ = (λ z. edge.nonzero (p.is ∙ ap (scale (pos p.times)) z ∙ scale-zero (pos p.times) k)) in
        let o : OnRay w x = record { multiple = p.times; times = 1; positive = t; same = sym p.is ∙ sym (scale-one x) } in
        let listed = (each w).1 (record { edge = edge_on_ray k (Cut k A) closed x w edge inside some o (omega arith); primitive = p.primitive }) in
        record {
          one = w;
          member = listed;
          on = record { multiple = 1; times = p.times; positive = omega arith; same = scale-one x ∙ p.is };
        }

pub exact_extreme : (k : ℕ) (A R : List Vector) → Exact k A R ↔ SameSet (Contains R) (IsExtreme k (Cut k A))
exact_extreme k A R = (
  λ exact x. (λ c. (exact_each k A R exact x).0 (contains_member x R c), λ e. member_contains x R ((exact_each k A R exact x).1 e)),
  exact_of_extreme k A R,
)

pub exact_of_rays : (k : ℕ) (A rays : List Vector) → AreRays k (Cut k A) rays → Exact k A rays
exact_of_rays k A rays r = exact_of_extreme k A rays r.each

pub rays_of_exact : (k : ℕ) (A R : List Vector) → Exact k A R → AllPairs Precedes R → AreRays k (Cut k A) R
rays_of_exact k A R exact ordered = record { ordered = ordered; each = (exact_extreme k A R).0 exact }

-- ---- the dual of the dual is the cone
pub dual_of_dual : (k : ℕ) (vs : List Vector) → OfLength k vs → SameSet (Dual k (Dual k (InCone k vs))) (InCone k vs)
dual_of_dual k vs have =
    let C = InCone k vs in
    let m = minkowski k vs in
    let ns = m.list in
    let ns_have = generators_of_length k vs ns m.generates in
    let dual = same_through (Dual k C) (Cut k vs) (InCone k ns) (dual_cut k vs have) (generators_same k vs ns m.generates) in
    same_through (Dual k (Dual k C)) (Dual k (InCone k ns)) C (dual_along k (Dual k C) (InCone k ns) dual)
    (same_through (Dual k (InCone k ns)) (Cut k ns) C (dual_cut k ns ns_have) (same_back C (Cut k ns) (normals_cut k vs ns have m.generates)))

-- ---- the rays generate
pub rays_generate : (k : ℕ) (A rays : List Vector) → IsPointed k (Cut k A) → AreRays k (Cut k A) rays → Generates k A rays
rays_generate k A rays pointed r = exact_generators k A pointed rays (exact_of_rays k A rays r)

pub rays_same : (k : ℕ) (C : Vector → Type 0) (rays : List Vector) → IsCutOut k C → IsPointed k C → AreRays k C rays → SameSet C (InCone k rays)
rays_same k C rays c pointed r =
    let A = c.inequalities in
    same_through C (Cut k A) (InCone k rays) c.same
    (generators_same k A rays (rays_generate k A rays (pointed_along k C (Cut k A) c.same pointed) (rays_along k C (Cut k A) rays c.same r)))

-- ---- the facets cut out
pub facets_generate : (k : ℕ) (vs facets : List Vector) → OfLength k vs → HasRank k vs → AreFacets k (InCone k vs) facets → Generates k vs facets
facets_generate k vs facets have rank f = rays_generate k vs facets (rank_pointed k vs have rank) (rays_along k (Dual k (InCone k vs))
    (Cut k vs) facets (dual_cut k vs have) f)

pub facets_same : (k : ℕ) (vs facets : List Vector) → OfLength k vs → HasRank k vs → AreFacets k (InCone k vs) facets
    → SameSet (InCone k vs) (Cut k facets)
facets_same k vs facets have rank f = normals_cut k vs facets have (facets_generate k vs facets have rank f)

-- the facets of a pointed cone have full rank, so no vector but 0 is 0 on all of them
pub facets_rank : (k : ℕ) (vs facets : List Vector) → OfLength k vs → HasRank k vs → IsPointed k (InCone k vs) → AreFacets k (InCone k vs) facets
    → HasRank k facets
facets_rank k vs facets have rank pointed f =
    let g = facets_generate k vs facets have rank f in
    pointed_rank k facets (generators_of_length k vs facets g) (pointed_along k (InCone k vs) (Cut k facets) (normals_cut k vs facets have g) pointed)

-- the rays of a pointed cone of full dimension have full rank
pub rays_rank : (k : ℕ) (vs rays : List Vector) → OfLength k vs → HasRank k vs → IsPointed k (InCone k vs) → AreRays k (InCone k vs) rays
    → HasRank k rays
rays_rank k vs rays have rank pointed r =
    let w = weyl k vs have in
    let same = rays_same k (InCone k vs) rays w pointed r in
    let rays_have : OfLength k rays = record { each = λ v m. ((r.each v).0 (member_contains v rays m)).edge.member.entries } in
    pointed_rank k rays rays_have (λ x y cx cy e. rank_pointed k vs have rank x y (wider same rays_have x cx) (wider same rays_have y cy) e)
  where
    -- what is not negative on the rays is not negative on the cone
    wider : SameSet (InCone k vs) (InCone k rays) → OfLength k rays → (x : Vector) → Cut k rays x → Cut k vs x
    wider same rays_have x c = cut_of c.entries (λ v m.
        let side = cone_beside k x rays v rays_have (λ s n. subst (λ (z : ℤ). pos 0 ≤ℤ z) (dot-comm s x) (side_at c s n))
        ((same v).0 (cone_has k vs v have m)) in
        subst (λ (z : ℤ). pos 0 ≤ℤ z) (dot-comm x v) side)

-- ---- the other list, by dropping
pub rays_by_dropping : (k : ℕ) (vs facets rays : List Vector) → OfLength k vs → ((v : Vector) → Member v vs → IsPrimitive v) → HasRank k vs
    → AreFacets k (InCone k vs) facets → AreUndominated facets vs rays → AllPairs Precedes rays → AreRays k (InCone k vs) rays
rays_by_dropping k vs facets rays have primitive rank f u ordered =
    let g = facets_generate k vs facets have rank f in
    rays_along k (Cut k facets) (InCone k vs) rays (same_back (InCone k vs) (Cut k facets) (normals_cut k vs facets have g))
    (rays_of_exact k facets rays (undominated_exact k facets vs rays (generates_back k vs facets have g) primitive u) ordered)

pub facets_by_dropping : (k : ℕ) (A rays facets : List Vector) → OfLength k A → ((a : Vector) → Member a A → IsPrimitive a) → HasRank k A
    → AreRays k (Cut k A) rays → AreUndominated rays A facets → AllPairs Precedes facets → AreFacets k (Cut k A) facets
facets_by_dropping k A rays facets have primitive rank r u ordered =
    let g = rays_generate k A rays (rank_pointed k A have rank) r in
    let rays_have = generators_of_length k A rays g in
    let dual = same_through (Dual k (Cut k A)) (Dual k (InCone k rays)) (Cut k rays)
    (dual_along k (Cut k A) (InCone k rays) (generators_same k A rays g)) (dual_cut k rays rays_have) in
    rays_along k (Cut k rays) (Dual k (Cut k A)) facets (same_back (Dual k (Cut k A)) (Cut k rays) dual)
    (rays_of_exact k rays facets (undominated_exact k rays A facets (generates_back k A rays have g) primitive u) ordered)
