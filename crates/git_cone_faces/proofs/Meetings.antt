-- Where two cones meet in a face.
use Rattle.std.proofs.Common.{◌≡◌, ◌∙◌, ◌++◌, ◌↔◌, Contains, List, inl, inr, subst, sym, ℕ}
use Rattle.std.proofs.Math.IntN.{negsuc, pos, ℤ}
use Rattle.std.specs.Prelude.{◌≤ℤ◌}
use Rattle.git_defs.specs.Cones.{AreRays, Cut, Dual, InCone, SameSet}
use Rattle.git_defs.specs.Vectors.{Vector, dot, scale, vector_sum}
use Rattle.git_defs.proofs.Closed.{closed_cone, cone_closed, cone_has}
use Rattle.git_defs.proofs.Lengths.{OfLength, of_length_all}
use Rattle.git_defs.proofs.Linear.{dot-comm}
use Rattle.git_lemmas.specs.Members.{Member}
use Rattle.git_lemmas.proofs.Integers.{no_product}
use Rattle.git_lemmas.proofs.Members.{contains_member, member_contains}
use Rattle.git_geometry.proofs.Contained.{inside_at}
use Rattle.git_geometry.proofs.Cuts.{cut_closed, cut_of, cut_within, side_at}
use Rattle.git_geometry.proofs.Elimination.{LevelAt, level_closed}
use Rattle.git_geometry.proofs.Facets.{rays_same}
use Rattle.git_geometry.proofs.Identities.{product_zero}
use Rattle.git_geometry.proofs.Lists.{member_either, member_left, member_right}
use Rattle.git_geometry.proofs.Pointed.{pointed_within}
use Rattle.git_geometry.proofs.Rays.{dual_cut, same_back, same_through}
use Rattle.git_geometry.specs.Generators.{Generates}
use Rattle.git_cone_faces.specs.Faces.{InBoth, IsFace, IsFullCone, MeetInFaces, OnFace, on_wall}
use Rattle.git_cone_faces.proofs.Faces.{face_generated}
use Rattle.git_cone_faces.proofs.Full.{full_cut_out, full_facets_have, full_generates, full_have, full_pointed, full_same, rays_have}
use Rattle.git_cone_faces.proofs.Levels.{closed_sum, cone_level, squeezed, sum_level}
use Rattle.git_cone_faces.proofs.Walls.{scale-dot, wall_has, wall_member}

-- ---- the intersection
pub both_cut : (k : ℕ) (C D : Vector → Type 0) (A B : List Vector) → SameSet C (Cut k A) → SameSet D (Cut k B)
    → SameSet (InBoth C D) (Cut k (A ++ B))
both_cut k C D A B c d x = (
  λ h. cut_of ((c x).0 h.one).entries
      (λ a m. elim (member_either a A B m) [ inl l ↦ side_at ((c x).0 h.one) a l | inr r ↦ side_at ((d x).0 h.other) a r ]),
  λ h. record {
    one = (c x).1 (cut_within k (A ++ B) A (λ a m. member_left a A B m) x h);
    other = (d x).1 (cut_within k (A ++ B) B (λ a m. member_right a A B m) x h);
  },
)

-- ---- where it is a face
module _ (k : ℕ) (R A S B E : List Vector) (one : IsFullCone k R A) (other : IsFullCone k S B)
    (common : AreRays k (InBoth (InCone k R) (InCone k S)) E) where
  abbrev Both : Vector → Type 0
  Both = InBoth (InCone k R) (InCone k S)

  same_cut : SameSet Both (Cut k (A ++ B))
  same_cut = both_cut k (InCone k R) (InCone k S) A B (full_same one) (full_same other)

  joined_have : OfLength k (A ++ B)
  joined_have = record {
    each = λ v m. elim (member_either v A B m) [ inl l ↦ (full_facets_have one).each v l | inr r ↦ (full_facets_have other).each v r ];
  }

  generated : SameSet Both (InCone k E)
  generated = rays_same k Both E (record { inequalities = A ++ B; entries = of_length_all k (A ++ B) joined_have; same = same_cut })
      (pointed_within k Both (InCone k R) (λ x h. h.one) (full_pointed one)) common

  E_have : OfLength k E
  E_have = rays_have k Both E (λ x h. h.one.entries) common

  E_both : (v : Vector) → Member v E → Both v
  E_both v m = ((common.each v).0 (member_contains v E m)).edge.member

  abbrev e : Vector
  e = vector_sum k E

  e_both : Both e
  e_both = (generated e).1 (closed_sum k (InCone k E) E (cone_closed k E E_have) (λ v m. cone_has k E v E_have m))

  g : Generates k R A
  g = full_generates one

  -- no facet of the first is negative on the common vectors
  facet_beside : (m x : Vector) → Member m A → Both x → pos 0 ≤ℤ dot m x
  facet_beside m x o b = side_at ((full_same one x).0 b.one) m o

  -- a facet of the first is 0 at the sum of the common rays exactly where it is 0 at each
  pub level_exactly : (m : Vector) → Member m A → (dot m e ≡ pos 0) ↔ ((v : Vector) → Contains E v → dot m v ≡ pos 0)
  level_exactly m o = (
    λ none v c. sum_level k m E E_have (λ u p. facet_beside m u o (E_both u p)) none v (contains_member v E c),
    λ level. (closed_sum k (LevelAt k m) E (level_closed k m) (λ v p. record { entries = E_have.each v p; level = level v (member_contains v E p) })).level,
  )

  turned : (u v : Vector) → pos 0 ≤ℤ dot u v → pos 0 ≤ℤ dot v u
  turned u v h = subst (λ (z : ℤ). pos 0 ≤ℤ z) (dot-comm u v) h

  abbrev Test : Type 0
  Test = (r : Vector) → Contains R r → ((m : Vector) → Contains A m → dot m e ≡ pos 0 → dot m r ≡ pos 0) → InCone k S r

  test_of_face : IsFace k (InCone k R) Both → Test
  test_of_face f r c imply =
      let n = f.normal in
      let in_dual : InCone k A n = g.all n ((dual_cut k R (full_have one) n).0 f.side) in
      let at_e : dot e n ≡ pos 0 = dot-comm e n ∙ ((f.is e).0 e_both).level in
      let at_r : dot r n ≡ pos 0 = cone_level k e r A n (full_facets_have one) (λ m o. turned m e (facet_beside m e o e_both))
      (λ m o z. dot-comm r m ∙ imply m (member_contains m A o) (dot-comm m e ∙ z)) in_dual at_e in
      let on : OnFace (InCone k R) n r = record {
        member = cone_has k R r (full_have one) (contains_member r R c);
        level = dot-comm n r ∙ at_r;
      } in
      ((f.is r).1 on).other

  abbrev Z : List Vector
  Z = on_wall e A

  abbrev z : Vector
  z = vector_sum k Z

  Z_in : (m : Vector) → Member m Z → Member m A
  Z_in m o = (wall_member e A m o).0

  Z_have : OfLength k Z
  Z_have = record { each = λ m o. (full_facets_have one).each m (Z_in m o) }

  z_side : Dual k (InCone k R) z
  z_side = (dual_cut k R (full_have one) z).1 (closed_sum k (Cut k R) Z (cut_closed k R) (λ m o. inside_at g m (Z_in m o)))

  -- these facets are 0 on all common vectors
  Z_level : (m x : Vector) → Member m Z → Both x → dot m x ≡ pos 0
  Z_level m x o b =
      let at_e : dot m e ≡ pos 0 = dot-comm m e ∙ (wall_member e A m o).1 in
      let on_rays = sum_level k m E E_have (λ v p. facet_beside m v (Z_in m o) (E_both v p)) at_e in
      (closed_cone k (LevelAt k m) E x (level_closed k m) (λ v p. record { entries = E_have.each v p; level = on_rays v p }) ((generated x).0 b)).level

  into_face : (x : Vector) → Both x → OnFace (InCone k R) z x
  into_face x b = record {
    member = b.one;
    level = dot-comm z x ∙ (closed_sum k (LevelAt k x) Z (level_closed k x)
        (λ m o. record { entries = Z_have.each m o; level = dot-comm x m ∙ Z_level m x o b })).level;
  }

  ray_both : Test → (r : Vector) → Member r (on_wall z R) → Both r
  ray_both test r m =
      let w = wall_member z R r m in
      let each = sum_level k r Z Z_have (λ v o. side_at (inside_at g v (Z_in v o)) r w.0) (dot-comm r z ∙ w.1) in
      record {
        one = cone_has k R r (full_have one) w.0;
        other = test r (member_contains r R w.0)
            (λ q c level. dot-comm q r ∙ each q (wall_has e A q (contains_member q A c) (dot-comm e q ∙ level)));
      }

  from_face : Test → (x : Vector) → OnFace (InCone k R) z x → Both x
  from_face test x f = (same_cut x).1 (closed_cone k (Cut k (A ++ B)) (on_wall z R) x (cut_closed k (A ++ B))
      (λ r m. (same_cut r).0 (ray_both test r m))
      ((face_generated k (InCone k R) R z (full_cut_out one) (full_pointed one) one.are_rays z_side x).0 f))

  pub common_face : IsFace k (InCone k R) Both ↔ Test
  common_face = (
    test_of_face,
    λ test. record { normal = z; side = z_side; is = λ x. (into_face x, from_face test x) },
  )

-- ---- cones on two sides of a normal
pub face_along : (k : ℕ) (C F G : Vector → Type 0) → SameSet F G → IsFace k C F → IsFace k C G
face_along k C F G same f = record {
  normal = f.normal;
  side = f.side;
  is = same_through G F (OnFace C f.normal) (same_back F G same) f.is;
}

-- a facet is negative nowhere on its cone
facet_side : (k : ℕ) (R A : List Vector) (n : Vector) → IsFullCone k R A → Contains A n → Dual k (InCone k R) n
facet_side k R A n full c = ((full.are_facets.each n).0 c).edge.member

pub both_turned : (C D : Vector → Type 0) → SameSet (InBoth C D) (InBoth D C)
both_turned C D x = (λ h. record { one = h.other; other = h.one }, λ h. record { one = h.other; other = h.one })

half_separated : (k : ℕ) (R A S B : List Vector) (n m : Vector) → IsFullCone k R A → IsFullCone k S B → Dual k (InCone k R) n → Dual k (InCone k S) m
    → ((x : Vector) → pos 0 ≤ℤ dot n x → pos 0 ≤ℤ dot m x → dot n x ≡ pos 0) → ((v : Vector) → Member v (on_wall n R) → Member v S)
    → IsFace k (InCone k R) (InBoth (InCone k R) (InCone k S))
half_separated k R A S B n m one other side back level within = record { normal = n; side = side; is = λ x. (to x, from x) } where
  to : (x : Vector) → InBoth (InCone k R) (InCone k S) x → OnFace (InCone k R) n x
  to x h = record { member = h.one; level = level x (side.sides x h.one) (back.sides x h.other) }

  from : (x : Vector) → OnFace (InCone k R) n x → InBoth (InCone k R) (InCone k S) x
  from x f = record {
    one = f.member;
    other = closed_cone k (InCone k S) (on_wall n R) x (cone_closed k S (full_have other)) (λ v o. cone_has k S v (full_have other) (within v o))
        ((face_generated k (InCone k R) R n (full_cut_out one) (full_pointed one) one.are_rays side x).0 f);
  }

pub separated_faces : (k : ℕ) (R A S B : List Vector) (n : Vector) → IsFullCone k R A → IsFullCone k S B → Dual k (InCone k R) n
    → Dual k (InCone k S) (scale (negsuc 0) n) → on_wall n R ≡ on_wall n S → MeetInFaces k (InCone k R) (InCone k S)
separated_faces k R A S B n one other side back same = record {
  of_one = half_separated k R A S B n (scale (negsuc 0) n) one other side back level
      (λ v o. (wall_member n S v (subst (λ (u : List Vector). Member v u) same o)).0);
  of_other = face_along k (InCone k S) (InBoth (InCone k S) (InCone k R)) (InBoth (InCone k R) (InCone k S)) (both_turned (InCone k S) (InCone k R))
      (half_separated k S B R A (scale (negsuc 0) n) n other one back side turned_level
      (λ v o. (wall_member n R v (subst (λ (u : List Vector). Member v u) (sym same) (turned_wall v o))).0));
} where
  level : (x : Vector) → pos 0 ≤ℤ dot n x → pos 0 ≤ℤ dot (scale (negsuc 0) n) x → dot n x ≡ pos 0
  level x p q = squeezed (dot n x) p (subst (λ (z : ℤ). pos 0 ≤ℤ z) (scale-dot (negsuc 0) n x) q)

  turned_level : (x : Vector) → pos 0 ≤ℤ dot (scale (negsuc 0) n) x → pos 0 ≤ℤ dot n x → dot (scale (negsuc 0) n) x ≡ pos 0
  turned_level x q p = scale-dot (negsuc 0) n x ∙ product_zero (negsuc 0) (dot n x) (level x p q)

  turned_wall : (v : Vector) → Member v (on_wall (scale (negsuc 0) n) S) → Member v (on_wall n S)
  turned_wall v o =
      let w = wall_member (scale (negsuc 0) n) S v o in
      wall_has n S v w.0 (no_product (negsuc 0) (dot n v) (λ e. absurd (cc e)) (sym (scale-dot (negsuc 0) n v) ∙ w.1))

-- neighbours: the facet n of the one, turned round, is a facet of the other, with the same rays on it
pub shared_wall : (k : ℕ) (R A S B : List Vector) (n : Vector) → IsFullCone k R A → IsFullCone k S B → Contains A n → Contains B (scale (negsuc 0) n)
    → on_wall n R ≡ on_wall n S → MeetInFaces k (InCone k R) (InCone k S)
shared_wall k R A S B n one other here there same = separated_faces k R A S B n one other
    (facet_side k R A n one here) (facet_side k S B (scale (negsuc 0) n) other there) same
