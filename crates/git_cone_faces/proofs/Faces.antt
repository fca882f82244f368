-- The rays of a face of a cone.
use Rattle.std.proofs.Common.{◌≡◌, ◌∙◌, ◌<◌, ◌∷◌, ◌↔◌, Contains, List, ap, arith, inl, inr, length, refl, subst, sym, ℕ}
use Rattle.std.proofs.Math.IntN.{negsuc, pos, ℤ}
use Rattle.std.proofs.lemmas.Int.{ints}
use Rattle.std.specs.Prelude.{◌≤ℤ◌}
use Rattle.git_defs.specs.Cones.{AreRays, Cut, Dual, InCone, IsExtreme, IsPointed, OnRay, SameSet}
use Rattle.git_defs.specs.Vectors.{Vector, dot, plus, scale}
use Rattle.git_defs.proofs.Lengths.{all_of_length, more_of_length, of_length_all}
use Rattle.git_defs.proofs.Linear.{dot-plus, length-scale}
use Rattle.git_lemmas.proofs.Members.{contains_member, member_contains}
use Rattle.git_geometry.proofs.Cuts.{cut_of, cut_within, side_at}
use Rattle.git_geometry.proofs.Facets.{rays_same}
use Rattle.git_geometry.proofs.Identities.{dot-scale_zero, product_zero}
use Rattle.git_geometry.proofs.Pointed.{pointed_within}
use Rattle.git_geometry.proofs.Rays.{rays_along, same_back, same_through}
use Rattle.git_geometry.proofs.Sorted.{rays_once}
use Rattle.git_geometry.specs.Generators.{IsCutOut}
use Rattle.git_cone_faces.specs.Faces.{AreRaysOfFace, OnFace, on_wall}
use Rattle.git_cone_faces.proofs.Walls.{scale-dot, wall_has, wall_member, wall_ordered}
use Rattle.git_cone_faces.proofs.Levels.{squeezed}

-- two vectors whose sum is on the face are
parts_level : (n x y z : Vector) (t : ℕ) → length y ≡ length z → pos 0 ≤ℤ dot n y → pos 0 ≤ℤ dot n z → plus y z ≡ scale (pos t) x → dot n x ≡ pos 0
    → (dot n y ≡ pos 0) × (dot n z ≡ pos 0)
parts_level n x y z t sizes p q s e =
    let a = dot-plus n y z sizes in
    let b : dot n (plus y z) ≡ pos 0 = ap (dot n) s ∙ dot-scale_zero n (pos t) x e in
    (omega (arith, ints, a, b, p, q), omega (arith, ints, a, b, p, q))

-- what is extreme on the face is extreme
extreme_wider : (k : ℕ) (C : Vector → Type 0) (n x : Vector) → ((x : Vector) → C x → length x ≡ k) → Dual k C n → IsExtreme k (OnFace C n) x
    → IsExtreme k C x
extreme_wider k C n x entries side e = record {
  edge = record { member = e.edge.member.member; nonzero = e.edge.nonzero; alone = alone };
  primitive = e.primitive;
} where
  alone : (y z : Vector) (t : ℕ) → C y → C z → 0 < t → plus y z ≡ scale (pos t) x → OnRay y x
  alone y z t cy cz p s =
      let both = parts_level n x y z t (entries y cy ∙ sym (entries z cz)) (side.sides y cy) (side.sides z cz) s e.edge.member.level in
      e.edge.alone y z t (record { member = cy; level = both.0 }) (record { member = cz; level = both.1 }) p s

extreme_narrower : (k : ℕ) (C : Vector → Type 0) (n x : Vector) → dot n x ≡ pos 0 → IsExtreme k C x → IsExtreme k (OnFace C n) x
extreme_narrower k C n x level e = record {
  edge = record {
    member = record { member = e.edge.member; level = level };
    nonzero = e.edge.nonzero;
    alone = λ y z t hy hz p s. e.edge.alone y z t hy.member hz.member p s;
  };
  primitive = e.primitive;
}

pub face_rays : (k : ℕ) (C : Vector → Type 0) (rays : List Vector) (n : Vector) → ((x : Vector) → C x → length x ≡ k) → AreRays k C rays → Dual k C n
    → AreRays k (OnFace C n) (on_wall n rays)
face_rays k C rays n entries r side = record { ordered = wall_ordered n rays r.ordered; each = λ x. (to x, back x) } where
  to : (x : Vector) → Contains (on_wall n rays) x → IsExtreme k (OnFace C n) x
  to x c =
      let m = wall_member n rays x (contains_member x (on_wall n rays) c) in
      extreme_narrower k C n x m.1 ((r.each x).0 (member_contains x rays m.0))

  back : (x : Vector) → IsExtreme k (OnFace C n) x → Contains (on_wall n rays) x
  back x e = member_contains x (on_wall n rays)
      (wall_has n rays x (contains_member x rays ((r.each x).1 (extreme_wider k C n x entries side e))) e.edge.member.level)

-- ---- a face is cut out, and pointed
pub face_cut_out : (k : ℕ) (C : Vector → Type 0) (n : Vector) → IsCutOut k C → Dual k C n → IsCutOut k (OnFace C n)
face_cut_out k C n c side = record {
  inequalities = n ∷ back ∷ A;
  entries = of_length_all k (n ∷ back ∷ A)
      (more_of_length k n (back ∷ A) side.entries (more_of_length k back A (length-scale (negsuc 0) n ∙ side.entries) (all_of_length k A c.entries)));
  same = λ x. (to x, from x);
} where
  A : List Vector
  A = c.inequalities

  back : Vector
  back = scale (negsuc 0) n

  to : (x : Vector) → OnFace C n x → Cut k (n ∷ back ∷ A) x
  to x f =
      let cut = (c.same x).0 f.member in
      let level = f.level in
      let low = scale-dot (negsuc 0) n x ∙ product_zero (negsuc 0) (dot n x) level in
      cut_of cut.entries (λ a m. elim m [
        | inl e ↦ subst (λ (w : Vector). pos 0 ≤ℤ dot w x) e (omega (arith, ints, level))
        | inr o ↦ elim o [
          | inl e ↦ subst (λ (w : Vector). pos 0 ≤ℤ dot w x) e (omega (arith, ints, low))
          | inr p ↦ side_at cut a p
        ]
      ])

  from : (x : Vector) → Cut k (n ∷ back ∷ A) x → OnFace C n x
  from x h = record {
    member = (c.same x).1 (cut_within k (n ∷ back ∷ A) A (λ a m. inr (inr m)) x h);
    level = squeezed (dot n x) (side_at h n (inl refl)) (subst (λ (z : ℤ). pos 0 ≤ℤ z) (scale-dot (negsuc 0) n x) (side_at h back (inr (inl refl))));
  }

cut_out_entries : (k : ℕ) (C : Vector → Type 0) → IsCutOut k C → (x : Vector) → C x → length x ≡ k
cut_out_entries k C c x h = ((c.same x).0 h).entries

pub face_pointed : (k : ℕ) (C : Vector → Type 0) (n : Vector) → IsPointed k C → IsPointed k (OnFace C n)
face_pointed k C n pointed = pointed_within k (OnFace C n) C (λ x f. f.member) pointed

pub face_generated : (k : ℕ) (C : Vector → Type 0) (rays : List Vector) (n : Vector) → IsCutOut k C → IsPointed k C → AreRays k C rays → Dual k C n
    → SameSet (OnFace C n) (InCone k (on_wall n rays))
face_generated k C rays n c pointed r side = rays_same k (OnFace C n) (on_wall n rays) (face_cut_out k C n c side) (face_pointed k C n pointed)
    (face_rays k C rays n (cut_out_entries k C c) r side)

-- ---- the rays of a face are those at which a normal of the dual is 0
pub record IsFaceList (k : ℕ) (C : Vector → Type 0) (rays list : List Vector) : Type 0 where
  pub normal : Vector
  pub side : Dual k C normal
  pub is : list ≡ on_wall normal rays

pub face_lists : (k : ℕ) (C : Vector → Type 0) (rays list : List Vector) → ((x : Vector) → C x → length x ≡ k) → AreRays k C rays
    → AreRaysOfFace k C list ↔ IsFaceList k C rays list
face_lists k C rays list entries r = (
  λ f. record {
    normal = f.normal;
    side = f.side;
    is = rays_once k (OnFace C f.normal) list (on_wall f.normal rays) f.are (face_rays k C rays f.normal entries r f.side);
  },
  λ f. record {
    normal = f.normal;
    side = f.side;
    are = subst (λ (vs : List Vector). AreRays k (OnFace C f.normal) vs) (sym f.is) (face_rays k C rays f.normal entries r f.side);
  },
)

-- ---- faces are known by their lists
pub faces_lists : (k : ℕ) (C D : Vector → Type 0) (rays other_rays : List Vector) (m n : Vector)
    → IsCutOut k C → IsPointed k C → AreRays k C rays → Dual k C m → IsCutOut k D → IsPointed k D → AreRays k D other_rays → Dual k D n
    → SameSet (OnFace C m) (OnFace D n) ↔ (on_wall m rays ≡ on_wall n other_rays)
faces_lists k C D rays other_rays m n c pointed r side d other_pointed s other_side = (to, back) where
  to : SameSet (OnFace C m) (OnFace D n) → on_wall m rays ≡ on_wall n other_rays
  to same = rays_once k (OnFace D n) (on_wall m rays) (on_wall n other_rays)
      (rays_along k (OnFace C m) (OnFace D n) (on_wall m rays) same (face_rays k C rays m (cut_out_entries k C c) r side))
      (face_rays k D other_rays n (cut_out_entries k D d) s other_side)

  back : on_wall m rays ≡ on_wall n other_rays → SameSet (OnFace C m) (OnFace D n)
  back e = same_through (OnFace C m) (InCone k (on_wall m rays)) (OnFace D n) (face_generated k C rays m c pointed r side)
      (same_back (OnFace D n) (InCone k (on_wall m rays))
      (subst (λ (ws : List Vector). SameSet (OnFace D n) (InCone k ws)) (sym e) (face_generated k D other_rays n d other_pointed s other_side)))
