-- A cone is that of a face exactly where it holds the columns and each of its rays has a column along it.
use Rattle.std.proofs.Common.{◌≡◌, ◌∙◌, ◌*◌, ◌<◌, ◌^◌, List, ap, arith, false, inl, inr, length, subst, sym, ℕ}
use Rattle.std.proofs.Math.IntN.{ℤ, pos, pos-*ℤ-pos}
use Rattle.std.proofs.lemmas.Int.{ints}
use Rattle.std.specs.Prelude.{◌↔◌, IsTrue}
use Rattle.std.specs.Int.RustNames.{bit_and}
use Rattle.git_defs.specs.Vectors.{Vector, scale, zero_vector}
use Rattle.git_defs.specs.Cones.{Cut, InCone, OnRay, SameSet}
use Rattle.git_defs.specs.Faces.{face, face_cone}
use Rattle.git_defs.proofs.Closed.{closed_cone, cone_closed, cone_has}
use Rattle.git_defs.proofs.Lengths.{OfLength}
use Rattle.git_defs.proofs.Linear.{length-scale}
use Rattle.git_defs.proofs.Sums.{scale-scale, scale-zero}
use Rattle.git_geometry.proofs.Cuts.{cut_closed}
use Rattle.git_geometry.proofs.Primitive.{vanish}
use Rattle.git_geometry.proofs.Rays.{edge_along, primitive_of_ray, ray_of_generator, same_through}
use Rattle.git_geometry.proofs.Squares.{vector_zero_or_not}
use Rattle.git_lemmas.proofs.Members.{all_member, as_member, contained, member_all, member_contains}
use Rattle.git_lemmas.specs.Members.{Member}
use Rattle.git_minors.proofs.Parts.{face_of_length}
use Rattle.git_stages.proofs.Exist.{part_exists}
use Rattle.git_canon.specs.Canons.{Described, IsCanon}
use Rattle.git_orbit.specs.Orbits.{Fan}
use Rattle.git_orbit.specs.Signatures.{facets_at}
use Rattle.git_bunch.specs.Stable.{IsNumberOf}
use Rattle.git_orbit.proofs.Masks.{meets_from, meets_to, sel_from, sel_to, zip_back, zip_to}
use Rattle.git_orbit.specs.Keys.{HasKey, Selects}
use Rattle.git_bunch.specs.Keys.{IsAlong, IsKey, MeetsRay, MeetsRays}

-- the columns of a face lie in its cone, so they are among those that the cone holds
pub columns_inside : (k : ℕ) (Q F : List Vector) (m : ℕ) → OfLength k Q → SameSet (Cut k F) (face_cone k Q m) → (v : Vector) → Member v (face Q m) → Cut k F v
columns_inside k Q F m have same v n = (same v).1 (cone_has k (face Q m) v (face_of_length k Q m have) n)

pub mask_within : (k : ℕ) (Q F : List Vector) (m held : ℕ) → OfLength k Q → m < 2 ^ length Q → Selects (Cut k F) Q held → SameSet (Cut k F) (face_cone k Q m) → bit_and m held ≡ m
mask_within k Q F m held have lt within same = sel_from (Cut k F) Q m held lt within (columns_inside k Q F m have same)

module _ (k : ℕ) (Q R F : List Vector) (have : OfLength k Q) (canon : IsCanon k (InCone k R) R F) (m : ℕ) where
  have_m : OfLength k (face Q m)
  have_m = face_of_length k Q m have

  -- ---- from columns to the cone
  from_column : (r q : Vector) → Member q (face Q m) → IsAlong r q → InCone k (face Q m) r
  from_column r q n part =
      let p = part.positive in
      (cone_closed k (face Q m) have_m).quotients (pos part.divisor) r (omega (arith, ints, p)) (subst (InCone k (face Q m)) part.is (cone_has k (face Q m) q have_m n))

  pub same_of_columns : ((v : Vector) → Member v (face Q m) → Cut k F v) → MeetsRays Q R m → SameSet (Cut k F) (face_cone k Q m)
  same_of_columns inside meets x = (
    λ h. closed_cone k (InCone k (face Q m)) R x (cone_closed k (face Q m) have_m)
        (λ r n. let c = all_member (MeetsRay Q m) r R meets n in from_column r c.0 (as_member (face Q m) c.1) c.2) ((canon.cut_out x).1 h),
    λ h. closed_cone k (Cut k F) (face Q m) x (cut_closed k F) inside h,
  )

  -- ---- and back
  module _ (same : SameSet (Cut k F) (face_cone k Q m)) where
    ray_met : (r : Vector) → Member r R → MeetsRay Q m r
    ray_met r n =
        let e = (canon.are_rays.each r).0 (member_contains r R n) in
        let edge = edge_along k (InCone k R) (face_cone k Q m) r (same_through (InCone k R) (Cut k F) (face_cone k Q m) canon.cut_out same) e.edge in
        let on = ray_of_generator k (face_cone k Q m) (face Q m) r (cone_closed k (face Q m) have_m) (λ v i. cone_has k (face Q m) v have_m i) edge edge.member in
        let a = on.one in
        let in_face = as_member (face Q m) on.member in
        let la = have_m.each a in_face in
        elim (vector_zero_or_not k a la) [
          | inl z ↦ absurd (e.edge.nonzero (vanish k (on.on).multiple r (on.on).positive ((on.on).same ∙ ap (scale (pos (on.on).times)) z ∙ scale-zero (pos (on.on).times) k)))
          | inr some ↦ (
              let p = part_exists a in
              let x = p.0 in
              let part = p.1 in
              let o : OnRay r x = record {
                multiple = (on.on).multiple;
                times = (on.on).times * part.divisor;
                positive = (on.on).positive;
                same = (on.on).same ∙ ap (scale (pos (on.on).times)) part.is ∙ scale-scale (pos (on.on).times) (pos part.divisor) x ∙ ap (λ (z : ℤ). scale z x) (pos-*ℤ-pos (on.on).times part.divisor);
              } in
              let lx : length x ≡ k = sym (length-scale (pos part.divisor) x) ∙ ap length (sym part.is) ∙ la in
              let is : r ≡ x = primitive_of_ray k x r lx e.edge.nonzero (part.primitive (λ z. some (z ∙ ap zero_vector la))) e.primitive o in
              (a, on.member, subst (λ (u : Vector). IsAlong u a) (sym is) part))
        ]

    pub rays_met : MeetsRays Q R m
    rays_met = member_all (MeetsRay Q m) R ray_met

  -- ---- by masks
  pub cone_by_masks : (held : ℕ) → m < 2 ^ length Q → Selects (Cut k F) Q held → (bit_and m held ≡ m) × MeetsRays Q R m ↔ SameSet (Cut k F) (face_cone k Q m)
  cone_by_masks held lt within = (
    λ p. same_of_columns (λ v n. sel_to (Cut k F) Q m held within p.0 v n) p.1,
    λ same. (mask_within k Q F m held have lt within same, rays_met same),
  )

  pub cone_by_key : (held : ℕ) (along : List ℕ) → m < 2 ^ length Q → IsKey k Q R F held along → HasKey held along m ↔ SameSet (Cut k F) (face_cone k Q m)
  cone_by_key held along lt key = (
    λ h. same_of_columns (λ v n. sel_to (Cut k F) Q m held key.within h.within v n) (member_all (MeetsRay Q m) R (λ r n.
        let z = zip_to (λ (s : Vector) (a : ℕ). Selects (IsAlong s) Q a) R along r key.each n in
        let t = meets_to (IsAlong r) Q m z.one z.related (h.meets z.one (contained along z.member)) in
        (t.one, contained (face Q m) t.member, t.holds))),
    λ same. record {
      within = mask_within k Q F m held have lt key.within same;
      meets = λ a n e.
          let z = zip_back (λ (s : Vector) (b : ℕ). Selects (IsAlong s) Q b) R along a key.each (as_member along n) in
          let c = ray_met same z.one z.member in
          meets_from (IsAlong z.one) Q m a c.0 z.related (as_member (face Q m) c.1) c.2 e;
    },
  )

-- the same of a cone as contracts see it
pub canon_seen : (k : ℕ) (inside d : Described) → inside ≡ d → d.k ≡ k → IsCanon inside.k (InCone inside.k inside.rays) inside.rays inside.facets → IsCanon k (InCone k d.rays) d.rays d.facets
canon_seen k inside d view entries canon =
    subst (λ (n : ℕ). IsCanon n (InCone n d.rays) d.rays d.facets) entries (subst (λ (x : Described). IsCanon x.k (InCone x.k x.rays) x.rays x.facets) view canon)

-- a column along the ray is met
pub ray_is_met : (Q : List Vector) (r : Vector) (m a : ℕ) → Selects (IsAlong r) Q a → (bit_and m a ≡ 0 → ⊥) → MeetsRay Q m r
ray_is_met Q r m a selects ne = let t = meets_to (IsAlong r) Q m a selects ne in (t.one, contained (face Q m) t.member, t.holds)

pub ray_is_missed : (Q : List Vector) (r : Vector) (m a : ℕ) → Selects (IsAlong r) Q a → bit_and m a ≡ 0 → MeetsRay Q m r → ⊥
ray_is_missed Q r m a selects none c = meets_from (IsAlong r) Q m a c.0 selects (as_member (face Q m) c.1) c.2 none

-- ---- numbers
-- the cone with number i is that of the face
pub number_here : (fan : Fan) (Q Q' facets : List Vector) (k mask i : ℕ) → k ≡ fan.k → Q' ≡ Q → facets ≡ facets_at fan i → i < length fan.list
    → SameSet (Cut k facets) (face_cone k Q' mask) ↔ IsNumberOf fan Q mask i
number_here fan Q Q' facets k mask i ek eq ef low = (
  λ same. record {
    in_range = low;
    cone = subst (λ (n : ℕ). SameSet (Cut n (facets_at fan i)) (face_cone n Q mask)) ek
        (subst (λ (u : List Vector). SameSet (Cut k (facets_at fan i)) (face_cone k u mask)) eq (subst (λ (u : List Vector). SameSet (Cut k u) (face_cone k Q' mask)) ef same));
  },
  λ is. subst (λ (u : List Vector). SameSet (Cut k u) (face_cone k Q' mask)) (sym ef)
      (subst (λ (u : List Vector). SameSet (Cut k (facets_at fan i)) (face_cone k u mask)) (sym eq) (subst (λ (n : ℕ). SameSet (Cut n (facets_at fan i)) (face_cone n Q mask)) (sym ek) is.cone)),
)

pub untrue : IsTrue false → ⊥
untrue f = cc f
