-- The key of a cone tells whether a face has this cone.
use Rattle.std.proofs.Common.{◌≡◌, ℕ, ◌*◌, ◌<◌, ◌^◌, List, length, refl, sym, ◌∙◌, ap, subst, arith, inl, inr}
use Rattle.std.proofs.Math.IntN.{ℤ, pos, pos-*ℤ-pos}
use Rattle.std.proofs.lemmas.Int.{ints}
use Rattle.std.specs.Prelude.{All}
use Rattle.git_defs.specs.Vectors.{Vector, zero_vector, scale}
use Rattle.git_defs.specs.Cones.{InCone, OnRay, Cut, IsPointed}
use Rattle.git_defs.specs.Faces.{face, face_cone, SameCone}
use Rattle.git_defs.proofs.Closed.{cone_closed, closed_cone, cone_has}
use Rattle.git_defs.proofs.Linear.{length-scale}
use Rattle.git_lemmas.specs.Members.{Member}
use Rattle.git_lemmas.proofs.Members.{member_contains, member_all, all_member, as_member, contained}
use Rattle.git_defs.proofs.Lengths.{OfLength}
use Rattle.git_defs.proofs.Sums.{scale-zero, scale-scale}
use Rattle.git_geometry.proofs.Cuts.{cut_closed}
use Rattle.git_geometry.proofs.Pointed.{no_zero_sum_pointed, pointed_within}
use Rattle.git_geometry.proofs.Primitive.{vanish}
use Rattle.git_geometry.proofs.Rays.{edge_along, ray_of_generator, primitive_of_ray, same_back}
use Rattle.git_geometry.proofs.Squares.{vector_zero_or_not}
use Rattle.git_minors.proofs.Parts.{face_member, face_of_length}
use Rattle.git_ints.specs.Content.{IsPrimitivePart}
use Rattle.git_grading.specs.Gradings.{IsGrading}
use Rattle.git_stages.specs.Short.{IsShort}
use Rattle.git_canon.specs.Canons.{IsCanon}
use Rattle.git_orbit.proofs.Masks.{sel_to, sel_from, meets_to, meets_from, zip_to, zip_back, zip_face}
use Rattle.git_orbit.specs.Keys.{AreZipped, Selects, HasKey}

pub face_short : (k : ℕ) (Q : List Vector) (m : ℕ) → All (IsShort k) Q → All (IsShort k) (face Q m)
face_short k Q m all = member_all (IsShort k) (face Q m) (λ v n. all_member (IsShort k) v Q all (face_member Q m v n))

pub face_pointed : (k : ℕ) (Q : List Vector) (m : ℕ) → OfLength k Q → IsGrading k Q → IsPointed k (InCone k (face Q m))
face_pointed k Q m have g = pointed_within k (InCone k (face Q m)) (InCone k Q)
    (λ x c. closed_cone k (InCone k Q) (face Q m) x (cone_closed k Q have) (λ v n. cone_has k Q v have (face_member Q m v n)) c)
    (no_zero_sum_pointed k Q have g.pointed)

module _ (k : ℕ) (Q W : List Vector) (m0 held : ℕ) (hits : List ℕ) (R F : List Vector) (have : OfLength k Q) (parts : AreZipped IsPrimitivePart Q W)
    (canon : IsCanon k (face_cone k Q m0) R F) (within : Selects (Cut k F) Q held) (along : AreZipped (λ (r : Vector). Selects (λ (w : Vector). w ≡ r) W) R hits) (m : ℕ) where
  have_m : OfLength k (face Q m)
  have_m = face_of_length k Q m have

  parts_m : AreZipped IsPrimitivePart (face Q m) (face W m)
  parts_m = zip_face IsPrimitivePart Q W m parts

  pub same_of_key : HasKey held hits m → SameCone k Q m m0
  same_of_key key x = (
    λ c. (canon.cut_out x).1 (closed_cone k (Cut k F) (face Q m) x (cut_closed k F) (sel_to (Cut k F) Q m held within key.within) c),
    λ c. closed_cone k (InCone k (face Q m)) R x (cone_closed k (face Q m) have_m) (λ r n.
        let z = zip_to (λ (r : Vector). Selects (λ (w : Vector). w ≡ r) W) R hits r along n in
        let t = meets_to (λ (w : Vector). w ≡ r) W m z.one z.related (key.meets z.one (contained hits z.member)) in
        let f = zip_back IsPrimitivePart (face Q m) (face W m) t.one parts_m t.member in
        let p = (f.related).positive in
        subst (InCone k (face Q m)) t.holds ((cone_closed k (face Q m) have_m).quotients (pos (f.related).divisor) t.one (omega (arith, ints, p)) (subst (InCone k (face Q m)) (f.related).is (cone_has k (face Q m) f.one have_m f.member)))) ((canon.generated x).0 c),
  )

  ray_in : SameCone k Q m m0 → (r : Vector) → Member r R → Member r (face W m)
  ray_in same r n =
      let e = ((canon.are_rays).each r).0 (member_contains r R n) in
      let edge = edge_along k (face_cone k Q m0) (face_cone k Q m) r (same_back (face_cone k Q m) (face_cone k Q m0) same) e.edge in
      let on = ray_of_generator k (face_cone k Q m) (face Q m) r (cone_closed k (face Q m) have_m) (λ v i. cone_has k (face Q m) v have_m i) edge edge.member in
      let a = on.one in
      let in_face = as_member (face Q m) on.member in
      let la = have_m.each a in_face in
      elim (vector_zero_or_not k a la) [
        | inl z ↦ absurd (e.edge.nonzero (vanish k (on.on).multiple r (on.on).positive ((on.on).same ∙ ap (scale (pos (on.on).times)) z ∙ scale-zero (pos (on.on).times) k)))
        | inr some ↦ (
            let q = zip_to IsPrimitivePart (face Q m) (face W m) a parts_m in_face in
            let x = q.one in
            let part = q.related in
            let o : OnRay r x = record {
              multiple = (on.on).multiple;
              times = (on.on).times * part.divisor;
              positive = (on.on).positive;
              same = (on.on).same ∙ ap (scale (pos (on.on).times)) part.is ∙ scale-scale (pos (on.on).times) (pos part.divisor) x ∙ ap (λ (z : ℤ). scale z x) (pos-*ℤ-pos (on.on).times part.divisor);
            } in
            let lx : length x ≡ k = sym (length-scale (pos part.divisor) x) ∙ ap length (sym part.is) ∙ la in
            let is : r ≡ x = primitive_of_ray k x r lx e.edge.nonzero (part.primitive (λ z. some (z ∙ ap zero_vector la))) e.primitive o in
            subst (λ (u : Vector). Member u (face W m)) (sym is) q.member)
      ]

  pub key_of_same : m < 2 ^ length Q → SameCone k Q m m0 → HasKey held hits m
  key_of_same lt same = record {
    within = sel_from (Cut k F) Q m held lt within (λ v n. (canon.cut_out v).0 ((same v).0 (cone_has k (face Q m) v have_m n)));
    meets = λ a n e.
        let z = zip_back (λ (r : Vector). Selects (λ (w : Vector). w ≡ r) W) R hits a along (as_member hits n) in
        meets_from (λ (w : Vector). w ≡ z.one) W m a z.one z.related (ray_in same z.one z.member) refl e;
  }
