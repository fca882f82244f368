-- Where it is decided which full faces are a-faces: a cone is wide, or the input has a fan and a first signature.
use Rattle.std.proofs.Common.{◌⊎◌, ℕ, ◌^◌, ◌<◌, List, [], ◌∷◌, length, inl, inr, refl, sym, subst}
use Rattle.std.specs.Prelude.{Contains}
use Rattle.git_lemmas.specs.Members.{Member}
use Rattle.git_lemmas.proofs.Members.{contains_member, member_contains, member_all}
use Rattle.git_lemmas.proofs.Sorting.{Ascends, ascends_of_pairs, pairs_of_ascends}
use Rattle.git_defs.specs.Vectors.{AllOfLength, vector_sum}
use Rattle.git_defs.specs.Faces.{IsFullDimensional}
use Rattle.git_defs.proofs.Lengths.{all_of_length, more_of_length, none_of_length, of_length_all}
use Rattle.git_geometry.proofs.Inside.{length-vector_sum}
use Rattle.git_stages.specs.declared.wide.WideAt.{WideAt}
use Rattle.git_grading.specs.Gradings.{IsGrading}
use Rattle.git_machine.specs.Signatures.{Signature}
use Rattle.git_orbit.specs.Orbits.{AreOrbitCones, Fan, IsFan}
use Rattle.git_orbit.specs.Signatures.{IsLegal}
use Rattle.git_orbit.specs.declared.orbit.OrbitCone.{OrbitCone}
use Rattle.git_orbit.specs.declared.orbit.ConesFault.TheVariants.{Wide}
use Rattle.git_orbit.proofs.Accepted.{cones_along}
use Rattle.git_orbit.proofs.Existence.{a_signature}
use Rattle.git_orbit.proofs.Settled.{cones_or_wide}
use Rattle.git_chamber.specs.Chambers.{first_germ}
use Rattle.git_chamber.specs.Views.{IsGraph}
use Rattle.git_chamber.proofs.Firsts.{first_legal}
use Rattle.git_chamber.proofs.UnitGerms.{of_length_units}
use Rattle.git_input.specs.Inputs.{InputValue}
use Rattle.git_ideals.specs.Faces.{IsAFace}
use Rattle.git_faces.specs.FullFaces.{AreFullFaces}
use Rattle.git_faces.proofs.FullLists.{some as full_list}
use Rattle.git_replies.specs.Cases.{Passes}
use Rattle.git_answers.specs.Verdicts.{IsFullFace, whole_face}
use Rattle.git_answers.specs.Fan.{IsFanOf, IsOpening, wide_cone}
use Rattle.git_input_cones.specs.InputCones.{IsWideFault}
use Rattle.git_input_cones.proofs.Masks.{AreMasks, cones_of_a_faces, first_wide, none_wide, turned, whole_is_among}

-- ---- those of a list that are accepted
record Kept (P : ℕ → Type 0) (ms us : List ℕ) : Type 0 where
  falls : Ascends (λ (m n : ℕ). n < m) us
  to : (m : ℕ) → Member m us → Member m ms × P m
  back : (m : ℕ) → Member m ms → P m → Member m us

kept : (P : ℕ → Type 0) (ms : List ℕ) → Ascends (λ (m n : ℕ). n < m) ms → ((m : ℕ) → Member m ms → P m ⊎ (P m → ⊥)) → (us : List ℕ) × Kept P ms us
kept P [] falls decide = ([], record { falls = tt; to = λ m o. absurd o; back = λ m o. absurd o })
kept P (m ∷ ms) falls decide = by (decide m (inl refl)) (kept P ms falls.1 (λ n o. decide n (inr o))) where
  by : P m ⊎ (P m → ⊥) → (us : List ℕ) × Kept P ms us → (us : List ℕ) × Kept P (m ∷ ms) us
  by (inl p) rest = (m ∷ rest.0, record { falls = ((λ n o. falls.0 n (rest.1.to n o).0), rest.1.falls); to = to; back = back }) where
    to : (n : ℕ) → Member n (m ∷ rest.0) → Member n (m ∷ ms) × P n
    to n (inl e) = (inl e, subst P e p)
    to n (inr o) = let t = rest.1.to n o in (inr t.0, t.1)

    back : (n : ℕ) → Member n (m ∷ ms) → P n → Member n (m ∷ rest.0)
    back n (inl e) q = inl e
    back n (inr o) q = inr (rest.1.back n o q)
  by (inr out) rest = (rest.0, record { falls = rest.1.falls; to = λ n o. (let t = rest.1.to n o in (inr t.0, t.1)); back = back }) where
    back : (n : ℕ) → Member n (m ∷ ms) → P n → Member n rest.0
    back n (inl e) q = absurd (out (subst P (sym e) q))
    back n (inr o) q = rest.1.back n o q

-- the input's cones and columns, and the signature with which all begins
pub record HasOpening (v : InputValue) : Type 0 where
  pub fan : Fan
  pub graph : IsGraph (record { fan = fan; columns = v.degrees.columns })
  pub is_fan : IsFan fan.k fan.list
  pub first : Signature
  pub opening : IsOpening v fan first
  pub legal : IsLegal fan first

module _ (v : InputValue) (g : IsGrading v.degrees.k v.degrees.columns) (decide : (m : ℕ) → IsFullFace v m → IsAFace v.generators m ⊎ (IsAFace v.generators m → ⊥)) where
  full : (masks : List ℕ) × AreFullFaces v.degrees.k v.degrees.columns masks
  full = full_list v.degrees.k v.degrees.columns g.matrix.lengths

  is_full : (m : ℕ) → Member m full.0 → IsFullFace v m
  is_full m o = (full.1.each m).0 (member_contains m full.0 o)

  among : (m : ℕ) → IsFullFace v m → Member m full.0
  among m f = contains_member m full.0 ((full.1.each m).1 f)

  us : (us : List ℕ) × Kept (IsAFace v.generators) full.0 us
  us = kept (IsAFace v.generators) full.0 (ascends_of_pairs (λ (m n : ℕ). n < m) full.0 full.1.descending) (λ m o. decide m (is_full m o))

  masks : AreMasks v us.0
  masks = record {
    faces = record {
      in_range = member_all (λ m. m < 2 ^ length v.degrees.columns) us.0 (λ m o. (is_full m (us.1.to m o).0).in_range);
      full = member_all (IsFullDimensional v.degrees.k v.degrees.columns) us.0 (λ m o. (is_full m (us.1.to m o).0).full);
      descending = pairs_of_ascends (λ (m n : ℕ). n < m) us.0 us.1.falls;
    };
    same = λ m low f. (λ c. (us.1.to m (contains_member m us.0 c)).1, λ b. member_contains m us.0 (us.1.back m (among m (record { in_range = low; full = f; is_accepted = tt })) b));
  }

  sum_long : AllOfLength v.degrees.k (vector_sum v.degrees.k v.degrees.columns ∷ [])
  sum_long = of_length_all v.degrees.k (vector_sum v.degrees.k v.degrees.columns ∷ [])
      (more_of_length v.degrees.k (vector_sum v.degrees.k v.degrees.columns) [] (length-vector_sum v.degrees.k v.degrees.columns (all_of_length v.degrees.k v.degrees.columns g.matrix.lengths)) (none_of_length v.degrees.k))

  module _ (a : IsAFace v.generators (whole_face v)) (list : List OrbitCone) (cones : AreOrbitCones v.degrees.k v.degrees.columns (Contains us.0) list) where
    graph : IsGraph (record { fan = record { k = v.degrees.k; list = list }; columns = v.degrees.columns })
    graph = record { grading = g; cones = record { masks = us.0; faces = masks.faces; whole = whole_is_among v us.0 masks g a; cones = cones } }

    has : HasOpening v
    has =
        let f : Fan = record { k = v.degrees.k; list = list } in
        let first = a_signature f (first_germ v.degrees.k v.degrees.columns) (of_length_units v.degrees.k (vector_sum v.degrees.k v.degrees.columns ∷ []) sum_long) in
        record {
          fan = f;
          graph = graph;
          is_fan = record { columns = v.degrees.columns; grading = g; masks = us.0; faces = masks.faces; cones = cones };
          first = first.0;
          opening = record { is_fan = record { k = refl; cones = cones_of_a_faces v us.0 masks list cones }; is_first = first.1 };
          legal = first_legal (record { fan = f; columns = v.degrees.columns }) graph first.0 first.1;
        }

  pub wide_or_opens : IsAFace v.generators (whole_face v) → ((mask : ℕ) × (at : WideAt) × IsWideFault v (Wide mask at)) ⊎ (Passes (wide_cone v) × HasOpening v)
  wide_or_opens a = elim (cones_or_wide v.degrees.k v.degrees.columns us.0 g masks.faces) [
    | inl r ↦ inr (none_wide v us.0 masks g r.0 r.1, has a r.0 r.1)
    | inr r ↦ inl (r.0, r.1, first_wide v us.0 masks (Wide r.0 r.1) r.2)
  ]

  -- where the input has a fan, no cone is wide
  pub narrow_fan : (fan : Fan) → IsFanOf v fan → Passes (wide_cone v)
  narrow_fan fan of = none_wide v us.0 masks g fan.list (cones_along v.degrees.k v.degrees.columns (IsAFace v.generators) (Contains us.0) (turned v us.0 masks) fan.list of.cones)
