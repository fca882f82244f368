-- The masks of the full a-faces, and their cones.
use Rattle.std.proofs.Common.{◌⊎◌, ℕ, ◌^◌, ◌<◌, List, length, inl, inr, refl, suc, zero, arith}
use Rattle.std.proofs.lemmas.Bool.{cases_lt}
use Rattle.std.specs.Prelude.{◌↔◌, Contains}
use Rattle.git_defs.specs.Faces.{face, IsFullDimensional, IsLeastMask}
use Rattle.git_defs.proofs.Lengths.{all_of_length, of_length_all}
use Rattle.git_minors.proofs.Parts.{face_of_length}
use Rattle.git_stages.specs.Wide.{NeverWide, IsWideAt}
use Rattle.git_stages.specs.declared.wide.WideAt.{WideAt}
use Rattle.git_stages.proofs.Uniqueness.{wide_not_never}
use Rattle.git_stages.proofs.Decided.{wide_decided}
use Rattle.git_grading.specs.Gradings.{IsGrading}
use Rattle.git_orbit.specs.Orbits.{AreFaces, AreOrbitCones, IsNewFault}
use Rattle.git_orbit.specs.declared.orbit.OrbitCone.{OrbitCone}
use Rattle.git_orbit.specs.declared.orbit.ConesFault.{ConesFault}
use Rattle.git_orbit.specs.declared.orbit.ConesFault.TheVariants as fault
use Rattle.git_orbit.proofs.Accepted.{cones_along, fault_along}
use Rattle.git_orbit.proofs.Settled.{not_both}
use Rattle.git_input.specs.Inputs.{InputValue}
use Rattle.git_ideals.specs.Faces.{IsAFace}
use Rattle.git_base.specs.declared.status.Status.TheVariants.{Wide}
use Rattle.git_replies.specs.Cases.{Passes, says}
use Rattle.git_replies.specs.Lines.{wide_face_text}
use Rattle.git_answers.specs.Verdicts.{whole_face}
use Rattle.git_answers.specs.Fan.{IsWideFace, wide_cone}
use Rattle.git_answers.proofs.OneFan.{whole_full}
use Rattle.git_input_cones.specs.InputCones.{IsWideFault}

-- the masks of the full a-faces, descending
pub record AreMasks (v : InputValue) (masks : List ℕ) : Type 0 where
  pub faces : AreFaces v.degrees.k v.degrees.columns masks
  pub same : (m : ℕ) → m < 2 ^ length v.degrees.columns → IsFullDimensional v.degrees.k v.degrees.columns m → Contains masks m ↔ IsAFace v.generators m

pub narrow_or_wide : (v : InputValue) → IsGrading v.degrees.k v.degrees.columns → (m : ℕ) → IsLeastMask v.degrees.k v.degrees.columns (IsAFace v.generators) m
    → NeverWide v.degrees.k (face v.degrees.columns m) ⊎ ((at : WideAt) × IsWideAt v.degrees.k (face v.degrees.columns m) at.stage at.what)
narrow_or_wide v g m least = elim (wide_decided v.degrees.k (face v.degrees.columns m) (of_length_all v.degrees.k (face v.degrees.columns m) (face_of_length v.degrees.k v.degrees.columns m (all_of_length v.degrees.k v.degrees.columns g.matrix.lengths))) least.is_face.full) [
  | inl n ↦ inl n
  | inr w ↦ inr (record { stage = w.0; what = w.1 }, w.2)
]

-- where no first wide mask is named, none is wide
pub narrow_faces : (v : InputValue) → IsGrading v.degrees.k v.degrees.columns → Passes (wide_cone v) → (mask : ℕ) → IsLeastMask v.degrees.k v.degrees.columns (IsAFace v.generators) mask
    → NeverWide v.degrees.k (face v.degrees.columns mask)
narrow_faces v g passes mask = below (suc mask) mask (omega arith) where
  below : (n m : ℕ) → m < n → IsLeastMask v.degrees.k v.degrees.columns (IsAFace v.generators) m → NeverWide v.degrees.k (face v.degrees.columns m)
  below zero m lt least = absurd (omega (arith, lt))
  below (suc n) m lt least = elim (narrow_or_wide v g m least) [
    | inl narrow ↦ narrow
    | inr w ↦ absurd (passes (says Wide (wide_face_text m w.0)) (
      m,
      record {
        holds = (w.0, (least, w.1));
        first = λ j p. elim (cases_lt j m) [
          | inl less ↦ absurd (wide_not_never v.degrees.k (face v.degrees.columns j) p.0.stage p.0.what p.1.1 (below n j (omega (arith, less, lt)) p.1.0))
          | inr up ↦ up
        ];
      },
      (w.0, (least, w.1), refl),
    ))
  ]

module _ (v : InputValue) (masks : List ℕ) (are : AreMasks v masks) where
  pub turned : (m : ℕ) → m < 2 ^ length v.degrees.columns → IsFullDimensional v.degrees.k v.degrees.columns m → IsAFace v.generators m ↔ Contains masks m
  turned m low full = let s = are.same m low full in (s.1, s.0)

  -- the whole face is among them where it is an a-face
  pub whole_is_among : IsGrading v.degrees.k v.degrees.columns → IsAFace v.generators (whole_face v) → Contains masks (whole_face v)
  whole_is_among g a = let f = whole_full v g in (are.same (whole_face v) f.in_range f.full).1 a

  pub cones_of_a_faces : (list : List OrbitCone) → AreOrbitCones v.degrees.k v.degrees.columns (Contains masks) list → AreOrbitCones v.degrees.k v.degrees.columns (IsAFace v.generators) list
  cones_of_a_faces list c = cones_along v.degrees.k v.degrees.columns (Contains masks) (IsAFace v.generators) are.same list c

  -- the least wide mask is the first of those of the a-faces
  pub first_wide : (f : ConesFault) → IsNewFault v.degrees.k v.degrees.columns (Contains masks) f → IsWideFault v f
  first_wide fault.NoMemory given = tt
  first_wide (fault.Wide mask at) given =
      let f = fault_along v.degrees.k v.degrees.columns (Contains masks) (IsAFace v.generators) are.same mask at given in
      let here : IsWideFace v mask at = (f.0.is_least, f.1) in (
        record {
          holds = (at, here);
          first = λ m p. elim (cases_lt m mask) [
            | inl below ↦ absurd (wide_not_never v.degrees.k (face v.degrees.columns m) p.0.stage p.0.what p.1.1 (f.0.first m p.1.0 below))
            | inr up ↦ up
          ];
        },
        here,
      )

  -- where cones are made, none is wide
  pub none_wide : IsGrading v.degrees.k v.degrees.columns → (list : List OrbitCone) → AreOrbitCones v.degrees.k v.degrees.columns (Contains masks) list → Passes (wide_cone v)
  none_wide g list c o h =
      let mask = h.0 in
      let given : IsNewFault v.degrees.k v.degrees.columns (IsAFace v.generators) (fault.Wide mask h.2.0) = (
        record {
          is_least = h.2.1.0;
          first = λ m least low. elim (narrow_or_wide v g m least) [ inl narrow ↦ narrow | inr w ↦ (let up = h.1.first m (w.0, (least, w.1)) in absurd (omega (arith, up, low))) ];
        },
        h.2.1.1,
      ) in
      not_both v.degrees.k v.degrees.columns masks g are.faces mask h.2.0 list (fault_along v.degrees.k v.degrees.columns (IsAFace v.generators) (Contains masks) turned mask h.2.0 given) c
