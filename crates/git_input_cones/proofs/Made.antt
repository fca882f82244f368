-- What is made of the masks of the full a-faces.
use Rattle.std.proofs.Common.{◌≡◌, List, ℕ, Result, Ok, Err}
use Rattle.std.specs.Prelude.{Contains, IfErr, IfOk}
use Rattle.git_grading.specs.Gradings.{IsGrading}
use Rattle.git_orbit.specs.Orbits.{AreOrbitCones, Fan, IsNewFault}
use Rattle.git_orbit.specs.declared.orbit.ConesFault.{ConesFault}
use Rattle.git_input.specs.Inputs.{InputValue}
use Rattle.git_ideals.specs.Faces.{IsAFace}
use Rattle.git_chamber.specs.Views.{AreConesOf}
use Rattle.git_replies.specs.Cases.{Passes}
use Rattle.git_answers.specs.Verdicts.{whole_face}
use Rattle.git_answers.specs.Fan.{IsFanOf, wide_cone}
use Rattle.git_input_cones.specs.InputCones.{IsWideFault}
use Rattle.git_input_cones.proofs.Masks.{AreMasks, cones_of_a_faces, first_wide, none_wide, whole_is_among}

module _ (v : InputValue) (masks : List ℕ) (are : AreMasks v masks) where
  pub fan_is : (r : Result Fan ConesFault) → IfOk r (λ c. c.k ≡ v.degrees.k) → IfOk r (λ c. AreOrbitCones v.degrees.k v.degrees.columns (Contains masks) c.list) → IfOk r (IsFanOf v)
  fan_is (Ok fan) k cones = record { k = k; cones = cones_of_a_faces v masks are fan.list cones }
  fan_is (Err f) k cones = tt

  pub is_narrow : IsGrading v.degrees.k v.degrees.columns → (r : Result Fan ConesFault) → IfOk r (λ c. AreOrbitCones v.degrees.k v.degrees.columns (Contains masks) c.list) → IfOk r (λ c. Passes (wide_cone v))
  is_narrow g (Ok fan) cones = none_wide v masks are g fan.list cones
  is_narrow g (Err f) cones = tt

  pub with_whole : IsGrading v.degrees.k v.degrees.columns → (r : Result Fan ConesFault) → IfOk r (λ c. AreOrbitCones v.degrees.k v.degrees.columns (Contains masks) c.list)
      → IsAFace v.generators (whole_face v) → IfOk r (λ c. AreConesOf v.degrees.k v.degrees.columns c.list)
  with_whole g (Ok fan) cones a = record {
    masks = masks;
    faces = are.faces;
    whole = whole_is_among v masks are g a;
    cones = cones;
  }
  with_whole g (Err f) cones a = tt

  pub is_first_wide : (r : Result Fan ConesFault) → IfErr r (λ f. IsNewFault v.degrees.k v.degrees.columns (Contains masks) f) → IfErr r (IsWideFault v)
  is_first_wide (Ok fan) h = tt
  is_first_wide (Err f) h = first_wide v masks are f h
