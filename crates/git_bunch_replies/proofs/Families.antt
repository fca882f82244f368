-- The full a-faces of an input and its fan are a family.
use Rattle.std.proofs.Common.{◌≡◌, ◌<◌, ◌^◌, List, length, refl, subst, sym, ℕ}
use Rattle.std.specs.Prelude.{Contains}
use Rattle.git_lemmas.proofs.Members.{all_member, contains_member}
use Rattle.git_defs.specs.Faces.{IsFullDimensional}
use Rattle.git_grading.specs.Gradings.{IsGrading}
use Rattle.git_machine.specs.Signatures.{Signature}
use Rattle.git_orbit.proofs.Accepted.{cones_along}
use Rattle.git_orbit.specs.Orbits.{AreFaces, AreOrbitCones, Fan, IsFan}
use Rattle.git_orbit.specs.Signatures.{IsLegal, IsSignature}
use Rattle.git_chamber.proofs.Firsts.{first_legal}
use Rattle.git_chamber.specs.Chambers.{first_germ}
use Rattle.git_chamber.specs.Views.{IsGraph}
use Rattle.git_ideals.specs.Faces.{IsAFace}
use Rattle.git_input.specs.Inputs.{InputValue}
use Rattle.git_answers.specs.Fan.{IsFanOf, IsOpening}
use Rattle.git_input_cones.proofs.Masks.{AreMasks, turned}
use Rattle.git_bunch.specs.Stable.{AreDescending, IsFamily, family}
use Rattle.git_bunch_replies.specs.BunchCases.{IsFullAFace}
use Rattle.git_defs.specs.Vectors.{Vector}
use Rattle.git_facecert.specs.declared.certificate.FaceVerdict.{FaceVerdict}
use Rattle.git_listing.specs.Listings.{Listing}
use Rattle.git_chamber.specs.Views.{Graph}
use Rattle.git_replies.specs.Cases.{Outcome}
use Rattle.git_answers.specs.Fan.{Options}
use Rattle.git_input_cones.specs.InputCones.{free_masks_of}
use Rattle.git_input_cones.proofs.Accepted.{free_are_masks}
use Rattle.git_listed_cones.specs.ListedCones.{HasCones}
use Rattle.git_listed_cones.proofs.Cones.{first_is_legal, is_fan}
use Rattle.git_bunch.specs.Stable.{Family}
use Rattle.git_bunch.specs.Bunches.{IsCrossedListing}
use Rattle.git_bunch_replies.specs.BunchCases.{bunch_case, tells}
use Rattle.git_bunch_replies.proofs.Crossed.{crossed_listing}

-- ---- the family
module _ (v : InputValue) (fan : Fan) (free : List ℕ) (is : IsFanOf v fan) (are : AreMasks v free) where
  pub family_is : IsFamily (family fan v.degrees.columns free)
  family_is = record {
    faces = subst (λ (n : ℕ). AreFaces n v.degrees.columns free) (sym is.k) are.faces;
    cones = subst (λ (n : ℕ). AreOrbitCones n v.degrees.columns (Contains free) fan.list) (sym is.k)
        (cones_along v.degrees.k v.degrees.columns (IsAFace v.generators) (Contains free) (turned v free are) fan.list is.cones);
  }

  pub falls : AreDescending (IsFullAFace v) free
  falls = record {
    descending = are.faces.descending;
    each = λ m. (
      λ c.
          let low = all_member (λ (n : ℕ). n < 2 ^ length v.degrees.columns) m free are.faces.in_range (contains_member m free c) in
          let full = all_member (IsFullDimensional v.degrees.k v.degrees.columns) m free are.faces.full (contains_member m free c) in
          record { in_range = low; full = full; is_accepted = (are.same m low full).0 c },
      λ p. (are.same m p.in_range p.full).1 p.is_accepted,
    );
  }

  module _ (g : IsGrading v.degrees.k v.degrees.columns) where
    grading : IsGrading fan.k v.degrees.columns
    grading = subst (λ (n : ℕ). IsGrading n v.degrees.columns) (sym is.k) g

    pub fan_is : IsFan fan.k fan.list
    fan_is = record { columns = v.degrees.columns; grading = grading; masks = free; faces = family_is.faces; cones = family_is.cones }

-- ---- the first signature
pub legal_first : (v : InputValue) (fan : Fan) (first : Signature) → IsGraph (record { fan = fan; columns = v.degrees.columns }) → IsOpening v fan first → IsLegal fan first
legal_first v fan first graph opening = first_legal (record { fan = fan; columns = v.degrees.columns }) graph first
    (subst (λ (n : ℕ). IsSignature fan (first_germ n v.degrees.columns) first) (sym opening.is_fan.k) opening.is_first)

-- ---- an input whose chambers are listed
module _ (v : InputValue) (n : Options) (graded : IsGrading v.degrees.k v.degrees.columns) (g : Graph) (faces : List FaceVerdict) (l : Listing) (h : HasCones v n g faces l) where
  masks_are : AreMasks v (free_masks_of faces)
  masks_are = free_are_masks v faces h.listed.verdicts (free_masks_of faces) refl

  pub crossed : IsCrossedListing g.fan l.chambers
  crossed = crossed_listing g.fan (is_fan v n graded g faces l h.listed) h.listed.listing.first (length v.degrees.columns) l (first_is_legal v n graded g faces l h.listed) h.listed.listing.listing

  pub told : (fan : Fan) (columns : List Vector) (free : List ℕ) (o : Outcome) → fan ≡ g.fan → columns ≡ v.degrees.columns → free ≡ free_masks_of faces → bunch_case (family fan columns free) l o → tells v g.fan l o
  told fan columns free o same_fan same_columns same t = (
    free_masks_of faces,
    falls v g.fan (free_masks_of faces) h.listed.graph.fan masks_are,
    subst (λ (F : Family). bunch_case F l o) (λ i. family (same_fan i) (same_columns i) (same i)) t,
  )
