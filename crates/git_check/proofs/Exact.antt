-- All that is asked holds exactly of the input's listing with one accepted certificate for each full face.
use Rattle.std.proofs.Common.{◌⊎◌, ℕ, List, inl, inr, length, map, refl, subst, sym, ◌∙◌}
use Rattle.std.specs.Prelude.{◌↔◌}
use Rattle.git_defs.specs.Faces.{face}
use Rattle.git_stages.proofs.Uniqueness.{wide_not_never}
use Rattle.git_grading.specs.Gradings.{IsGrading}
use Rattle.git_machine.specs.Signatures.{Signature}
use Rattle.git_orbit.specs.Orbits.{Fan}
use Rattle.git_input.specs.Inputs.{InputValue}
use Rattle.git_ideals.specs.Faces.{IsAFace}
use Rattle.git_listing.specs.Listings.{FitsVersion, Listing}
use Rattle.git_certtext.specs.Blocks.{Block, Cert, free, monomial}
use Rattle.git_answers.specs.Verdicts.{IsFullFace, whole_face}
use Rattle.git_base.specs.declared.status.Status.TheVariants.{Wide}
use Rattle.git_chamber.specs.Listings.{IsListing}
use Rattle.git_replies.specs.Cases.{Passes, says}
use Rattle.git_replies.specs.Lines.{wide_face_text}
use Rattle.git_answers.specs.Fan.{wide_cone}
use Rattle.git_answers.proofs.OneFan.{opening_along}
use Rattle.git_asked.specs.declared.finding.Reason.TheVariants.{Shape, WideCone}
use Rattle.git_asked.specs.Asks.{IsTrueListing}
use Rattle.git_asked.proofs.Families.{exactly as listed_exactly}
use Rattle.git_asked.proofs.Places.{all_at, map_from, place_of}
use Rattle.git_input_cones.proofs.Masks.{narrow_faces}
use Rattle.git_input_cones.proofs.Openings.{HasOpening, narrow_fan, wide_or_opens}
use Rattle.git_check_faces.specs.Faces.{IsAccepted, IsFreeCert}
use Rattle.git_check_faces.specs.Laws.{AreAccepted}
use Rattle.git_check_faces.proofs.Exact.{exactly, kind_tells}
use Rattle.git_check.specs.Texts.{AllHold, AsksText}
use Rattle.git_check.specs.Checks.{IsInputListing, IsTrueOf, IsValid}
use Rattle.git_check.proofs.Families.{faces_hold, finds_asked, from_listing, to_listing}

free_decided : (cert : Cert) → IsFreeCert cert ⊎ (IsFreeCert cert → ⊥)
free_decided (monomial power cofactors) = inr (λ f. f)
free_decided (free members) = inl tt

-- accepted certificates decide which full faces are a-faces
pub decide : (v : InputValue) (bs : List Block) → AreAccepted v bs → (m : ℕ) → IsFullFace v m → IsAFace v.generators m ⊎ (IsAFace v.generators m → ⊥)
decide v bs are m full =
    let p = place_of (map (λ (b : Block). b.mask) bs) m ((are.full m).1 full) in
    let b = map_from (λ (b : Block). b.mask) bs p.0 m p.1 in
    let kind = kind_tells v.generators b.0.mask b.0.cert (all_at (λ (b : Block). IsAccepted v.generators b.mask b.cert) bs p.0 b.0 are.each b.1) in
    elim (free_decided b.0.cert) [
      | inl f ↦ inl (subst (IsAFace v.generators) b.2 (kind.0 f))
      | inr never ↦ inr (λ a. never (kind.1 (subst (IsAFace v.generators) (sym b.2) a)))
    ]

module _ (v : InputValue) (l : Listing) (bs : List Block) (g : IsGrading v.degrees.k v.degrees.columns) (version : FitsVersion l) where
  -- ---- where all that is asked holds
  module _ (h : AllHold (AsksText v l bs)) where
    certs : AreAccepted v bs × IsAFace v.generators (whole_face v)
    certs = (exactly v bs g).0 (faces_hold v l bs h)

    listing : HasOpening v → IsTrueOf v l
    listing o = elim ((listed_exactly o.fan o.first (length v.degrees.columns) l o.is_fan o.legal version).0 (λ r line. to_listing v l bs (h Shape 2 refl) r line (h r line) o.fan o.first o.opening)) [
      | inl now ↦ inl (record { whole = certs.1; fan = o.fan; listing = record { first = o.first; opening = o.opening; listing = now } })
      | inr old ↦ inr (old.0, record { whole = certs.1; fan = o.fan; listing = record { first = o.first; opening = o.opening; listing = old.1 } }, old.2, old.3)
    ]

    valid : IsValid v l bs
    valid = elim (wide_or_opens v g (decide v bs certs.0) certs.1) [
      | inl w ↦ (
          let mask = w.0 in
          let at = w.1 in
          absurd (wide_not_never v.degrees.k (face v.degrees.columns mask) at.stage at.what w.2.1.1 (h WideCone 3 refl mask w.2.1.0)))
      | inr o ↦ record { certificates = certs.0; listing = listing o.1 }
    ]

  -- ---- where it is valid
  module _ (is : AreAccepted v bs) where
    opened : (m : Listing) → IsInputListing v m → Passes (wide_cone v) × HasOpening v
    opened m input = elim (wide_or_opens v g (decide v bs is) input.whole) [
      | inl w ↦ absurd (narrow_fan v g (decide v bs is) input.fan input.listing.opening.is_fan (says Wide (wide_face_text w.0 w.1)) (w.0, w.2.0, (w.1, w.2.1, refl)))
      | inr o ↦ o
    ]

    listed : (m : Listing) (input : IsInputListing v m) (o : HasOpening v) → IsListing o.fan o.first (length v.degrees.columns) m
    listed m input o = opening_along v input.fan o.fan input.listing.first o.first (λ (f : Fan) (s : Signature). IsListing f s (length v.degrees.columns) m) input.listing.opening o.opening input.listing.listing

    true_at : IsTrueOf v l → (p : Passes (wide_cone v) × HasOpening v) × IsAFace v.generators (whole_face v) × IsTrueListing p.1.fan p.1.first (length v.degrees.columns) l
    true_at (inl now) = let o = opened l now in (o, now.whole, inl (listed l now o.1))
    true_at (inr old) = let o = opened old.0 old.1 in (o, old.1.whole, inr (old.0, listed old.0 old.1 o.1, old.2, old.3))

    asks : IsTrueOf v l → AllHold (AsksText v l bs)
    asks t =
        let a = true_at t in
        let o = a.0.1 in
        let all = (listed_exactly o.fan o.first (length v.degrees.columns) l o.is_fan o.legal version).1 a.2 in
        let shape = all Shape 2 refl in
        (λ r line. from_listing v l bs (shape.0 ∙ o.opening.is_fan.k, shape.1) ((exactly v bs g).1 (is, a.1)) (narrow_faces v g a.0.0) r line (finds_asked v l o.fan o.first o.opening r line (all r line)))

pub valid_exactly : (v : InputValue) (l : Listing) (bs : List Block) → IsGrading v.degrees.k v.degrees.columns → FitsVersion l → AllHold (AsksText v l bs) ↔ IsValid v l bs
valid_exactly v l bs g version = (λ h. valid v l bs g version h, λ is. asks v l bs g version is.certificates is.listing)
