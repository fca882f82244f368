-- Something is answered of a listing and certificates.
use Rattle.std.proofs.Common.{◌≡◌, ◌∙◌, List, All, inl, inr, length, sym, subst}
use Rattle.std.specs.Prelude.{Option, Some, None, ℕ}
use Rattle.git_grading.specs.Gradings.{IsGrading}
use Rattle.git_input.specs.Inputs.{InputValue}
use Rattle.git_ideals.specs.Faces.{IsAFace}
use Rattle.git_listing.specs.Limits.{FitsListing}
use Rattle.git_listing.specs.Listings.{Listing}
use Rattle.git_listing.proofs.ReadingLaws.{may_be_printed}
use Rattle.git_certtext.specs.Blocks.{Block, FitsCerts}
use Rattle.git_answers.specs.Verdicts.{whole_face}
use Rattle.git_answers.specs.Fan.{wide_cone}
use Rattle.git_replies.specs.Cases.{Passes}
use Rattle.git_asked.specs.declared.finding.Finding.{Finding}
use Rattle.git_asked.specs.Findings.{Finds}
use Rattle.git_input_cones.proofs.Masks.{narrow_faces}
use Rattle.git_input_cones.proofs.Openings.{HasOpening, wide_or_opens}
use Rattle.git_check_chambers.specs.Judged.{IsSizedChamber}
use Rattle.git_check_chambers.proofs.Sizes.{all_sized}
use Rattle.git_check_faces.specs.Faces.{AsksFaces}
use Rattle.git_check_faces.specs.Laws.{AreAccepted}
use Rattle.git_check_faces.proofs.Exact.{exactly}
use Rattle.git_check.specs.Texts.{AllHold, AsksText, IsOfSizes}
use Rattle.git_check.specs.Checks.{IsChecked, checked_of}
use Rattle.git_check.specs.declared.checked.Checked.{Checked}
use Rattle.git_check.proofs.Exact.{decide}
use Rattle.git_check.proofs.Families.{face_fails, finds_for_all, listing_finds, shape_fails, wide_fails}
use Rattle.git_check.proofs.Judged.{is_checked}
use Rattle.git_check_laws.proofs.Certs.{faces_finding}
use Rattle.git_check_laws.proofs.Chambers.{HasFinding, listing_finding}
use Rattle.git_check_laws.proofs.Decisions.{both_decided, nat_decided}

module _ (v : InputValue) (l : Listing) (bs : List Block) (g : IsGrading v.degrees.k v.degrees.columns) (fits : FitsListing l) (sizes : IsOfSizes v l) where
  -- where all that is asked of the certificates holds
  module _ (faces : AllHold (AsksFaces v bs)) where
    certs : AreAccepted v bs
    certs = ((exactly v bs g).0 faces).0

    whole : IsAFace v.generators (whole_face v)
    whole = ((exactly v bs g).0 faces).1

    opened : Passes (wide_cone v) → HasOpening v → HasFinding (AsksText v l bs)
    opened narrow o =
        let rows : l.k ≡ o.fan.k = sizes.0 ∙ sym o.opening.is_fan.k in
        let sized = subst (λ (k : ℕ). All (IsSizedChamber k) l.chambers) rows (all_sized l fits) in
        let found = listing_finding o.fan o.is_fan o.first (length v.degrees.columns) l rows sizes.1 sized in
        (found.0, listing_finds v l bs sizes faces (narrow_faces v g narrow) found.0 (finds_for_all v l o.fan o.first found.0 o.opening found.1))

    after_faces : HasFinding (AsksText v l bs)
    after_faces = elim (wide_or_opens v g (decide v bs certs) whole) [
      | inl w ↦ (Some _, wide_fails v l bs sizes faces w.0 w.1 w.2.1)
      | inr o ↦ opened o.0 o.1
    ]

  by_faces : (o : Option Finding) → Finds (AsksFaces v bs) o → HasFinding (AsksText v l bs)
  by_faces None h = after_faces h
  by_faces (Some f) h = (Some f, face_fails v l bs sizes f.reason f.line h)

module _ (v : InputValue) (l : Listing) (bs : List Block) (g : IsGrading v.degrees.k v.degrees.columns) (fits : FitsListing l) (certs_fit : FitsCerts (length v.degrees.columns) bs) where
  text_finding : HasFinding (AsksText v l bs)
  text_finding = elim (both_decided (nat_decided l.k v.degrees.k) (nat_decided l.r (length v.degrees.columns))) [
    | inr never ↦ (Some _, shape_fails v l bs never)
    | inl sizes ↦ (let faces = faces_finding v (length v.degrees.columns) bs g certs_fit in by_faces v l bs g fits sizes faces.0 faces.1)
  ]

  pub some_answer : (c : Checked) × IsChecked v l bs c
  some_answer = let found = text_finding in (checked_of found.0, is_checked v l bs g (may_be_printed l fits) found.0 found.1)
