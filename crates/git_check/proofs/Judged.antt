-- The first finding of the listing beside the graph of an input's cones; the answer to what is found.
use Rattle.std.proofs.Common.{◌≡◌, ◌∙◌, ℕ, List, Result, Ok, Err, length, refl, subst, sym, ap}
use Rattle.std.specs.Prelude.{◌↔◌, IfOk, Option, Some, None, true, false}
use Rattle.std.specs.Option.{is_some}
use Rattle.git_defs.specs.Vectors.{Vector}
use Rattle.git_grading.specs.Gradings.{IsGrading}
use Rattle.git_machine.specs.Signatures.{Signature}
use Rattle.git_orbit.specs.Orbits.{Fan}
use Rattle.git_orbit.specs.Signatures.{IsSignature}
use Rattle.git_chamber.specs.Chambers.{first_germ}
use Rattle.git_chamber.specs.Views.{Graph}
use Rattle.git_input.specs.Inputs.{InputValue}
use Rattle.git_listing.specs.Listings.{FitsVersion, Listing}
use Rattle.git_ideals.specs.Faces.{IsAFace}
use Rattle.git_facecert.specs.declared.certificate.FaceVerdict.{FaceVerdict}
use Rattle.git_certtext.specs.Blocks.{Block, FitsCerts, blocks_of}
use Rattle.git_answers.specs.Verdicts.{AreVerdicts, whole_face}
use Rattle.git_answers.specs.Fan.{IsFanOf, IsOpening}
use Rattle.git_asked.specs.declared.finding.Reason.{Reason}
use Rattle.git_asked.specs.declared.finding.Finding.{Finding}
use Rattle.git_asked.specs.Asks.{Asks}
use Rattle.git_asked.specs.Findings.{Finds}
use Rattle.git_check_faces.specs.Faces.{AsksFaces}
use Rattle.git_check_faces.proofs.Exact.{accepted_verdicts, exactly}
use Rattle.git_check.specs.Texts.{AllHold, AreNarrow, AsksListing, AsksText, IsOfSizes}
use Rattle.git_check.specs.Checks.{IsChecked, IsValid, checked_of}
use Rattle.git_check.specs.declared.checked.Checked.TheVariants.{Valid}
use Rattle.git_check.proofs.Exact.{valid_exactly}
use Rattle.git_check.proofs.Families.{face_fails, finds_for_all, listing_finds}

-- the graph of the input's cones opens with its first signature
module _ (v : InputValue) (g : Graph) (fan : Fan) (same : g.fan ≡ fan) (columns : g.columns ≡ v.degrees.columns) (of : IsFanOf v fan) (first : Signature) (is : IsSignature g.fan (first_germ g.fan.k g.columns) first) where
  is_of : IsFanOf v g.fan
  is_of = subst (IsFanOf v) (sym same) of

  opening : IsOpening v g.fan first
  opening = record {
    is_fan = is_of;
    is_first = subst (λ (k : ℕ). IsSignature g.fan (first_germ k v.degrees.columns) first) is_of.k (subst (λ (qs : List Vector). IsSignature g.fan (first_germ g.fan.k qs) first) columns is);
  }

  pub listing_found : {E : Type 0} (l : Listing) (r : ℕ) → r ≡ length g.columns → (found : Result (Option Finding) E) → IfOk found (λ o. Finds (Asks g.fan first r l) o) → IfOk found (λ o. Finds (AsksListing v l) o)
  listing_found l r is_r (Ok o) h =
      finds_for_all v l g.fan first o opening (subst (λ (n : ℕ). Finds (Asks g.fan first n l) o) (is_r ∙ ap (λ (qs : List Vector). length qs) columns) h)
  listing_found l r is_r (Err e) h = tt

-- ---- the answer
module _ (v : InputValue) (l : Listing) (bs : List Block) (g : IsGrading v.degrees.k v.degrees.columns) (version : FitsVersion l) where
  pub is_checked : (o : Option Finding) → Finds (AsksText v l bs) o → IsChecked v l bs (checked_of o)
  is_checked None h = (valid_exactly v l bs g version).0 h
  is_checked (Some f) h = (refl, h)

  pub is_valid : (o : Option Finding) → Finds (AsksText v l bs) o → (checked_of o ≡ Valid) ↔ IsValid v l bs
  is_valid None h = (λ e. (valid_exactly v l bs g version).0 h, λ is. refl)
  is_valid (Some f) h = (λ e. absurd (cc e), λ is. absurd (h.fails ((valid_exactly v l bs g version).1 is f.reason f.line)))

-- ---- where the certificates are as they should be
module _ (v : InputValue) (l : Listing) (bs : List Block) (sizes : IsOfSizes v l) (faces : AllHold (AsksFaces v bs)) where
  pub text_found : {E : Type 0} → AreNarrow v → (found : Result (Option Finding) E) → IfOk found (λ o. Finds (AsksListing v l) o) → IfOk found (λ o. Finds (AsksText v l bs) o)
  text_found narrow (Ok o) h = listing_finds v l bs sizes faces narrow o h
  text_found narrow (Err e) h = tt

-- ---- what is found of the certificates
none_found : (asks : Reason → ℕ → Type 0) (o : Option Finding) → is_some o ≡ false → Finds asks o → AllHold asks
none_found asks None e h = h
none_found asks (Some f) e h = absurd (cc e)

module _ (v : InputValue) (l : Listing) (bs : List Block) (sizes : IsOfSizes v l) where
  pub face_found : (o : Option Finding) → is_some o ≡ true → Finds (AsksFaces v bs) o → Finds (AsksText v l bs) o
  face_found None e h = absurd (cc e)
  face_found (Some f) e h = face_fails v l bs sizes f.reason f.line h

module _ (v : InputValue) (vs : List FaceVerdict) (fits : FitsCerts (length v.degrees.columns) (blocks_of vs)) (g : IsGrading v.degrees.k v.degrees.columns) (o : Option Finding) (none : is_some o ≡ false) (h : Finds (AsksFaces v (blocks_of vs)) o) where
  pub faces_all : AllHold (AsksFaces v (blocks_of vs))
  faces_all = none_found (AsksFaces v (blocks_of vs)) o none h

  pub are_verdicts : AreVerdicts v vs
  are_verdicts = accepted_verdicts (length v.degrees.columns) v vs fits ((exactly v (blocks_of vs) g).0 faces_all).0

  pub whole_is : IsAFace v.generators (whole_face v)
  whole_is = ((exactly v (blocks_of vs) g).0 faces_all).1
