-- What fails first of a certificate, and at the end of certificates.
use Rattle.std.proofs.Common.{◌≡◌, ◌<◌, ◌≤◌, ℕ, List, length, subst, arith}
use Rattle.std.specs.Prelude.{◌↔◌, Some, slice_get}
use Rattle.git_algebra.specs.Polynomials.{Polynomial}
use Rattle.git_input.specs.Inputs.{InputValue}
use Rattle.git_facecert.specs.Answers.{IsAnswer, IsOfFewLines}
use Rattle.git_facecert.specs.declared.certificate.Accepted.TheVariants.{Yes, No}
use Rattle.git_facecert.specs.declared.certificate.FaceCert.{FaceCert}
use Rattle.git_facecert.specs.declared.certificate.FaceCert.TheVariants as certs
use Rattle.git_facecert.specs.declared.certificate.Place.{Place}
use Rattle.git_facecert.proofs.AnswerOnce.{one_answer}
use Rattle.git_faces.specs.FullFaces.{AreFullFaces}
use Rattle.git_faces.proofs.FullLists.{one}
use Rattle.git_certtext.specs.Blocks.{Block, FitsCert, cert_of}
use Rattle.git_answers.specs.Verdicts.{whole_face}
use Rattle.git_asked.specs.declared.finding.Reason.{Reason}
use Rattle.git_asked.specs.declared.finding.Reason.TheVariants.{Shape, VerdictMissing, CertRefused, Monomial, WideCone, ConeCount, Order, WideChamber, Rays, Weight, Mark, FacetSet, FacetKind, Neighbour, MatchKind, FirstMissing, NotReached}
use Rattle.git_asked.specs.Findings.{rank_of}
use Rattle.git_check_chambers.specs.Families.{FailsAt}
use Rattle.git_check_faces.specs.Faces.{AsksEnd, AsksOfFace, AsksPlace, IsAccepted, IsFreeCert}

-- ---- acceptance
pub answers_yes : (generators : List Polynomial) (mask : ℕ) (cert : FaceCert) → IsAccepted generators mask (cert_of cert) ↔ IsAnswer generators mask cert Yes
answers_yes generators mask (certs.Monomial power cofactors) = (λ a. a, λ a. a)
answers_yes generators mask (certs.Free members) = (λ a. a, λ a. a)

pub refused_is : (generators : List Polynomial) (mask : ℕ) (cert : FaceCert) (place : Place) → IsAnswer generators mask cert (No place) → IsAccepted generators mask (cert_of cert) → ⊥
refused_is generators mask cert place a c = let e = one_answer generators mask cert Yes (No place) ((answers_yes generators mask cert).0 c) a in cc e

pub few_lines : (r : ℕ) (cert : FaceCert) → FitsCert r (cert_of cert) → IsOfFewLines cert
few_lines r (certs.Monomial power cofactors) fits = let f : length cofactors.items ≤ 64 = fits.1 in omega (arith, f)
few_lines r (certs.Free members) fits = let f : length members.items ≤ 65536 = fits.1 in omega (arith, f)

-- ---- of a certificate
module _ (v : InputValue) (i : ℕ) (b : Block) where
  below : (n : ℕ) → (1 < n → AsksPlace v i b) → (2 < n → IsAccepted v.generators b.mask b.cert) → (3 < n → b.mask ≡ whole_face v → IsFreeCert b.cert) → (q : Reason) → rank_of q < n → AsksOfFace v i b q
  below n x y z Shape lt = tt
  below n x y z VerdictMissing lt = x lt
  below n x y z CertRefused lt = y lt
  below n x y z Monomial lt = z lt
  below n x y z WideCone lt = tt
  below n x y z ConeCount lt = tt
  below n x y z Order lt = tt
  below n x y z WideChamber lt = tt
  below n x y z Rays lt = tt
  below n x y z Weight lt = tt
  below n x y z Mark lt = tt
  below n x y z FacetSet lt = tt
  below n x y z FacetKind lt = tt
  below n x y z Neighbour lt = tt
  below n x y z MatchKind lt = tt
  below n x y z FirstMissing lt = tt
  below n x y z NotReached lt = tt

  pub face_holds : AsksPlace v i b → IsAccepted v.generators b.mask b.cert → (b.mask ≡ whole_face v → IsFreeCert b.cert) → (q : Reason) → AsksOfFace v i b q
  face_holds x y z Shape = tt
  face_holds x y z VerdictMissing = x
  face_holds x y z CertRefused = y
  face_holds x y z Monomial = z
  face_holds x y z WideCone = tt
  face_holds x y z ConeCount = tt
  face_holds x y z Order = tt
  face_holds x y z WideChamber = tt
  face_holds x y z Rays = tt
  face_holds x y z Weight = tt
  face_holds x y z Mark = tt
  face_holds x y z FacetSet = tt
  face_holds x y z FacetKind = tt
  face_holds x y z Neighbour = tt
  face_holds x y z MatchKind = tt
  face_holds x y z FirstMissing = tt
  face_holds x y z NotReached = tt

  module _ (masks : List ℕ) (are : AreFullFaces v.degrees.k v.degrees.columns masks) where
    pub in_place : slice_get masks i ≡ Some b.mask → AsksPlace v i b
    in_place e others full = subst (λ (ms : List ℕ). slice_get ms i ≡ Some b.mask) (one v.degrees.k v.degrees.columns masks others are full) e

    pub out_of_place : (slice_get masks i ≡ Some b.mask → ⊥) → FailsAt (AsksOfFace v i b) VerdictMissing
    out_of_place never = record { fails = λ a. never (a masks are); before = below 1 (λ lt. absurd (omega (arith, lt))) (λ lt. absurd (omega (arith, lt))) (λ lt. absurd (omega (arith, lt))) }

    module _ (at : slice_get masks i ≡ Some b.mask) where
      pub is_refused : (IsAccepted v.generators b.mask b.cert → ⊥) → FailsAt (AsksOfFace v i b) CertRefused
      is_refused never = record { fails = never; before = below 2 (λ lt. in_place at) (λ lt. absurd (omega (arith, lt))) (λ lt. absurd (omega (arith, lt))) }

      pub is_monomial : IsAccepted v.generators b.mask b.cert → ((b.mask ≡ whole_face v → IsFreeCert b.cert) → ⊥) → FailsAt (AsksOfFace v i b) Monomial
      is_monomial c never = record { fails = never; before = below 3 (λ lt. in_place at) (λ lt. c) (λ lt. absurd (omega (arith, lt))) }

-- ---- of the end
module _ (v : InputValue) (bs : List Block) (masks : List ℕ) (are : AreFullFaces v.degrees.k v.degrees.columns masks) where
  pub end_fails : length bs < length masks → FailsAt (AsksEnd v bs) VerdictMissing
  end_fails less = record { fails = λ a. let le = a masks are in omega (arith, le, less); before = before_end } where
    before_end : (q : Reason) → rank_of q < 1 → AsksEnd v bs q
    before_end Shape lt = tt
    before_end VerdictMissing lt = absurd (omega (arith, lt))
    before_end CertRefused lt = tt
    before_end Monomial lt = tt
    before_end WideCone lt = tt
    before_end ConeCount lt = tt
    before_end Order lt = tt
    before_end WideChamber lt = tt
    before_end Rays lt = tt
    before_end Weight lt = tt
    before_end Mark lt = tt
    before_end FacetSet lt = tt
    before_end FacetKind lt = tt
    before_end Neighbour lt = tt
    before_end MatchKind lt = tt
    before_end FirstMissing lt = tt
    before_end NotReached lt = tt

  pub end_holds : length masks ≤ length bs → (q : Reason) → AsksEnd v bs q
  end_holds le Shape = tt
  end_holds le VerdictMissing = λ others full. subst (λ (ms : List ℕ). length ms ≤ length bs) (one v.degrees.k v.degrees.columns masks others are full) le
  end_holds le CertRefused = tt
  end_holds le Monomial = tt
  end_holds le WideCone = tt
  end_holds le ConeCount = tt
  end_holds le Order = tt
  end_holds le WideChamber = tt
  end_holds le Rays = tt
  end_holds le Weight = tt
  end_holds le Mark = tt
  end_holds le FacetSet = tt
  end_holds le FacetKind = tt
  end_holds le Neighbour = tt
  end_holds le MatchKind = tt
  end_holds le FirstMissing = tt
  end_holds le NotReached = tt
