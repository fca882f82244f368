-- Certificates have a first finding, or none.
use Rattle.std.proofs.Common.{◌≡◌, ◌<◌, ◌≤◌, ◌^◌, ℕ, List, Global, inl, inr, length, le_refl, refl, subst, arith}
use Rattle.std.specs.Prelude.{Option, Some, None, slice_get}
use Rattle.std.specs.Global.{Vec}
use denote.RawPtr.{null_ptr}
use Rattle.std.proofs.lemmas.Bool.{cases_lt}
use Rattle.git_lemmas.proofs.Options.{some_is}
use Rattle.git_algebra.specs.Polynomials.{Polynomial}
use Rattle.git_grading.specs.Gradings.{IsGrading}
use Rattle.git_orbit.proofs.Settled.{Decided}
use Rattle.git_input.specs.Inputs.{InputValue}
use Rattle.git_facecert.specs.Answers.{IsAnswer}
use Rattle.git_facecert.specs.declared.certificate.Accepted.{Accepted}
use Rattle.git_facecert.specs.declared.certificate.Accepted.TheVariants.{Yes, No}
use Rattle.git_facecert.specs.declared.certificate.FaceCert.{FaceCert}
use Rattle.git_facecert.specs.declared.certificate.FaceCert.TheVariants as certs
use Rattle.git_facecert.proofs.SomeAnswer.{some_answer}
use Rattle.git_faces.specs.FullFaces.{AreFullFaces}
use Rattle.git_faces.proofs.FullLists.{some as full_list}
use Rattle.git_certtext.specs.Blocks.{Block, Cert, FitsBlock, FitsCert, FitsCerts, cert_of, free, monomial}
use Rattle.git_answers.specs.Verdicts.{whole_face}
use Rattle.git_asked.specs.declared.finding.Reason.{Reason}
use Rattle.git_asked.specs.declared.finding.Reason.TheVariants.{CertRefused, Monomial, VerdictMissing}
use Rattle.git_asked.specs.Findings.{earlier_of}
use Rattle.git_asked.proofs.Joined.{finds_both}
use Rattle.git_asked.proofs.Places.{all_at, got, within}
use Rattle.git_check_chambers.specs.Families.{AtLines, OfEach}
use Rattle.git_check_chambers.proofs.Sizes.{each_of}
use Rattle.git_check_faces.specs.Faces.{AsksEnd, AsksFaces, AsksOfFace, FaceAt, IsAccepted, IsFreeCert, face_line}
use Rattle.git_check_faces.proofs.Reasons.{answers_yes, end_fails, end_holds, face_holds, in_place, is_monomial, is_refused, out_of_place, refused_is}
use Rattle.git_check_laws.proofs.Chambers.{HasFinding, at_a_line, each_finding}
use Rattle.git_check_laws.proofs.Decisions.{nat_decided}
use Rattle.git_check_laws.proofs.Owns.{HasReason}

by_answer : (generators : List Polynomial) (mask : ℕ) (cert : FaceCert) (a : Accepted) → IsAnswer generators mask cert a → Decided (IsAccepted generators mask (cert_of cert))
by_answer generators mask cert Yes h = inl ((answers_yes generators mask cert).1 h)
by_answer generators mask cert (No place) h = inr (refused_is generators mask cert place h)

-- a vector with these elements
abbrev heap : Global
heap = record { memory = record { seal = tt } }

abbrev vector_of : {X : Type 0} (xs : List X) → length xs < 2 ^ 63 → Vec X
vector_of xs small = record { ptr = null_ptr; len = length xs; cap = length xs; alloc = heap; items = xs; ok = (refl, le_refl (length xs)); small = small }

accepted_decided : (r : ℕ) (generators : List Polynomial) (mask : ℕ) (cert : Cert) → FitsCert r cert → Decided (IsAccepted generators mask cert)
accepted_decided r generators mask (free members) fits =
    let few : length members ≤ 65536 = fits.1 in
    let made : FaceCert = certs.Free (vector_of members (omega (arith, few))) in
    let a = some_answer generators mask made in
    by_answer generators mask made a.0 a.1
accepted_decided r generators mask (monomial power cofactors) fits =
    let few : length cofactors ≤ 64 = fits.1 in
    let made : FaceCert = certs.Monomial power (vector_of cofactors (omega (arith, few))) in
    let a = some_answer generators mask made in
    by_answer generators mask made a.0 a.1

free_decided : (mask whole : ℕ) (cert : Cert) → Decided (mask ≡ whole → IsFreeCert cert)
free_decided mask whole (free members) = inl (λ e. tt)
free_decided mask whole (monomial power cofactors) = elim (nat_decided mask whole) [ inl e ↦ inr (λ h. h e) | inr never ↦ inl (λ e. never e) ]

stands_decided : (masks : List ℕ) (i mask : ℕ) → Decided (slice_get masks i ≡ Some mask)
stands_decided masks i mask = elim (cases_lt i (length masks)) [
  | inr high ↦ inr (λ e. let low = within masks i mask e in omega (arith, low, high))
  | inl low ↦ (
      let x = got masks i low in
      elim (nat_decided x.0 mask) [
        | inl e ↦ inl (subst (λ (m : ℕ). slice_get masks i ≡ Some m) e x.1)
        | inr never ↦ inr (λ e. never (some_is x.0 mask (subst (λ (o : Option ℕ). o ≡ Some mask) x.1 e)))
      ]
      )
]

module _ (v : InputValue) (masks : List ℕ) (are : AreFullFaces v.degrees.k v.degrees.columns masks) (r : ℕ) where
  face_reason : (i : ℕ) (b : Block) → FitsBlock r b → HasReason (AsksOfFace v i b)
  face_reason i b fits = elim (stands_decided masks i b.mask) [
    | inr never ↦ (Some VerdictMissing, out_of_place v i b masks are never)
    | inl at ↦ elim (accepted_decided r v.generators b.mask b.cert fits.cert) [
      | inr never ↦ (Some CertRefused, is_refused v i b masks are at never)
      | inl accepted ↦ elim (free_decided b.mask (whole_face v) b.cert) [
        | inr never ↦ (Some Monomial, is_monomial v i b masks are at accepted never)
        | inl is ↦ (None, face_holds v i b (in_place v i b masks are at) accepted is)
      ]
    ]
  ]

  end_reason : (bs : List Block) → HasReason (AsksEnd v bs)
  end_reason bs = elim (cases_lt (length bs) (length masks)) [
    | inl less ↦ (Some VerdictMissing, end_fails v bs masks are less)
    | inr more ↦ (None, end_holds v bs masks are (omega (arith, more)))
  ]

  of_blocks : (bs : List Block) → FitsCerts r bs → HasFinding (AsksFaces v bs)
  of_blocks bs fits =
      let fit : (i : ℕ) (b : Block) → slice_get bs i ≡ Some b → FitsBlock r b = (λ i b e. all_at (FitsBlock r) bs i b (each_of (FitsBlock r) bs fits.each) e) in
      let each = each_finding (FaceAt v bs) bs (λ i b e. at_a_line (λ (q : Reason). face_line bs i) (AsksOfFace v i b) (face_reason i b (fit i b e))) in
      let end = at_a_line (λ (q : Reason). face_line bs (length bs)) (AsksEnd v bs) (end_reason bs) in
      (earlier_of each.0 end.0, finds_both (OfEach (FaceAt v bs) bs) (AtLines (λ (q : Reason). face_line bs (length bs)) (AsksEnd v bs)) each.0 end.0 each.1 end.1)

pub faces_finding : (v : InputValue) (r : ℕ) (bs : List Block) → IsGrading v.degrees.k v.degrees.columns → FitsCerts r bs → HasFinding (AsksFaces v bs)
faces_finding v r bs g fits = let all = full_list v.degrees.k v.degrees.columns g.matrix.lengths in of_blocks v all.0 all.1 r bs fits
