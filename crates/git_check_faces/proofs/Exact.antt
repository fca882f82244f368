-- All that is asked of certificates holds exactly of one accepted certificate for each full face; those of verdicts are such.
use Rattle.std.proofs.Common.{◌≡◌, ◌∷◌, [], ◌^◌, ◌<◌, ◌≤◌, ℕ, suc, List, length, map, refl, sym, subst, arith}
use Rattle.std.specs.Prelude.{◌↔◌, AllPairs, Contains, Some, slice_get}
use Rattle.std.proofs.lemmas.List.{length-map}
use Rattle.std.proofs.lemmas.Nat.{pow_pos}
use Rattle.git_lemmas.proofs.Options.{some_is}
use Rattle.git_defs.specs.Vectors.{HasRank}
use Rattle.git_grading.specs.Gradings.{IsGrading}
use Rattle.git_orbit.proofs.Fans.{face_whole}
use Rattle.git_algebra.specs.Polynomials.{Polynomial}
use Rattle.git_ideals.specs.Faces.{IsAFace}
use Rattle.git_input.specs.Inputs.{InputValue}
use Rattle.git_facecert.specs.declared.certificate.FaceCert.{FaceCert}
use Rattle.git_facecert.specs.declared.certificate.FaceCert.TheVariants as certs
use Rattle.git_facecert.specs.declared.certificate.FaceVerdict.{FaceVerdict}
use Rattle.git_facecert.proofs.Showing.{free_show, monomials_refute}
use Rattle.git_faces.specs.FullFaces.{AreFullFaces}
use Rattle.git_faces.proofs.FullLists.{some}
use Rattle.git_saturate.specs.Verdicts.{IsCertificate, IsFree}
use Rattle.git_certtext.specs.Blocks.{Block, Cert, FitsBlock, FitsCert, FitsCerts, block_of, blocks_of, cert_of, free, monomial}
use Rattle.git_answers.specs.Verdicts.{AreVerdicts, IsFullFace, IsVerdict, whole_face}
use Rattle.git_asked.specs.declared.finding.Reason.{Reason}
use Rattle.git_asked.specs.declared.finding.Reason.TheVariants.{VerdictMissing, CertRefused, Monomial}
use Rattle.git_asked.proofs.Places.{all_at, all_got, map_at, map_from, place_of}
use Rattle.git_check_chambers.proofs.Sizes.{each_of}
use Rattle.git_check_faces.specs.Faces.{AsksFaces, IsAccepted, IsFreeCert, face_line}
use Rattle.git_check_faces.specs.Laws.{AllHoldsExactlyOfTheVerdicts, AreAccepted, VerdictsAreAccepted}
use Rattle.git_check_faces.proofs.Reasons.{end_holds, face_holds, in_place}

abbrev masks_of : List Block → List ℕ
masks_of bs = map (λ (b : Block). b.mask) bs

-- masks that agree at each place, and none of which is left
agree : (bs : List Block) (ms : List ℕ) → ((i : ℕ) (b : Block) → slice_get bs i ≡ Some b → slice_get ms i ≡ Some b.mask) → length ms ≤ length bs → masks_of bs ≡ ms
agree [] [] h le = refl
agree [] (m ∷ ms) h le = absurd (omega (arith, le))
agree (b ∷ bs) [] h le = absurd (cc (h 0 b refl))
agree (b ∷ bs) (m ∷ ms) h le =
    let here = some_is m b.mask (h 0 b refl) in
    let rest = agree bs ms (λ i c e. h (suc i) c e) (omega (arith, le)) in
    λ i. sym here i ∷ rest i

-- an accepted certificate is free exactly where the face is an a-face
pub kind_tells : (generators : List Polynomial) (mask : ℕ) (cert : Cert) → IsAccepted generators mask cert → IsFreeCert cert ↔ IsAFace generators mask
kind_tells generators mask (monomial power cofactors) a = (λ f. absurd f, λ is. absurd (monomials_refute generators mask power cofactors a is))
kind_tells generators mask (free members) a = (λ f. free_show generators mask members a, λ is. tt)

all_variables : (v : InputValue) → IsGrading v.degrees.k v.degrees.columns → IsFullFace v (whole_face v)
all_variables v g = record {
  in_range = (let some_mask : 0 < 2 ^ length v.degrees.columns = pow_pos (length v.degrees.columns) in omega (arith, some_mask));
  full = subst (HasRank v.degrees.k) (sym (face_whole v.degrees.columns)) g.rank;
  is_accepted = tt;
}

module _ (v : InputValue) (bs : List Block) (g : IsGrading v.degrees.k v.degrees.columns) where
  module _ (h : (reason : Reason) (line : ℕ) → AsksFaces v bs reason line) where
    accepted : (i : ℕ) (b : Block) → slice_get bs i ≡ Some b → IsAccepted v.generators b.mask b.cert
    accepted i b e = (h CertRefused (face_line bs i)).0 i b e refl

    are_accepted : AreAccepted v bs
    are_accepted =
        let all = some v.degrees.k v.degrees.columns g.matrix.lengths in
        let same : masks_of bs ≡ all.0 = agree bs all.0 (λ i b e. (h VerdictMissing (face_line bs i)).0 i b e refl all.0 all.1) ((h VerdictMissing (face_line bs (length bs))).1 refl all.0 all.1) in
        record {
          descending = subst (AllPairs (λ (m n : ℕ). n < m)) (sym same) all.1.descending;
          full = λ m. subst (λ (ms : List ℕ). Contains ms m ↔ IsFullFace v m) (sym same) (all.1.each m);
          each = all_got (λ (b : Block). IsAccepted v.generators b.mask b.cert) bs accepted;
        }

    whole_is : IsAFace v.generators (whole_face v)
    whole_is =
        let p = place_of (masks_of bs) (whole_face v) ((are_accepted.full (whole_face v)).1 (all_variables v g)) in
        let b = map_from (λ (b : Block). b.mask) bs p.0 (whole_face v) p.1 in
        subst (IsAFace v.generators) b.2 ((kind_tells v.generators b.0.mask b.0.cert (accepted p.0 b.0 b.1)).0 ((h Monomial (face_line bs p.0)).0 p.0 b.0 b.1 refl b.2))

  module _ (are : AreAccepted v bs) (whole : IsAFace v.generators (whole_face v)) where
    masks_full : AreFullFaces v.degrees.k v.degrees.columns (masks_of bs)
    masks_full = record { descending = are.descending; each = are.full }

    all_hold : (reason : Reason) (line : ℕ) → AsksFaces v bs reason line
    all_hold reason line = (
      λ i b e is. (
          let here = all_at (λ (b : Block). IsAccepted v.generators b.mask b.cert) bs i b are.each e in
          face_holds v i b (in_place v i b (masks_of bs) masks_full (map_at (λ (b : Block). b.mask) bs i b e)) here
          (λ w. (kind_tells v.generators b.mask b.cert here).1 (subst (IsAFace v.generators) (sym w) whole)) reason
          ),
      λ is. end_holds v bs (masks_of bs) masks_full (let n = length-map bs (λ (b : Block). b.mask) in omega (arith, n)) reason,
    )

pub exactly : AllHoldsExactlyOfTheVerdicts
exactly v bs g = (λ h. (are_accepted v bs g h, whole_is v bs g h), λ p. all_hold v bs g p.0 p.1)

-- ---- verdicts, and what their certificates say
says_accepted : (generators : List Polynomial) (mask : ℕ) (cert : FaceCert) → IsCertificate generators mask cert → IsAccepted generators mask (cert_of cert)
says_accepted generators mask (certs.Monomial power cofactors) c = c.0
says_accepted generators mask (certs.Free members) c = c.0

certificate_is : (r : ℕ) (generators : List Polynomial) (mask : ℕ) (cert : FaceCert) → FitsCert r (cert_of cert) → IsAccepted generators mask (cert_of cert) → IsCertificate generators mask cert
certificate_is r generators mask (certs.Monomial power cofactors) fits a = (a, fits.1)
certificate_is r generators mask (certs.Free members) fits a = (a, fits.0, fits.1)

free_is : (cert : FaceCert) → IsFree cert ↔ IsFreeCert (cert_of cert)
free_is (certs.Monomial power cofactors) = (λ f. f, λ f. f)
free_is (certs.Free members) = (λ f. f, λ f. f)

same_masks : (vs : List FaceVerdict) → masks_of (blocks_of vs) ≡ map (λ (f : FaceVerdict). f.mask) vs
same_masks [] = refl
same_masks (f ∷ fs) = λ i. f.mask ∷ same_masks fs i

pub verdicts_accepted : VerdictsAreAccepted
verdicts_accepted v vs are = record {
  descending = subst (AllPairs (λ (m n : ℕ). n < m)) (sym (same_masks vs)) are.descending;
  full = λ m. subst (λ (ms : List ℕ). Contains ms m ↔ IsFullFace v m) (sym (same_masks vs)) (are.full m);
  each = all_got (λ (b : Block). IsAccepted v.generators b.mask b.cert) (blocks_of vs) (λ i b e. (
      let f = map_from block_of vs i b e in
      subst (λ (c : Block). IsAccepted v.generators c.mask c.cert) f.2 (says_accepted v.generators f.0.mask f.0.cert (all_at (IsVerdict v) vs i f.0 are.each f.1).accepted)
      ));
}

-- and the other way round, within the limits of their text
pub accepted_verdicts : (r : ℕ) (v : InputValue) (vs : List FaceVerdict) → FitsCerts r (blocks_of vs) → AreAccepted v (blocks_of vs) → AreVerdicts v vs
accepted_verdicts r v vs fits are = record {
  descending = subst (AllPairs (λ (m n : ℕ). n < m)) (same_masks vs) are.descending;
  full = λ m. subst (λ (ms : List ℕ). Contains ms m ↔ IsFullFace v m) (same_masks vs) (are.full m);
  each = all_got (IsVerdict v) vs (λ i f e. (
      let there = map_at block_of vs i f e in
      let a = all_at (λ (b : Block). IsAccepted v.generators b.mask b.cert) (blocks_of vs) i (block_of f) are.each there in
      let fit = all_at (FitsBlock r) (blocks_of vs) i (block_of f) (each_of (FitsBlock r) (blocks_of vs) fits.each) there in
      let kind = kind_tells v.generators f.mask (cert_of f.cert) a in
      let is = free_is f.cert in
      record { accepted = certificate_is r v.generators f.mask f.cert fit.cert a; free = (λ t. kind.0 (is.0 t), λ t. is.1 (kind.1 t)) }
      ));
}
