-- The verdicts of an input's full faces are within the limits of a text of certificates.
use Rattle.std.proofs.Common.{◌≡◌, ℕ, zero, suc, ◌+◌, ◌^◌, ◌<◌, ◌≤◌, Bool, true, false, IsTrue, List, [], ◌∷◌, length, map, refl, sym, ap, ◌∙◌, subst, arith, All, get_or}
use Rattle.std.specs.Prelude.{◌/◌, ◌%◌, ◌==◌, ◌||◌, AllPairs, Contains, slice_get, Some}
use Rattle.std.specs.List.{AllByRecursion}
use Rattle.std.proofs.lemmas.Bool.{eqb-true}
use Rattle.std.proofs.lemmas.List.{length-map}
use Rattle.std.proofs.Math.Nat.{pow-le-pow_right}
use Rattle.git_bits.specs.Bits.{has_bit}
use Rattle.git_bits.proofs.Bits.{bit_of_part, no_high_bit}
use Rattle.git_defs.specs.Faces.{face}
use Rattle.git_defs.specs.Vectors.{HasRank, Vector}
use Rattle.git_grading.specs.Gradings.{IsGrading}
use Rattle.git_algebra.specs.Exponents.{Exponents, degree, exponent, in_face}
use Rattle.git_algebra.specs.Sums.{Sum}
use Rattle.git_algebra.specs.Polynomials.{Polynomial}
use Rattle.git_algebra.specs.Operations.{IsInFace, total_degree}
use Rattle.git_algebra.proofs.Degrees.{every_degree}
use Rattle.git_algebra.proofs.Every.{Every, every_from_all}
use Rattle.git_ideals.proofs.FaceProofs.{all_at}
use Rattle.git_input.specs.Inputs.{InputValue}
use Rattle.git_facecert.specs.declared.certificate.FaceCert.{FaceCert}
use Rattle.git_facecert.specs.declared.certificate.FaceCert.TheVariants.{Free, Monomial}
use Rattle.git_facecert.specs.declared.certificate.FaceVerdict.{FaceVerdict}
use Rattle.git_facecert.specs.Certificates.{IsCofactor, IsMember}
use Rattle.git_saturate.specs.Verdicts.{IsCertificate}
use Rattle.git_strictpoly.specs.Laws.{FitsMonomial, FitsPoly, FitsTerm}
use Rattle.git_certtext.specs.Blocks.{FitsBlock, FitsCert, FitsCerts, block_of, blocks_of, cert_of}
use Rattle.git_listing_fits.proofs.Fits.{by_places}
use Rattle.git_asked.proofs.Places as places
use Rattle.git_asked.proofs.Places.{contains_at, get_or_is, map_at, map_from, place_of, within}
use Rattle.git_answers.specs.Verdicts.{AreVerdicts, IsFullFace, IsVerdict}

-- ---- a monomial in the variables of a face and the extra one

same_part : (mask i : ℕ) → i < 16 → ((mask + 65536) / 2 ^ i) % 2 ≡ (mask / 2 ^ i) % 2
same_part mask zero h = omega arith
same_part mask (suc zero) h = omega arith
same_part mask (suc (suc zero)) h = omega arith
same_part mask (suc (suc (suc zero))) h = omega arith
same_part mask (suc (suc (suc (suc zero)))) h = omega arith
same_part mask (suc (suc (suc (suc (suc zero))))) h = omega arith
same_part mask (suc (suc (suc (suc (suc (suc zero)))))) h = omega arith
same_part mask (suc (suc (suc (suc (suc (suc (suc zero))))))) h = omega arith
same_part mask (suc (suc (suc (suc (suc (suc (suc (suc zero)))))))) h = omega arith
same_part mask (suc (suc (suc (suc (suc (suc (suc (suc (suc zero))))))))) h = omega arith
same_part mask (suc (suc (suc (suc (suc (suc (suc (suc (suc (suc zero)))))))))) h = omega arith
same_part mask (suc (suc (suc (suc (suc (suc (suc (suc (suc (suc (suc zero))))))))))) h = omega arith
same_part mask (suc (suc (suc (suc (suc (suc (suc (suc (suc (suc (suc (suc zero)))))))))))) h = omega arith
same_part mask (suc (suc (suc (suc (suc (suc (suc (suc (suc (suc (suc (suc (suc zero))))))))))))) h = omega arith
same_part mask (suc (suc (suc (suc (suc (suc (suc (suc (suc (suc (suc (suc (suc (suc zero)))))))))))))) h = omega arith
same_part mask (suc (suc (suc (suc (suc (suc (suc (suc (suc (suc (suc (suc (suc (suc (suc zero))))))))))))))) h = omega arith
same_part mask (suc (suc (suc (suc (suc (suc (suc (suc (suc (suc (suc (suc (suc (suc (suc (suc i)))))))))))))))) h = absurd (omega arith)

same_bit : (mask i : ℕ) → i < 16 → has_bit (mask + 65536) i ≡ has_bit mask i
same_bit mask i h = bit_of_part (mask + 65536) i ∙ ap (λ n. n == 1) (same_part mask i h) ∙ sym (bit_of_part mask i)

-- no bit of a mask of r variables stands past them
IsClear : ℕ → ℕ → Type 0
IsClear r mask = (i : ℕ) → r ≤ i → i < 16 → IsTrue (has_bit mask i) → ⊥

clear : (r mask : ℕ) → mask < 2 ^ r → IsClear r mask
unfolding IsClear
clear r mask below i low high bit =
    let two : 0 < 2 = omega arith in
    let p : 2 ^ r ≤ 2 ^ i = pow-le-pow_right two low in
    no_high_bit mask i (omega (arith, below, p)) bit

clear_more : (r mask : ℕ) → IsClear r mask → IsClear r (mask + 65536)
unfolding IsClear
clear_more r mask h i low high bit = h i low high (sym (same_bit mask i high) ∙ bit)

none_there : (a b : Bool) → (a || b) ≡ true → (b ≡ true → ⊥) → a ≡ true
none_there true b e clear_there = refl
none_there false b e clear_there = absurd (clear_there e)

monomial_fits : (r mask : ℕ) (m : Exponents) → IsClear r mask → IsTrue (in_face mask m) → degree m ≤ 33554432 → FitsMonomial r m
unfolding IsClear in_face
monomial_fits r mask m none within small = record {
  variables = λ i low high. (
      let at = all_at (λ j. exponent m j == 0 || has_bit mask j) 0 17 i within (omega arith) (omega arith) in
      eqb-true (exponent m i) 0 (none_there (exponent m i == 0) (has_bit mask i) at (none i low high))
      );
  small = small;
}

terms_fit : (r mask : ℕ) (s : Sum) → IsClear r mask → Every (λ a. IsTrue (in_face mask a)) s → Every (λ a. degree a ≤ 33554432) s → AllByRecursion (FitsTerm r) s
terms_fit r mask [] none within small = tt
terms_fit r mask (t ∷ s) none within small = (monomial_fits r mask t.0 none within.0 small.0, terms_fit r mask s none within.1 small.1)

poly_fits : (r mask : ℕ) (p : Polynomial) → IsClear r mask → IsInFace mask p → total_degree p ≤ 33554432 → FitsPoly r p
poly_fits r mask p none within small =
    terms_fit r mask p.terms none (every_from_all (λ a. IsTrue (in_face mask a)) p.terms within) (every_degree 33554432 p.terms small)

-- ---- lists

-- numbers that fall are fewer than what is above them
pub falling_few : (xs : List ℕ) (n : ℕ) → AllPairs (λ (a b : ℕ). b < a) xs → ((i m : ℕ) → slice_get xs i ≡ Some m → m < n) → length xs ≤ n
falling_few [] n falling below = omega arith
falling_few (x ∷ xs) n falling below =
    let here = below 0 x refl in
    let rest = falling_few xs x (λ i j d low in_range. falling (suc i) (suc j) d (omega arith) (omega arith)) (λ i m e. (
    let less = falling 0 (suc i) m (omega arith) (let l = within xs i m e in omega arith) in
    let is = get_or_is xs i m m e in
    omega (arith, less, is)))
    in omega (arith, here, rest)

-- ---- the face without variables is not full

face_none : (qs : List Vector) → face qs 0 ≡ []
face_none [] = refl
face_none (q ∷ qs) = face_none qs

none_full : (k : ℕ) (columns : List Vector) → 1 ≤ k → HasRank k (face columns 0) → ⊥
none_full k columns some rank = by rank.chosen rank.count rank.from where
  by : (chosen : List Vector) → length chosen ≡ k → ((i : ℕ) (d : Vector) → i < length chosen → Contains (face columns 0) (get_or chosen i d)) → ⊥
  by [] count from = omega (arith, count, some)
  by (x ∷ xs) count from =
      let there = place_of (face columns 0) x (from 0 x (omega arith)) in
      let low = within (face columns 0) there.0 x there.1 in
      let none = ap length (face_none columns) in
      omega (arith, low, none)

-- ---- certificates

members_fit : (r mask : ℕ) (ps : List Polynomial) → mask < 2 ^ r → All (IsMember mask) ps → AllByRecursion (FitsPoly r) ps
members_fit r mask ps below all = by_places (FitsPoly r) ps (λ i p e. (
    let is = places.all_at (IsMember mask) ps i p all e in
    poly_fits r (mask + 65536) p (clear_more r mask (clear r mask below)) is.variables is.small))

cofactors_fit : (r mask : ℕ) (ps : List Polynomial) → mask < 2 ^ r → All (IsCofactor mask) ps → AllByRecursion (FitsPoly r) ps
cofactors_fit r mask ps below all = by_places (FitsPoly r) ps (λ i p e. (
    let is = places.all_at (IsCofactor mask) ps i p all e in
    poly_fits r mask p (clear r mask below) is.variables is.small))

cert_fits : (r mask : ℕ) (generators : List Polynomial) (cert : FaceCert) → mask < 2 ^ r → IsCertificate generators mask cert → FitsCert r (cert_of cert)
cert_fits r mask generators (Monomial power cofactors) below c = (c.0.small, c.1, cofactors_fit r mask cofactors.items below c.0.cofactors_are)
cert_fits r mask generators (Free members) below c = (c.1, c.2, members_fit r mask members.items below c.0.members_are)

module _ (v : InputValue) (vs : List FaceVerdict) (g : IsGrading v.degrees.k v.degrees.columns) (are : AreVerdicts v vs) where
  face_at : (i : ℕ) (f : FaceVerdict) → slice_get vs i ≡ Some f → IsFullFace v f.mask
  face_at i f e = (are.full f.mask).0 (contains_at (map (λ (h : FaceVerdict). h.mask) vs) i f.mask (map_at (λ (h : FaceVerdict). h.mask) vs i f e))

  positive : (mask : ℕ) → IsFullFace v mask → 1 ≤ mask
  positive zero full = absurd (none_full v.degrees.k v.degrees.columns g.matrix.some_rows full.full)
  positive (suc mask) full = omega arith

  block_fits : (i : ℕ) (f : FaceVerdict) → slice_get vs i ≡ Some f → FitsBlock (length v.degrees.columns) (block_of f)
  block_fits i f e =
      let full = face_at i f e in
      let verdict = places.all_at (IsVerdict v) vs i f are.each e in
      record { some = positive f.mask full; within = full.in_range; cert = cert_fits (length v.degrees.columns) f.mask v.generators f.cert full.in_range verdict.accepted }

  few : length (blocks_of vs) ≤ 65536
  few =
      let masks = falling_few (map (λ (h : FaceVerdict). h.mask) vs) (2 ^ length v.degrees.columns) are.descending (λ i m e. (
      let f = map_from (λ (h : FaceVerdict). h.mask) vs i m e in
      let below = (face_at i f.0 f.1).in_range in
      subst (λ (n : ℕ). n < 2 ^ length v.degrees.columns) f.2 below))
      in
      let two : 0 < 2 = omega arith in
      let p : 2 ^ length v.degrees.columns ≤ 2 ^ 16 = pow-le-pow_right two g.matrix.few_columns in
      let a = length-map vs (λ (h : FaceVerdict). h.mask) in
      let b = length-map vs block_of in
      omega (arith, masks, p, a, b)

  pub verdicts_fit : FitsCerts (length v.degrees.columns) (blocks_of vs)
  verdicts_fit = record {
    few = few;
    each = by_places (FitsBlock (length v.degrees.columns)) (blocks_of vs) (λ i b e. (
        let f = map_from block_of vs i b e in
        subst (FitsBlock (length v.degrees.columns)) f.2 (block_fits i f.0 f.1)));
  }
