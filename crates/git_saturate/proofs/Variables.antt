-- The variables of a face and the extra one: bit 16 of a mask.
use Rattle.std.proofs.Common.{ℕ, zero, suc, ◌+◌, ◌^◌, ◌<◌, ◌≡◌, refl, [], ◌∷◌, Bool, true, false, IsTrue, sym, ◌∙◌, ap, subst, arith, inl, inr, eq-eqb}
use Rattle.std.specs.Prelude.{◌/◌, ◌%◌, ◌==◌, ◌||◌}
use Rattle.std.proofs.lemmas.Bool.{cases_eq, cases_lt, ne_eqb}
use Rattle.git_bits.specs.Bits.{has_bit}
use Rattle.git_bits.proofs.Bits.{bit_of_part, bit_clear}
use Rattle.git_algebra.specs.Exponents.{Exponents, exponent, times, in_face}
use Rattle.git_algebra.specs.Sums.{Sum}
use Rattle.git_algebra.specs.Polynomials.{Polynomial}
use Rattle.git_algebra.specs.Operations.{one_polynomial, restricted, IsInFace}
use Rattle.git_algebra.proofs.Every.{Every, all_from_every}
use Rattle.git_algebra.proofs.Faces.{both_in, minus_in, one_in, term_in, restricted_in_face}
use Rattle.git_ideals.specs.Ideals.{clearing, monomial, y}
use Rattle.git_ideals.specs.Extra.{extra, without_extra}
use Rattle.git_ideals.specs.Faces.{face_monomial}
use Rattle.git_ideals.proofs.FaceProofs.{all_at, all_from, power_in_face}
use Rattle.git_ideals.proofs.ExtraExponents.{y_elsewhere, without_there, without_elsewhere}
use Rattle.git_facecert.proofs.FacePowers.{power_one}

same_part : (mask i : ℕ) → i < 16 → ((mask + 65536) / 2 ^ i) % 2 ≡ (mask / 2 ^ i) % 2
same_part mask zero h = omega arith
same_part mask (suc zero) h = omega arith
same_part mask (suc (suc zero)) h = omega arith
same_part mask (suc (suc (suc zero))) h = omega arith
same_part mask (suc (suc (suc (suc zero)))) h = omega arith
same_part mask (suc (suc (suc (suc (suc zero))))) h = omega arith
same_part mask (suc (suc (suc (suc (suc (suc zero)))))) h = omega arith
same_part mask (suc (suc (suc (suc (suc (suc (suc zero))))))) h = omega arith
same_part mask (suc (suc (suc (suc (suc (suc (suc (suc zero)))))))) h = omega arith
same_part mask (suc (suc (suc (suc (suc (suc (suc (suc (suc zero))))))))) h = omega arith
same_part mask (suc (suc (suc (suc (suc (suc (suc (suc (suc (suc zero)))))))))) h = omega arith
same_part mask (suc (suc (suc (suc (suc (suc (suc (suc (suc (suc (suc zero))))))))))) h = omega arith
same_part mask (suc (suc (suc (suc (suc (suc (suc (suc (suc (suc (suc (suc zero)))))))))))) h = omega arith
same_part mask (suc (suc (suc (suc (suc (suc (suc (suc (suc (suc (suc (suc (suc zero))))))))))))) h = omega arith
same_part mask (suc (suc (suc (suc (suc (suc (suc (suc (suc (suc (suc (suc (suc (suc zero)))))))))))))) h = omega arith
same_part mask (suc (suc (suc (suc (suc (suc (suc (suc (suc (suc (suc (suc (suc (suc (suc zero))))))))))))))) h = omega arith
same_part mask (suc (suc (suc (suc (suc (suc (suc (suc (suc (suc (suc (suc (suc (suc (suc (suc i)))))))))))))))) h = absurd (omega arith)

same_bit : (mask i : ℕ) → i < 16 → has_bit (mask + 65536) i ≡ has_bit mask i
same_bit mask i h = bit_of_part (mask + 65536) i ∙ ap (λ n. n == 1) (same_part mask i h) ∙ sym (bit_of_part mask i)

last_bit : (mask : ℕ) → mask < 65536 → has_bit (mask + 65536) 16 ≡ true
last_bit mask h = bit_of_part (mask + 65536) 16 ∙ eq-eqb (((mask + 65536) / 2 ^ 16) % 2) 1 (omega arith)

or_right : (a b : Bool) → b ≡ true → (a || b) ≡ true
or_right true b e = refl
or_right false b e = e

pub more_face : (mask : ℕ) (a : Exponents) → mask < 65536 → IsTrue (in_face mask a) → IsTrue (in_face (mask + 65536) a)
unfolding in_face
more_face mask a small h = all_from (λ i. exponent a i == 0 || has_bit (mask + 65536) i) 0 17 (λ i low high. elim (cases_lt i 16) [
  | inl less ↦ (λ t. exponent a i == 0 || same_bit mask i less t) ∙ all_at (λ k. exponent a k == 0 || has_bit mask k) 0 17 i h (omega arith) (omega arith)
  | inr ge ↦
      let is : i ≡ 16 = omega arith in
      or_right (exponent a i == 0) (has_bit (mask + 65536) i) ((λ t. has_bit (mask + 65536) (is t)) ∙ last_bit mask small)
])

y_in : (mask : ℕ) → mask < 65536 → IsTrue (in_face (mask + 65536) y)
unfolding in_face
y_in mask small = all_from (λ i. exponent y i == 0 || has_bit (mask + 65536) i) 0 17 (λ i low high. elim (cases_eq i 16) [
  | inl is ↦ or_right (exponent y i == 0) (has_bit (mask + 65536) i) ((λ t. has_bit (mask + 65536) (is t)) ∙ last_bit mask small)
  | inr other ↦ (λ t. eq-eqb (exponent y i) 0 (y_elsewhere i (omega arith) other) t || has_bit (mask + 65536) i)
])

every_more : (mask : ℕ) (p : Sum) → mask < 65536 → Every (λ a. IsTrue (in_face mask a)) p → Every (λ a. IsTrue (in_face (mask + 65536) a)) p
every_more mask [] small u = tt
every_more mask (t ∷ p) small u = (more_face mask t.0 small u.0, every_more mask p small u.1)

pub restricted_in : (mask : ℕ) (p : Polynomial) → mask < 65536 → IsInFace (mask + 65536) (restricted mask p)
restricted_in mask p small = all_from_every (λ a. IsTrue (in_face (mask + 65536) a)) (restricted mask p).terms (every_more mask (restricted mask p).terms small (restricted_in_face mask p))

pub clearing_in : (mask : ℕ) → mask < 65536 → IsInFace (mask + 65536) (clearing (face_monomial mask))
unfolding clearing
clearing_in mask small =
    let place = both_in (mask + 65536) y (face_monomial mask) (y_in mask small) (more_face mask (face_monomial mask) small (subst (λ (a : Exponents). IsTrue (in_face mask a)) (power_one (face_monomial mask)) (power_in_face mask 1))) in
    minus_in (mask + 65536) one_polynomial (monomial (times y (face_monomial mask))) (one_in (mask + 65536)) (term_in (mask + 65536) (times y (face_monomial mask)) 1 place)

-- back: a monomial in the face and the extra variable, without the extra one
pub less_face : (mask : ℕ) (a : Exponents) → mask < 65536 → IsTrue (in_face (mask + 65536) a) → IsTrue (in_face mask (without_extra a))
unfolding in_face
less_face mask a small h = all_from (λ i. exponent (without_extra a) i == 0 || has_bit mask i) 0 17 (λ i low high. elim (cases_eq i 16) [
  | inl is ↦ (λ t. eq-eqb (exponent (without_extra a) i) 0 (ap (exponent (without_extra a)) is ∙ without_there a) t || has_bit mask i)
  | inr other ↦ (λ t. without_elsewhere a i (omega arith) other t == 0 || sym (same_bit mask i (omega arith)) t) ∙ all_at (λ k. exponent a k == 0 || has_bit (mask + 65536) k) 0 17 i h (omega arith) (omega arith)
])

no_last_bit : (mask : ℕ) → mask < 65536 → has_bit mask 16 ≡ false
no_last_bit mask small = bit_clear mask 16 (λ e. omega (arith, e, small))

pub no_extra_in_face : (mask : ℕ) (a : Exponents) → mask < 65536 → IsTrue (in_face mask a) → extra a ≡ 0
unfolding in_face
no_extra_in_face mask a small h = elim (cases_eq (exponent a 16) 0) [
  | inl none ↦ none
  | inr some ↦ absurd (let t : (exponent a 16 == 0 || has_bit mask 16) ≡ true = all_at (λ k. exponent a k == 0 || has_bit mask k) 0 17 16 h (omega arith) (omega arith) in
      let f : (exponent a 16 == 0 || has_bit mask 16) ≡ false = λ j. ne_eqb (exponent a 16) 0 some j || no_last_bit mask small j in
      let two : true ≡ false = sym t ∙ f in cc)
]

pub extra_face : (mask : ℕ) → mask < 65536 → extra (face_monomial mask) ≡ 0
extra_face mask small = no_extra_in_face mask (face_monomial mask) small (subst (λ (a : Exponents). IsTrue (in_face mask a)) (power_one (face_monomial mask)) (power_in_face mask 1))
