-- What shows that a face is an a-face, or none.
use Rattle.std.proofs.Common.{zero, suc, ℕ, ◌+◌, ◌*◌, ◌^◌, ◌<◌, ◌≤◌, ◌≡◌, refl, List, [], ◌∷◌, map, length, get_or, Bool, true, false, Some, sym, ◌∙◌, ap, subst, arith, inl, inr, eq-eqb}
use Rattle.std.specs.Prelude.{◌==◌, ◌||◌, ◌&&◌, ◌↔◌, All, IsTrue, if◌then◌else◌}
use Rattle.std.specs.List.{list_all, range_with_len, sum_by}
use Rattle.std.proofs.lemmas.Bool.{cases_eq, ne_eqb}
use Rattle.std.proofs.lemmas.List.Sums.{get_or-le-sum_by}
use Rattle.std.proofs.lemmas.List.FromFn.{get_or-range_with_len}
use Rattle.git_algebra.specs.Exponents.{Exponents, exponent, times, quotient, one, power, degree, in_face, Divides}
use Rattle.git_algebra.specs.Sums.{Sum, unit}
use Rattle.git_algebra.specs.Polynomials.{Polynomial}
use Rattle.git_algebra.specs.Operations.{zero_polynomial, one_polynomial, restricted}
use Rattle.git_algebra.proofs.Monomials.{exponent-by, exponent-power, times_comm, divides_at_places, degree_sum}
use Rattle.git_algebra.proofs.Ranks.{one_from_times}
use Rattle.git_algebra.proofs.Congruence.{mod_is, alike_sym}
use Rattle.git_ideals.specs.Ideals.{InIdeal, HasPower, monomial, clearing, HasNoExtra}
use Rattle.git_ideals.specs.Division.{SomeLeadDivides}
use Rattle.git_ideals.specs.Faces.{face_monomial, IsAFace, IsMonomialProof, IsFreeProof}
use Rattle.git_ideals.proofs.SumIdeals.{SumInIdeal, AllSumsIn, ideal_alike, ideal-product, ideal_trans, ideal_here, all_there, all_self}
use Rattle.git_ideals.proofs.ExtraVariable.{single, clear, NoExtra, AllNoExtra, PowerIn, unit_from_power, power_from_unit}
use Rattle.git_ideals.proofs.Reductions.{unit_lead}
use Rattle.git_ideals.proofs.Conversions.{terms_of, to_sums, from_sums, monomial_alike, one_alike, clearing_alike}
use Rattle.git_ideals.proofs.Buchberger.{sums_criterion}
use Rattle.git_ideals.proofs.Divisions.{within as within_list, zero_in}
use Rattle.git_bits.specs.Bits.{has_bit}

pub all_at : (p : ℕ → Bool) (a n i : ℕ) → list_all p (range_with_len a n) ≡ true → a ≤ i → i < a + n → p i ≡ true
all_at p a zero i e low high = absurd (omega arith)
all_at p a (suc n) i e low high = elim (cases_eq i a) [
  | inl here ↦ ap p here ∙ first (p a) (list_all p (range_with_len (a + 1) n)) e
  | inr there ↦ all_at p (a + 1) n i (second (p a) (list_all p (range_with_len (a + 1) n)) e) (omega arith) (omega arith)
]
  where
    first : (b c : Bool) → (b && c) ≡ true → b ≡ true
    first true c e = refl
    first false c e = e

    second : (b c : Bool) → (b && c) ≡ true → c ≡ true
    second true c e = e
    second false true e = refl
    second false false e = e

pub all_from : (p : ℕ → Bool) (a n : ℕ) → ((i : ℕ) → a ≤ i → i < a + n → p i ≡ true) → list_all p (range_with_len a n) ≡ true
all_from p a zero each = refl
all_from p a (suc n) each = (λ i. each a (omega arith) (omega arith) i && list_all p (range_with_len (a + 1) n)) ∙ all_from p (a + 1) n (λ k low high. each k (omega arith) (omega arith))

pub exponent-face : (mask i : ℕ) → i < 17 → exponent (face_monomial mask) i ≡ (if has_bit mask i then 1 else 0)
unfolding face_monomial
exponent-face mask i h = exponent-by (λ k. if has_bit mask k then 1 else 0) i h

pub place_le : (m : Exponents) (i : ℕ) → i < 17 → exponent m i ≤ degree m
place_le m i h = omega (arith, degree_sum m, at_place)
  where
    at_place : exponent m i ≤ sum_by (exponent m) (range_with_len 0 17)
    at_place = subst (λ (k : ℕ). exponent m k ≤ sum_by (exponent m) (range_with_len 0 17)) (get_or-range_with_len 0 17 i 0 h ∙ omega arith) (get_or-le-sum_by (exponent m) (range_with_len 0 17) i 0 h)

-- a monomial in the face's variables divides a power
pub divides_power : (mask : ℕ) (m : Exponents) → IsTrue (in_face mask m) → Divides m (power (face_monomial mask) (degree m))
unfolding in_face
divides_power mask m within = record { cofactor = quotient (power (face_monomial mask) (degree m)) m; product = divides_at_places m (power (face_monomial mask) (degree m)) each }
  where
    bound : (i : ℕ) (b : Bool) → exponent m i ≤ degree m → (exponent m i == 0 || b) ≡ true → exponent m i ≤ degree m * (if b then 1 else 0)
    bound i true le e = omega arith
    bound i false le e = elim (cases_eq (exponent m i) 0) [
      | inl none ↦ omega arith
      | inr some ↦ absurd (let f : (exponent m i == 0 || false) ≡ false = (λ j. ne_eqb (exponent m i) 0 some j || false) in let g : true ≡ false = sym e ∙ f in cc)
    ]

    each : (i : ℕ) → i < 17 → exponent m i ≤ exponent (power (face_monomial mask) (degree m)) i
    each i h =
        let e : exponent (power (face_monomial mask) (degree m)) i ≡ degree m * (if has_bit mask i then 1 else 0) = exponent-power (face_monomial mask) (degree m) i ∙ ap (λ n. degree m * n) (exponent-face mask i h) in
        omega (arith, e, bound i (has_bit mask i) (place_le m i h) (all_at (λ k. exponent m k == 0 || has_bit mask k) 0 17 i within (omega arith) (omega arith)))

-- the powers of the product of the face's variables are in them
pub power_in_face : (mask n : ℕ) → IsTrue (in_face mask (power (face_monomial mask) n))
unfolding in_face
power_in_face mask n = all_from (λ k. exponent (power (face_monomial mask) n) k == 0 || has_bit mask k) 0 17 (λ i low high. each i (omega arith))
  where
    by : (i : ℕ) (b : Bool) → exponent (power (face_monomial mask) n) i ≡ n * (if b then 1 else 0) → (exponent (power (face_monomial mask) n) i == 0 || b) ≡ true
    by i true e = or_true (exponent (power (face_monomial mask) n) i == 0)
      where
        or_true : (c : Bool) → (c || true) ≡ true
        or_true true = refl
        or_true false = refl
    by i false e = λ j. eq-eqb (exponent (power (face_monomial mask) n) i) 0 (e ∙ omega arith) j || false

    each : (i : ℕ) → i < 17 → (exponent (power (face_monomial mask) n) i == 0 || has_bit mask i) ≡ true
    each i h = by i (has_bit mask i) (exponent-power (face_monomial mask) n i ∙ ap (λ k. n * k) (exponent-face mask i h))

pub no_a_face : (generators : List Polynomial) (mask n : ℕ) (cofactors : List Polynomial) → IsMonomialProof generators mask n cofactors → IsAFace generators mask → ⊥
no_a_face generators mask n cofactors h is_a_face = is_a_face (power (face_monomial mask) n) (power_in_face mask n) cofactors h.variables h.sum

-- a monomial of the face in an ideal gives a power
power_in : (fs : List Sum) (mask : ℕ) (m : Exponents) → IsTrue (in_face mask m) → SumInIdeal fs (single m) → SumInIdeal fs (single (power (face_monomial mask) (degree m)))
power_in fs mask m within h =
    let d : Divides m (power (face_monomial mask) (degree m)) = divides_power mask m within in
    ideal_alike (ideal-product (single d.cofactor) h) (record { values = λ f. mod_is (let e : f (times d.cofactor m) ≡ f (power (face_monomial mask) (degree m)) = ap f (times_comm d.cofactor m ∙ d.product) in omega (arith, e)) })

restricted_in : (members : List Polynomial) (mask : ℕ) (generators : List Polynomial) → ((k : ℕ) (d : Polynomial) → k < length generators → SumInIdeal (terms_of members) (restricted mask (get_or generators k d)).terms) → AllSumsIn (terms_of members) (terms_of (map (restricted mask) generators))
restricted_in members mask [] each = tt
restricted_in members mask (f ∷ fs) each = (each 0 f (omega arith), restricted_in members mask fs (λ k d h. each (suc k) d (omega arith)))

pub a_face : (generators : List Polynomial) (mask : ℕ) (members : List Polynomial) → IsFreeProof generators mask members → IsAFace generators mask
a_face generators mask members h m within cofactors variables sum =
    let e : Exponents = face_monomial mask in
    let fs : List Sum = terms_of (map (restricted mask) generators) in
    let monomial_in : SumInIdeal (terms_of (map (restricted mask) generators)) (single m) = ideal_alike (to_sums (map (restricted mask) generators) (monomial m) (record { cofactors = cofactors; sum = sum })) (monomial_alike m) in
    let one_in : SumInIdeal (clear (face_monomial mask) ∷ terms_of (map (restricted mask) generators)) unit =
    unit_from_power (terms_of (map (restricted mask) generators)) (face_monomial mask) (degree m) (power_in (terms_of (map (restricted mask) generators)) mask m within monomial_in) in
    let all : AllSumsIn (terms_of members) (clear (face_monomial mask) ∷ terms_of (map (restricted mask) generators)) = (
      ideal_alike (zero_in members (clearing (face_monomial mask)) h.clearing_divides) (clearing_alike (face_monomial mask)),
      restricted_in members mask generators (λ k d lt. zero_in members (restricted mask (get_or generators k d)) (h.generators_divide k d lt)),
    ) in
    let found : SomeLeadDivides members one = sums_criterion members h.nonzero h.pairs_divide unit (ideal_trans (clear (face_monomial mask) ∷ terms_of (map (restricted mask) generators)) all one_in) one unit_lead in
    let divisor : Divides found.divides.lead.0 one = found.divides.divides in
    let is_one : found.divides.lead.0 ≡ one = one_from_times divisor.cofactor found.divides.lead.0 (times_comm divisor.cofactor found.divides.lead.0 ∙ divisor.product) in
    h.no_unit found.place zero_polynomial (within_list members found.place found.divides.lead found.divides.is_lead) found.divides.lead.1 (found.divides.is_lead ∙ (λ i. Some (is_one i, found.divides.lead.1)))

-- the extra variable, both ways
no_extra : (p : Sum) → All (λ t. exponent t.0 16 ≡ 0) p → NoExtra p
no_extra [] u = tt
no_extra (t ∷ p) u = (u 0 t (omega arith), no_extra p (λ k d h. u (suc k) d (omega arith)))

all_no_extra : (fs : List Polynomial) → All HasNoExtra fs → AllNoExtra (terms_of fs)
all_no_extra [] u = tt
all_no_extra (f ∷ fs) u = (no_extra f.terms (u 0 f (omega arith)), all_no_extra fs (λ k d h. u (suc k) d (omega arith)))

with_clearing : (e : Exponents) (fs : List Polynomial) {p : Sum} → SumInIdeal (clear e ∷ terms_of fs) p → SumInIdeal (terms_of (clearing e ∷ fs)) p
with_clearing e fs h = ideal_trans (clear e ∷ terms_of fs) (ideal_alike (ideal_here (clearing e).terms (terms_of fs)) (clearing_alike e), all_there (clearing e).terms (terms_of fs) (terms_of fs) (all_self (terms_of fs))) h

without_clearing : (e : Exponents) (fs : List Polynomial) {p : Sum} → SumInIdeal (terms_of (clearing e ∷ fs)) p → SumInIdeal (clear e ∷ terms_of fs) p
without_clearing e fs h = ideal_trans (terms_of (clearing e ∷ fs)) (ideal_alike (ideal_here (clear e) (terms_of fs)) (alike_sym (clearing_alike e)), all_there (clear e) (terms_of fs) (terms_of fs) (all_self (terms_of fs))) h

pub extra_variable : (fs : List Polynomial) (e : Exponents) → All HasNoExtra fs → exponent e 16 ≡ 0 → HasPower fs e ↔ InIdeal (clearing e ∷ fs) one_polynomial
extra_variable fs e free none = (forwards, backwards)
  where
    forwards : HasPower fs e → InIdeal (clearing e ∷ fs) one_polynomial
    forwards h = from_sums (clearing e ∷ fs) one_polynomial (ideal_alike (with_clearing e fs
        (unit_from_power (terms_of fs) e h.exponent (ideal_alike (to_sums fs (monomial (power e h.exponent)) h.inside) (monomial_alike (power e h.exponent))))) (alike_sym one_alike))

    backwards : InIdeal (clearing e ∷ fs) one_polynomial → HasPower fs e
    backwards h =
        let k : PowerIn (terms_of fs) e = power_from_unit (terms_of fs) e none (all_no_extra fs free) (without_clearing e fs (ideal_alike (to_sums (clearing e ∷ fs) one_polynomial h) one_alike)) in
        record { exponent = k.exponent; inside = from_sums fs (monomial (power e k.exponent)) (ideal_alike k.inside (alike_sym (monomial_alike (power e k.exponent)))) }
