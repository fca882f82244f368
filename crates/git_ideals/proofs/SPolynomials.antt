-- S-polynomials of polynomials: there is one, and it is that of the monic members.
use Rattle.std.proofs.Common.{ℕ, ◌+◌, ◌*◌, ◌%◌, ◌<◌, ◌≤◌, ◌≡◌, ◌⊎◌, refl, Some, sym, ◌∙◌, ap, subst, arith, inl, inr}
use Rattle.std.proofs.lemmas.Bool.{cases_lt}
use Rattle.std.proofs.Math.Nat.{mul_assoc, mul_comm}
use Rattle.git_field.proofs.Inverses.{inverse_of, product-inverse_of}
use Rattle.git_algebra.specs.Exponents.{Exponents, times, quotient, lcm, one}
use Rattle.git_algebra.specs.Order.{rank}
use Rattle.git_algebra.specs.Sums.{Sum, value, shift, coefficient, Mod, Alike}
use Rattle.git_algebra.specs.Polynomials.{Polynomial}
use Rattle.git_algebra.specs.Operations.{minus, times_term, lead_of}
use Rattle.git_algebra.proofs.Monomials.{times_comm, times_cancel, quotient-lcm, lcm_comm}
use Rattle.git_algebra.proofs.Values.{value-append, value-shift}
use Rattle.git_algebra.proofs.Congruence.{mod_refl, mod_is, mod_sym, mod_trans, mod_add, mod_mul, alike_sym}
use Rattle.git_algebra.proofs.Leads.{coefficient-shift, coefficient-shift_none, below-shift, divides_or_not, below_alike}
use Rattle.git_algebra.proofs.Normal.{normal_alike, same_normal, coefficient-normal}
use Rattle.git_algebra.proofs.Ring.{value-shift_one}
use Rattle.git_algebra.proofs.Products.{lead_of-normal}
use Rattle.git_ideals.specs.Division.{IsRaised, IsSPolynomial}
use Rattle.git_ideals.proofs.Reductions.{s_sum, s_sum_below}
use Rattle.git_ideals.proofs.Cancelling.{number_of_lead, lead_below, lead_number, less_values, height, low_height, monic_sum}
use Rattle.git_ideals.proofs.Membership.{member_of}

-- numbers modulo 32003 with one product by a number other than 0 are one
pub same_number : (n k c a : ℕ) → 0 < c → c < 32003 → (n * c) % 32003 ≡ a → (k * c) % 32003 ≡ a → Mod n k
same_number n k c a some below e d = mod_trans (mod_sym (back n)) (mod_trans (mod_mul (record { same = e ∙ sym d }) (mod_refl (inverse_of c))) (back k))
  where
    back : (m : ℕ) → Mod (m * c * inverse_of c) m
    back m = mod_trans (mod_is (mul_assoc m c (inverse_of c))) (mod_trans (mod_mul {b = m} {d = 1} (mod_refl m) (record { same = product-inverse_of c some below })) (mod_is (omega arith)))

-- the lead of a multiple by a term
pub lead_of-times_term : (p : Polynomial) (t : Exponents × ℕ) (w : Exponents) (n : ℕ) → lead_of p ≡ Some t → 0 < (n * t.1) % 32003 → lead_of (times_term w n p) ≡ Some (times w t.0, (n * t.1) % 32003)
unfolding times_term
lead_of-times_term p t w n e some =
    lead_of-normal (shift w n p.terms) (times w t.0) (record {
      some = λ none. absurd (omega (arith, none.same, number));
      above = below-shift w n p.terms t.0 (lead_below p t e);
    })
    ∙ ap (λ k. Some (times w t.0, k % 32003)) number
  where
    number : coefficient (shift w n p.terms) (times w t.0) ≡ n * t.1
    number = coefficient-shift w n p.terms t.0 ∙ ap (λ k. n * k) (lead_number p t e)

pub times_term-mod : (m : Exponents) (c d : ℕ) (p : Polynomial) → Mod c d → times_term m c p ≡ times_term m d p
unfolding times_term
times_term-mod m c d p h = same_normal (record {
  values = λ f. mod_trans (mod_is (value-shift f m c p.terms)) (mod_trans (mod_mul h (mod_refl (value (λ a. f (times m a)) p.terms))) (mod_is (sym (value-shift f m d p.terms))));
})

-- what is raised to m
abbrev pub raised : Exponents → Polynomial → Exponents × ℕ → Polynomial
raised m p t = times_term (quotient m t.0) (inverse_of t.1) p

pub is_raised : (m : Exponents) (p : Polynomial) (t : Exponents × ℕ) → lead_of p ≡ Some t → times (quotient m t.0) t.0 ≡ m → IsRaised m p (raised m p t)
is_raised m p t e d =
    let k = number_of_lead p t e in
    let monic : (inverse_of t.1 * t.1) % 32003 ≡ 1 = ap (λ n. n % 32003) (mul_comm (inverse_of t.1) t.1) ∙ product-inverse_of t.1 k.0 k.1 in
    record {
      factor = quotient m t.0;
      number = inverse_of t.1;
      multiple = refl;
      is_lead = lead_of-times_term p t (quotient m t.0) (inverse_of t.1) e (omega (arith, monic)) ∙ (λ i. Some (d i, monic i));
    }

-- a factor of what is raised
record Raises (m : Exponents) (p : Polynomial) (t : Exponents × ℕ) (w : Exponents) (n : ℕ) : Type 0 where
  place : times w t.0 ≡ m
  monic : (n * t.1) % 32003 ≡ 1

coefficient-multiple : (w : Exponents) (n : ℕ) (p : Polynomial) (m : Exponents) → coefficient (times_term w n p).terms m ≡ coefficient (shift w n p.terms) m % 32003
unfolding times_term
coefficient-multiple w n p m = coefficient-normal (shift w n p.terms) m

raises : (m : Exponents) (p q : Polynomial) (t : Exponents × ℕ) → lead_of p ≡ Some t → (r : IsRaised m p q) → Raises m p t r.factor r.number
raises m p q t e r = by (coefficient_there (divides_or_not r.factor m))
  where
    is_one : coefficient (times_term r.factor r.number p).terms m ≡ 1
    is_one = ap (λ (s : Polynomial). coefficient s.terms m) (sym r.multiple) ∙ lead_number q (m, 1) r.is_lead

    number_there : coefficient (shift r.factor r.number p.terms) m % 32003 ≡ 1
    number_there = sym (coefficient-multiple r.factor r.number p m) ∙ is_one

    coefficient_there : ((k : Exponents) × (times r.factor k ≡ m)) ⊎ ((k : Exponents) → times r.factor k ≡ m → ⊥) → 0 < (r.number * t.1) % 32003
    coefficient_there (inr none) = absurd (omega (arith, number_there, coefficient-shift_none r.factor r.number p.terms m none))
    coefficient_there (inl k) = elim (cases_lt 0 ((r.number * t.1) % 32003)) [
      | inl some ↦ some
      | inr not ↦ absurd (let none : Mod r.number 0 = vanishes (omega arith) in
          let all : coefficient (shift r.factor r.number p.terms) m ≡ r.number * coefficient p.terms k.0 = ap (coefficient (shift r.factor r.number p.terms)) (sym k.1) ∙ coefficient-shift r.factor r.number p.terms k.0 in
          let zero_there : Mod (r.number * coefficient p.terms k.0) (0 * coefficient p.terms k.0) = mod_mul none (mod_refl (coefficient p.terms k.0)) in
          omega (arith, number_there, all, zero_there.same))
    ]
      where
        vanishes : (r.number * t.1) % 32003 ≡ 0 → Mod r.number 0
        vanishes z = let u = number_of_lead p t e in same_number r.number 0 t.1 0 u.0 u.1 z (omega arith)

    by : 0 < (r.number * t.1) % 32003 → Raises m p t r.factor r.number
    by some =
        let leads : Some (times r.factor t.0, (r.number * t.1) % 32003) ≡ Some (m, 1) = sym (lead_of-times_term p t r.factor r.number e some) ∙ ap lead_of (sym r.multiple) ∙ r.is_lead in
        let same : (times r.factor t.0, (r.number * t.1) % 32003) ≡ (m, 1) = cc in
        record { place = ap (λ (v : Exponents × ℕ). v.0) same; monic = ap (λ (v : Exponents × ℕ). v.1) same }

pub raised_once : (m : Exponents) (p q r : Polynomial) (t : Exponents × ℕ) → lead_of p ≡ Some t → IsRaised m p q → IsRaised m p r → q ≡ r
raised_once m p q r t e h k =
    let a : Raises m p t h.factor h.number = raises m p q t e h in
    let b : Raises m p t k.factor k.number = raises m p r t e k in
    let u = number_of_lead p t e in
    let factor : h.factor ≡ k.factor = times_cancel t.0 h.factor k.factor (times_comm t.0 h.factor ∙ a.place ∙ sym b.place ∙ times_comm k.factor t.0) in
    h.multiple
    ∙ (λ i. times_term (factor i) h.number p)
    ∙ times_term-mod k.factor h.number k.number p (same_number h.number k.number t.1 1 u.0 u.1 a.monic b.monic)
    ∙ sym k.multiple

pub same_lead : (p : Polynomial) (t u : Exponents × ℕ) → lead_of p ≡ Some t → lead_of p ≡ Some u → t ≡ u
same_lead p t u a b = let two : Some t ≡ Some u = sym a ∙ b in cc

pub one_s_polynomial : (f g s t : Polynomial) → IsSPolynomial f g s → IsSPolynomial f g t → s ≡ t
one_s_polynomial f g s t h k =
    let lead : k.lead ≡ h.lead = same_lead f k.lead h.lead k.is_lead h.is_lead in
    let other : k.other ≡ h.other = same_lead g k.other h.other k.is_other h.is_other in
    let m : lcm k.lead.0 k.other.0 ≡ lcm h.lead.0 h.other.0 = λ i. lcm (lead i).0 (other i).0 in
    let first : h.first ≡ k.first = raised_once (lcm h.lead.0 h.other.0) f h.first k.first h.lead h.is_lead h.first_is (subst (λ (n : Exponents). IsRaised n f k.first) m k.first_is) in
    let second : h.second ≡ k.second = raised_once (lcm h.lead.0 h.other.0) g h.second k.second h.other h.is_other h.second_is (subst (λ (n : Exponents). IsRaised n g k.second) m k.second_is) in
    h.difference ∙ (λ i. minus (first i) (second i)) ∙ sym k.difference

quotient-lcm_second : (a b : Exponents) → times (quotient (lcm a b) b) b ≡ lcm a b
quotient-lcm_second a b = (λ i. times (quotient (lcm_comm a b i) b) b) ∙ quotient-lcm b a ∙ lcm_comm b a

-- the S-polynomial
abbrev pub s_of : Polynomial → Polynomial → Exponents × ℕ → Exponents × ℕ → Polynomial
s_of f g t u = minus (raised (lcm t.0 u.0) f t) (raised (lcm t.0 u.0) g u)

pub s_of_is : (f g : Polynomial) (t u : Exponents × ℕ) → lead_of f ≡ Some t → lead_of g ≡ Some u → IsSPolynomial f g (s_of f g t u)
s_of_is f g t u a b = record {
  lead = t;
  is_lead = a;
  other = u;
  is_other = b;
  first = raised (lcm t.0 u.0) f t;
  second = raised (lcm t.0 u.0) g u;
  first_is = is_raised (lcm t.0 u.0) f t a (quotient-lcm t.0 u.0);
  second_is = is_raised (lcm t.0 u.0) g u b (quotient-lcm_second t.0 u.0);
  difference = refl;
}

-- it is that of the monic members
pub s_of_alike : (f g : Polynomial) (t u : Exponents × ℕ) (a : lead_of f ≡ Some t) (b : lead_of g ≡ Some u) → Alike (s_of f g t u).terms (s_sum (member_of f t a) (member_of g u b))
unfolding member_of times_term
s_of_alike f g t u a b = record {
  values = λ h.
      mod_trans (less_values (raised (lcm t.0 u.0) f t) g (quotient (lcm t.0 u.0) u.0) (inverse_of u.1) h)
      (mod_trans (mod_add (mod_trans ((normal_alike (shift (quotient (lcm t.0 u.0) t.0) (inverse_of t.1) f.terms)).values h) (mod_is (value-shift h (quotient (lcm t.0 u.0) t.0) (inverse_of t.1) f.terms))) (mod_refl (32002 * (inverse_of u.1 * value (λ c. h (times (quotient (lcm t.0 u.0) u.0) c)) g.terms))))
      (mod_is (sym (value-append h (shift (quotient (lcm t.0 u.0) t.0) 1 (monic_sum f t.1)) (shift (quotient (lcm t.0 u.0) u.0) 32002 (monic_sum g u.1))
      ∙ (λ i. one_part h (quotient (lcm t.0 u.0) t.0) 1 (inverse_of t.1) f.terms i + one_part h (quotient (lcm t.0 u.0) u.0) 32002 (inverse_of u.1) g.terms i)
      ∙ omega arith))));
}
  where
    one_part : (h : Exponents → ℕ) (w : Exponents) (c n : ℕ) (p : Sum) → value h (shift w c (shift one n p)) ≡ c * (n * value (λ b. h (times w b)) p)
    one_part h w c n p = value-shift h w c (shift one n p) ∙ ap (λ k. c * k) (value-shift_one (λ b. h (times w b)) n p)

-- it ranks below the least common multiple
pub s_of_low : (f g : Polynomial) (t u : Exponents × ℕ) → lead_of f ≡ Some t → lead_of g ≡ Some u → height (s_of f g t u) ≤ rank (lcm t.0 u.0)
unfolding member_of
s_of_low f g t u a b = low_height (rank (lcm t.0 u.0)) (s_of f g t u).terms (s_of f g t u).proper (below_alike (alike_sym (s_of_alike f g t u a b)) (s_sum_below (member_of f t a) (member_of g u b)))
