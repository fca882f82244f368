-- What an S-polynomial is made of, and its degrees.
use Rattle.std.proofs.Common.{ℕ, ◌+◌, ◌*◌, ◌%◌, ◌<◌, ◌≡◌, refl, Some, sym, ◌∙◌, ap, subst, arith}
use Rattle.git_algebra.specs.Exponents.{Exponents, times, quotient, lcm, degree, Divides}
use Rattle.git_algebra.specs.Polynomials.{Polynomial}
use Rattle.git_algebra.specs.Operations.{minus, times_term, lead_of, total_degree}
use Rattle.git_algebra.proofs.Monomials.{times_comm, times-quotient, degree-times, lcm_multiple}
use Rattle.git_algebra.proofs.Products.{total_degree-lead}
use Rattle.git_ideals.specs.Division.{IsRaised, IsSPolynomial}
use Rattle.git_ideals.proofs.SPolynomials.{lead_of-times_term, same_lead}
use Rattle.git_reduce.specs.Steps.{IsMultipleAbove}

raised_by : (m : Exponents) (p : Polynomial) (t : Exponents × ℕ) (w : Exponents) (n : ℕ) → lead_of p ≡ Some t → Divides t.0 m → w ≡ quotient m t.0 → (t.1 * n) % 32003 ≡ 1 → IsRaised m p (times_term w n p)
raised_by m p t w n e d is one =
    let place : times w t.0 ≡ m = (λ i. times (is i) t.0) ∙ times_comm (quotient m t.0) t.0 ∙ times-quotient t.0 m d in
    let monic : (n * t.1) % 32003 ≡ 1 = ap (λ k. k % 32003) (let c : n * t.1 ≡ t.1 * n = omega arith in c) ∙ one in
    record {
      factor = w;
      number = n;
      multiple = refl;
      is_lead = lead_of-times_term p t w n e (omega (arith, monic)) ∙ (λ i. Some (place i, monic i));
    }

pub first_divides : (m a b : Exponents) → m ≡ lcm a b → Divides a m
first_divides m a b e = subst (Divides a) (sym e) (lcm_multiple a b).0

pub second_divides : (m a b : Exponents) → m ≡ lcm a b → Divides b m
second_divides m a b e = subst (Divides b) (sym e) (lcm_multiple a b).1

pub is_s_polynomial : (f g first s : Polynomial) (t u : Exponents × ℕ) (m v w : Exponents) (n k : ℕ) → lead_of f ≡ Some t → lead_of g ≡ Some u → m ≡ lcm t.0 u.0 → v ≡ quotient m t.0 → (t.1 * n) % 32003 ≡ 1 → w ≡ quotient m u.0 → (u.1 * k) % 32003 ≡ 1
    → first ≡ times_term v n f → s ≡ minus first (times_term w k g) → IsSPolynomial f g s
is_s_polynomial f g first s t u m v w n k a b e is one other unit made difference = record {
  lead = t;
  is_lead = a;
  other = u;
  is_other = b;
  first = first;
  second = times_term w k g;
  first_is = subst (λ (l : Exponents). IsRaised l f first) e (subst (λ (p : Polynomial). IsRaised m f p) (sym made) (raised_by m f t v n a (first_divides m t.0 u.0 e) is one));
  second_is = subst (λ (l : Exponents). IsRaised l g (times_term w k g)) e (raised_by m g u w k b (second_divides m t.0 u.0 e) other unit);
  difference = difference;
}

pub too_high : (limit : ℕ) (f g : Polynomial) (t u : Exponents × ℕ) → lead_of f ≡ Some t → lead_of g ≡ Some u → limit < degree (lcm t.0 u.0) → IsMultipleAbove limit f g
too_high limit f g t u a b h = record { lead = t; is_lead = a; other = u; is_other = b; above = h }

pub not_too_high : (limit : ℕ) (f g : Polynomial) (t u : Exponents × ℕ) → lead_of f ≡ Some t → lead_of g ≡ Some u → (limit < degree (lcm t.0 u.0) → ⊥) → IsMultipleAbove limit f g → ⊥
not_too_high limit f g t u a b not h =
    not (subst (λ (v : Exponents × ℕ). limit < degree (lcm v.0 u.0)) (same_lead f h.lead t h.is_lead a) (subst (λ (v : Exponents × ℕ). limit < degree (lcm h.lead.0 v.0)) (same_lead g h.other u h.is_other b) h.above))

-- the degree of what is raised to m is that of m
pub raised_degree : (limit : ℕ) (p : Polynomial) (t : Exponents × ℕ) (m w : Exponents) → lead_of p ≡ Some t → Divides t.0 m → w ≡ quotient m t.0 → limit < degree w + total_degree p → limit < degree m
raised_degree limit p t m w e d is h = omega (arith, h, total_degree-lead p t e, ap degree is, degree-times t.0 (quotient m t.0), ap degree (times-quotient t.0 m d))
