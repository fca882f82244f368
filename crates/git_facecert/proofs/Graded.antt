-- Generators have small total degrees.
use Rattle.std.proofs.Common.{zero, suc, ℕ, ◌<◌, ◌≤◌, ◌≡◌, refl, List, [], ◌∷◌, length, get_or, sym, subst, arith}
use Rattle.std.specs.Prelude.{All}
use Rattle.git_defs.specs.Vectors.{Vector}
use Rattle.git_algebra.specs.Exponents.{Exponents, exponent, degree}
use Rattle.git_algebra.specs.Sums.{Sum}
use Rattle.git_algebra.specs.Polynomials.{Polynomial}
use Rattle.git_algebra.specs.Operations.{greatest_degree, total_degree}
use Rattle.git_algebra.proofs.Monomials.{degree_sum}
use Rattle.git_poly.specs.Degrees.{IsGradedBy, AreGradedBy}
use Rattle.git_facecert.proofs.FacePowers.{sum_small}

same_term : (ts : Sum) (k : ℕ) (d e : Exponents × ℕ) → k < length ts → get_or ts k d ≡ get_or ts k e
same_term [] k d e h = absurd (omega arith)
same_term (t ∷ ts) zero d e h = refl
same_term (t ∷ ts) (suc k) d e h = same_term ts k d e (omega arith)

terms_small : (n : ℕ) (ts : Sum) → ((k : ℕ) (d : Exponents × ℕ) → k < length ts → degree (get_or ts k d).0 ≤ n) → greatest_degree ts ≤ n
terms_small n [] each = omega arith
terms_small n (t ∷ ts) each = omega (arith, each 0 t (omega arith), terms_small n ts (λ k d h. each (suc k) d (omega arith)))

monomial_small : (columns : List Vector) (a : Exponents) → IsGradedBy columns a → degree a ≤ 1088
monomial_small columns a g = omega (arith, degree_sum a, sum_small (exponent a) 64 0 17 (λ k low high. g.small k))

pub graded_small : (columns : List Vector) (p : Polynomial) → AreGradedBy columns p → total_degree p ≤ 1088
graded_small columns p g = terms_small 1088 p.terms (λ k d h. monomial_small columns (get_or p.terms k d).0 (g (get_or p.terms k d).0 (record {
  number = (get_or p.terms k d).1;
  term = (k, h, same_term p.terms k _ d h);
})))

pub all_small : (columns : List Vector) (ps qs : List Polynomial) → qs ≡ ps → All (AreGradedBy columns) ps → All (λ p. total_degree p ≤ 33554432) qs
all_small columns ps qs e all = subst (λ (rs : List Polynomial). All (λ p. total_degree p ≤ 33554432) rs) (sym e) (λ k d h. omega (arith, graded_small columns (get_or ps k d) (all k d h)))
