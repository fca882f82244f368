use Rattle.git_algebra.proofs.Normal.{coefficient_below}
use Rattle.git_algebra.proofs.Coefficients.{polynomial_from_coefficients, coefficient-plus, coefficient-minus, coefficient-scaled}
use Rattle.git_algebra.proofs.coefficients_fix_polynomials.Goals as goal

pub returns : goal.returns
returns c = record {
  fix = polynomial_from_coefficients;
  below = λ p m. coefficient_below p.terms p.proper m;
  sum = coefficient-plus;
  difference = coefficient-minus;
  multiple = coefficient-scaled;
}
