-- Inputs as values.
use Rattle.std.specs.Prelude.{ℕ, ◌≤◌, List, length, All, refl}
use Rattle.std.specs.Coded.{Coded, code_by, coded×, coded_list, coded_ℕ, coded_ℤ}
use Rattle.git_defs.specs.Vectors.{Vector}
use Rattle.git_algebra.specs.Polynomials.{Polynomial, polynomial_code}
use Rattle.git_grading.specs.Gradings.{Degrees}
use Rattle.git_poly.specs.Degrees.{AreGradedBy, IsHomogeneous}
use Rattle.git_limits.specs.declared.TheConstants.{GENERATORS, TERMS}

-- what contracts see of an input: the matrix, and the generators of the ideal
pub record InputValue : Type 0 where
  pub degrees : Degrees
  pub generators : List Polynomial

abbrev pub input_code : Coded InputValue
input_code =
    code_by (ℕ × (List Vector × List Polynomial)) (coded× coded_ℕ (coded× (coded_list (coded_list coded_ℤ)) (coded_list polynomial_code)))
    (λ v. (v.degrees.k, (v.degrees.columns, v.generators))) (λ p. record { degrees = record { k = p.0; columns = p.1.0 }; generators = p.1.1 }) (λ _. refl)

-- the polynomials may be the generators of an ideal under a grading: at most 64, each in the variables of the columns with exponents of at
-- most 64, and homogeneous; 0 may be among them
pub record AreGenerators (d : Degrees) (ps : List Polynomial) : Type 0 where
  pub few : length ps ≤ GENERATORS
  pub short : All (λ p. length p.terms ≤ TERMS) ps
  pub graded : All (AreGradedBy d.columns) ps
  pub homogeneous : All (IsHomogeneous d.k d.columns) ps
