-- What holds of strict reading.
use Rattle.std.specs.Prelude.{◌≡◌, ℕ, ◌≤◌, ◌<◌, ◌⊎◌, List, Ok, Err}
use Rattle.std.specs.List.{AllByRecursion}
use Rattle.git_lines.specs.declared.fault.FormKind.{FormKind}
use Rattle.git_lines.specs.declared.fault.FormKind.TheVariants.{Range, Syntax}
use Rattle.git_algebra.specs.Exponents.{Exponents, exponent, degree}
use Rattle.git_algebra.specs.Polynomials.{Polynomial}
use Rattle.git_polytext.specs.Printing.{polynomial_text}
use Rattle.git_strictpoly.specs.Strict.{strict_polynomial}
use Rattle.git_limits.specs.declared.TheConstants.{COLUMNS}
use Rattle.git_strictpoly.specs.declared.limits.TheConstants.{TEXT_DEGREE}

-- a monomial in T(1) to T(r) and y, of total degree at most 2^25
pub record FitsMonomial (r : ℕ) (m : Exponents) : Type 0 where
  pub variables : (i : ℕ) → r ≤ i → i < 16 → exponent m i ≡ 0
  pub small : degree m ≤ TEXT_DEGREE

abbrev pub FitsTerm : ℕ → Exponents × ℕ → Type 0
FitsTerm r t = FitsMonomial r t.0

abbrev pub FitsPoly : ℕ → Polynomial → Type 0
FitsPoly r p = AllByRecursion (FitsTerm r) p.terms

-- what is read strictly is what is printed
abbrev pub TextsReadArePrinted : Type 0
TextsReadArePrinted = (r : ℕ) (text : List ℕ) (p : Polynomial) → r ≤ COLUMNS → strict_polynomial r text ≡ Ok p → (text ≡ polynomial_text p) × FitsPoly r p

-- what is printed is read strictly
abbrev pub PrintedTextsAreRead : Type 0
PrintedTextsAreRead = (r : ℕ) (p : Polynomial) → r ≤ COLUMNS → FitsPoly r p → strict_polynomial r (polynomial_text p) ≡ Ok p

-- a fault is of form or of range
abbrev pub FaultsAreOfFormOrRange : Type 0
FaultsAreOfFormOrRange = (r : ℕ) (text : List ℕ) (kind : FormKind) → strict_polynomial r text ≡ Err kind → (kind ≡ Syntax) ⊎ (kind ≡ Range)
