-- What holds of the lines of polynomials.
use Rattle.std.specs.Prelude.{◌≡◌, ℕ, ◌≤◌, ◌<◌, ◌^◌, ◌&&◌, ◌==◌, not, true, List, length, Ok, Err, ◌⊎◌}
use Rattle.std.specs.List.{list_all}
use Rattle.git_lines.specs.declared.fault.FormKind.TheVariants.{Range, Syntax}
use Rattle.git_lines.specs.Lines.{IsColumnOf}
use Rattle.git_defs.specs.Vectors.{Vector}
use Rattle.git_algebra.specs.Exponents.{Exponents, exponent}
use Rattle.git_algebra.specs.Polynomials.{Polynomial}
use Rattle.git_poly.specs.Degrees.{HasMonomial, AreGradedBy}
use Rattle.git_polytext.specs.declared.fault.PolynomialFault.{PolynomialFault}
use Rattle.git_polytext.specs.declared.fault.PolynomialFault.TheVariants.{Form, Variable, NoMemory}
use Rattle.git_polytext.specs.Reading.{polynomial_line}
use Rattle.git_polytext.specs.Grammar.{IsPolynomialLine}
use Rattle.git_polytext.specs.Printing.{polynomial_text}
use Rattle.git_limits.specs.declared.TheConstants.{COLUMNS}

-- the value that is read of a line is that of the grammar
abbrev pub LinesReadAreLines : Type 0
LinesReadAreLines = (r line : ℕ) (content : List ℕ) (p : Polynomial) → polynomial_line r line content ≡ Ok p → IsPolynomialLine r content p

-- the value that a line has in the grammar is read of it, where there are at most sixteen variables
abbrev pub LinesAreRead : Type 0
LinesAreRead = (r line : ℕ) (content : List ℕ) (p : Polynomial) → r ≤ COLUMNS → IsPolynomialLine r content p → polynomial_line r line content ≡ Ok p

-- a line has one value at most
abbrev pub LinesHaveOneValue : Type 0
LinesHaveOneValue = (r : ℕ) (content : List ℕ) (p q : Polynomial) → r ≤ COLUMNS → IsPolynomialLine r content p → IsPolynomialLine r content q → p ≡ q

-- a fault within the line with this number and so many bytes, or one past its end, of a kind that comes
abbrev pub IsFaultOf : ℕ → ℕ → PolynomialFault → Type 0
IsFaultOf line size (Form f) = (f.line ≡ line) × IsColumnOf size f.column × ((f.kind ≡ Syntax) ⊎ (f.kind ≡ Range))
IsFaultOf line size (Variable at column) = (at ≡ line) × IsColumnOf size column
IsFaultOf line size NoMemory = ⊥

-- the faults of a line lie in it or one past its end, and want of memory is none of them
abbrev pub FaultsLieInTheLine : Type 0
FaultsLieInTheLine = (r line : ℕ) (content : List ℕ) (e : PolynomialFault) → polynomial_line r line content ≡ Err e → IsFaultOf line (length content) e

-- the monomials of a line are ones in its variables, with exponents of at most 64
abbrev pub LinesAreGraded : Type 0
LinesAreGraded = (columns : List Vector) (content : List ℕ) (p : Polynomial) → IsPolynomialLine (length columns) content p → AreGradedBy columns p

-- a polynomial of at most two hundred such monomials is read back from its text
abbrev pub PolynomialsAreReadBack : Type 0
PolynomialsAreReadBack = (columns : List Vector) (p : Polynomial) → length columns ≤ COLUMNS → AreGradedBy columns p → length p.terms ≤ 200
    → IsPolynomialLine (length columns) (polynomial_text p) p

-- no space, no line feed and no carriage return
abbrev pub IsPlain : List ℕ → Type 0
IsPlain text = list_all (λ b. not (b == 32) && not (b == 10) && not (b == 13)) text ≡ true

-- the text of a polynomial whose exponents have at most eighteen digits is one line without spaces
abbrev pub PolynomialTextsArePlain : Type 0
PolynomialTextsArePlain = (p : Polynomial) → ((a : Exponents) (i : ℕ) → HasMonomial p a → exponent a i < 10 ^ 18) → IsPlain (polynomial_text p)
