-- What holds of degrees with torsion.
use Rattle.std.specs.Prelude.{◌≡◌, ◌↔◌, List, []}
use Rattle.git_grading.specs.Gradings.{Degrees}
use Rattle.git_algebra.specs.Exponents.{Exponents}
use Rattle.git_algebra.specs.Polynomials.{Polynomial}
use Rattle.git_poly.specs.Degrees as plain
use Rattle.git_degrees.specs.Torsions.{TorsionRow}
use Rattle.git_degrees.specs.Degrees.{AreOfOneDegree, AreApart, IsHomogeneous, AreApartAsRead, apart}

-- the monomials that are found apart are those of the definition
abbrev pub MonomialsApartAreFound : Type 0
MonomialsApartAreFound = (d : Degrees) (rows : List TorsionRow) (p : Polynomial) → AreApartAsRead d rows p (apart d rows p.terms)

-- a polynomial has one such pair at most
abbrev pub OnePairApart : Type 0
OnePairApart = (d : Degrees) (rows : List TorsionRow) (p : Polynomial) (x y : Exponents × Exponents) → AreApart d rows p x.0 x.1 → AreApart d rows p y.0 y.1 → x ≡ y

-- and none where it is homogeneous
abbrev pub NoneApartWhereHomogeneous : Type 0
NoneApartWhereHomogeneous = (d : Degrees) (rows : List TorsionRow) (p : Polynomial) (a b : Exponents) → IsHomogeneous d rows p → AreApart d rows p a b → ⊥

-- without torsion rows, one degree is one sum of columns
abbrev pub WithoutTorsion : Type 0
WithoutTorsion = (d : Degrees) (a b : Exponents) → (AreOfOneDegree d [] a b ↔ plain.AreOfOneDegree d.k d.columns a b)
