-- Rows of a grading with a modulus, and the classes of monomials in them.
use Rattle.std.specs.Prelude.{◌≡◌, ℕ, ◌≤◌, ℤ, List, length, map, pos, All, refl}
use Rattle.std.specs.Int.{int_rem_euclid}
use Rattle.std.specs.Coded.{Coded, code_by, coded×, coded_list, coded_ℕ, coded_ℤ}
use Rattle.git_defs.specs.Vectors.{Vector, dot}
use Rattle.git_algebra.specs.Exponents.{Exponents}
use Rattle.git_ints.specs.Padded.{AreWithin}
use Rattle.git_limits.specs.declared.TheConstants.{COLUMNS}
use Rattle.git_degrees.specs.declared.limits.TheConstants.{MODULUS, TORSION_ENTRY, TORSION_ROWS}

-- what contracts see of a row: its modulus, and an entry for each variable
pub record TorsionRow : Type 0 where
  pub modulus : ℕ
  pub entries : Vector

abbrev pub torsion_code : Coded TorsionRow
torsion_code = code_by (ℕ × Vector) (coded× coded_ℕ (coded_list coded_ℤ)) (λ t. (t.modulus, t.entries)) (λ p. record { modulus = p.0; entries = p.1 }) (λ _. refl)

-- the modulus and the entries are within the limits
pub record IsTorsionRow (t : TorsionRow) : Type 0 where
  pub above : 2 ≤ t.modulus
  pub below : t.modulus ≤ MODULUS
  pub few : length t.entries ≤ COLUMNS
  pub small : AreWithin TORSION_ENTRY t.entries

-- the rows are those of a grading of r variables
pub record AreTorsionRows (r : ℕ) (ts : List TorsionRow) : Type 0 where
  pub few : length ts ≤ TORSION_ROWS
  pub rows : All IsTorsionRow ts
  pub entries : All (λ t. length t.entries ≡ r) ts

-- the class of a monomial in a row: the sum of the entries, each times the exponent of its variable, modulo the modulus
abbrev pub class_of : TorsionRow → Exponents → ℤ
class_of t a = int_rem_euclid (dot t.entries (map pos a.list)) (pos t.modulus)

abbrev pub classes : List TorsionRow → Exponents → List ℤ
classes ts a = map (λ t. class_of t a) ts
