-- Sums of terms, a term being a monomial with a number: in any order, with repeats, the numbers of any size. Two sums are added by `++`.
use Rattle.std.specs.Prelude.{ℕ, ◌+◌, ◌*◌, ◌%◌, ◌≡◌, List, [], ◌∷◌, ◌++◌, if◌then◌else◌, ◌==◌}
use Rattle.git_field.specs.declared.TheConstants.{MODULUS}
use Rattle.git_algebra.specs.Exponents.{Exponents, times, one}
use Rattle.git_algebra.specs.Order.{rank}

abbrev pub Sum : Type 0
Sum = List (Exponents × ℕ)

-- the number that a sum gives where a function says what each monomial counts for
abbrev pub value : (Exponents → ℕ) → Sum → ℕ
value f [] = 0
value f (t ∷ p) = t.1 * f t.0 + value f p

-- a sum times a term
abbrev pub shift : Exponents → ℕ → Sum → Sum
shift m c [] = []
shift m c (t ∷ p) = (times m t.0, c * t.1) ∷ shift m c p

-- each term of the one times each of the other
abbrev pub product : Sum → Sum → Sum
product [] q = []
product (t ∷ p) q = shift t.0 t.1 q ++ product p q

-- the sum of the one term 1
unfoldable pub unit : Sum
unit = (one, 1) ∷ []

-- 1 at one monomial, and 0 at the others
abbrev pub at : Exponents → Exponents → ℕ
at m a = if rank m == rank a then 1 else 0

-- the number of a monomial, over all its terms
abbrev pub coefficient : Sum → Exponents → ℕ
coefficient p m = value (at m) p

-- numbers that are the same modulo 32003
pub record Mod (a b : ℕ) : Type 0 where
  pub same : a % MODULUS ≡ b % MODULUS

-- sums that give the same value modulo 32003, whatever each monomial counts for
pub record Alike (p q : Sum) : Type 0 where
  pub values : (f : Exponents → ℕ) → Mod (value f p) (value f q)
