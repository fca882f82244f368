-- The monomial order degrevlex with T(1) > .. > T(16) > y, and a rank: a number for each monomial by which this order is that of numbers.
use Rattle.std.specs.Prelude.{ℕ, zero, suc, ◌+◌, ◌-◌, ◌*◌, ◌^◌, ◌<◌, ◌≡◌, ◌⊎◌, List, [], ◌∷◌}
use Rattle.git_algebra.specs.Exponents.{Exponents, exponent, degree}

-- at the last place where they differ, a has the larger exponent
pub record HasLargerLast (a b : Exponents) : Type 0 where
  pub place : ℕ
  pub larger : exponent b place < exponent a place
  pub same_after : (k : ℕ) → place < k → exponent a k ≡ exponent b k

-- a is smaller than b: its total degree is smaller, or it is the same and a has the larger exponent at the last place where they differ
abbrev pub Precedes : Exponents → Exponents → Type 0
Precedes a b = (degree a < degree b) ⊎ ((degree a ≡ degree b) × HasLargerLast a b)

-- exponents up to d as digits in base d + 1, each as d less the exponent, the last place highest
abbrev pub digits : ℕ → List ℕ → ℕ
digits d [] = 0
digits d (x ∷ xs) = (d - x) + (d + 1) * digits d xs

-- a number above the rank of each monomial of degree below d
unfoldable pub ranks_below : ℕ → ℕ
ranks_below zero = 0
ranks_below (suc d) = ranks_below d + (d + 1) ^ 17

-- the rank of a monomial
unfoldable pub rank : Exponents → ℕ
rank a = ranks_below (degree a) + digits (degree a) a.list
