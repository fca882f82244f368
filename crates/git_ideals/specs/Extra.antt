-- The extra variable y of the trick of Rabinowitsch: where 1 - y e is 0, y stands for 1 / e.
use Rattle.std.specs.Prelude.{ℕ, ◌-◌, ◌==◌, if◌then◌else◌, [], ◌∷◌}
use Rattle.git_algebra.specs.Exponents.{Exponents, exponent, exponents_by, times, power}
use Rattle.git_algebra.specs.Sums.{Sum}

-- the exponent of the extra variable
abbrev pub extra : Exponents → ℕ
extra a = exponent a 16

-- the monomial with the extra variable taken out
unfoldable pub without_extra : Exponents → Exponents
without_extra a = exponents_by (λ i. if i == 16 then 0 else exponent a i)

-- the monomial with 1 / e for the extra variable, times e to the n
unfoldable pub traded : Exponents → ℕ → Exponents → Exponents
traded e n a = times (without_extra a) (power e (n - extra a))

-- the sum with other monomials
abbrev pub mapped : (Exponents → Exponents) → Sum → Sum
mapped g [] = []
mapped g (t ∷ p) = (g t.0, t.1) ∷ mapped g p
