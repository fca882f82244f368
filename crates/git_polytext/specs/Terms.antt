-- What a term is made of: a sign, a number, and powers of variables.
use Rattle.std.specs.Prelude.{ℕ, ◌-◌, ◌%◌, ◌==◌, if◌then◌else◌, Option, Some, None, List, [], ◌∷◌}
use Rattle.git_field.specs.declared.TheConstants.{MODULUS}
use Rattle.git_algebra.specs.Exponents.{Exponents, one, times, variable_power}

-- a number after a sign, a minus or none, as its rest modulo 32003
abbrev pub after_sign : Option ℕ → ℕ → ℕ
after_sign None n = n % MODULUS
after_sign (Some sign) n = if sign == 45 then (MODULUS - n % MODULUS) % MODULUS else n % MODULUS

-- the product of powers of variables, each given by the variable's place and its exponent
abbrev pub product_of : List (ℕ × ℕ) → Exponents
product_of [] = one
product_of (v ∷ vs) = times (variable_power v.0 v.1) (product_of vs)
