-- The inverse of a number modulo 32003.
use Rattle.std.specs.Prelude.{ℕ, zero, suc, ◌-◌, ◌*◌, ◌/◌, ◌%◌, nat_lt, if◌then◌else◌}
use Rattle.git_field.specs.declared.TheConstants.{MODULUS}

-- the search for an inverse, in at most so many steps
unfoldable pub search_from : ℕ → ℕ → ℕ → ℕ
search_from zero left factor = factor
search_from (suc k) left factor = if nat_lt 1 left then search_from k (MODULUS % left) (factor * (MODULUS - MODULUS / left) % MODULUS) else factor

-- a number whose product with n is 1 modulo 32003, for n from 1 to 32002
unfoldable pub inverse_of : ℕ → ℕ
inverse_of n = search_from n n 1
