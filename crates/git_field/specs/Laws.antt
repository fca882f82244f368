-- What the crate's laws say of numbers modulo 32003.
use Rattle.std.specs.Prelude.{ℕ, ◌*◌, ◌%◌, ◌<◌, ◌≡◌}
use Rattle.git_field.specs.declared.TheConstants.{MODULUS}
use Rattle.git_field.specs.Inverse.{inverse_of}

-- a product of numbers other than 0 is other than 0
abbrev pub NoZeroDivisors : Type 0
NoZeroDivisors = (a b : ℕ) → 0 < a % MODULUS → 0 < b % MODULUS → 0 < (a * b) % MODULUS

-- each number other than 0 has an inverse
abbrev pub HasInverses : Type 0
HasInverses = (a : ℕ) → 0 < a % MODULUS → (b : ℕ) × ((a * b) % MODULUS ≡ 1)

-- inverse_of gives an inverse of each number other than 0
abbrev pub InverseOfInverts : Type 0
InverseOfInverts = (a : ℕ) → 0 < a → a < MODULUS → (a * inverse_of a) % MODULUS ≡ 1
