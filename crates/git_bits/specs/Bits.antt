-- The bits of natural numbers, which as masks are sets of places.
use Rattle.std.specs.Prelude.{◌≡◌, ℕ, zero, suc, ◌%◌, ◌/◌, ◌==◌, Bool}
use Rattle.std.specs.Int.RustNames.{bit_and}

-- whether the number has the bit at a place: bit 0 is set in odd numbers, and the next bits are those of the half
abbrev pub has_bit : ℕ → ℕ → Bool
has_bit n zero = n % 2 == 1
has_bit n (suc i) = has_bit (n / 2) i

-- each bit of m is one of n
abbrev pub IsWithin : ℕ → ℕ → Type 0
IsWithin m n = bit_and m n ≡ m
