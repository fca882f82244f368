-- What bits tell of numbers, as the laws of this crate say it.
use Rattle.std.specs.Prelude.{◌≡◌, ◌↔◌, ℕ, ◌<◌, ◌^◌, ◌%◌, ◌/◌, ◌==◌, IsTrue}
use Rattle.git_bits.specs.Bits.{has_bit, IsWithin}

-- the bit at place i says whether the part of n by 2^i is odd
abbrev pub BitsAreOfParts : Type 0
BitsAreOfParts = (n i : ℕ) → has_bit n i ≡ ((n / 2 ^ i) % 2 == 1)

-- numbers with the same bits are equal
abbrev pub BitsDecideNumbers : Type 0
BitsDecideNumbers = (m n : ℕ) → ((i : ℕ) → has_bit m i ≡ has_bit n i) → m ≡ n

-- a number below 2^i has no bit from place i on
abbrev pub SmallNumbersHaveLowBits : Type 0
SmallNumbersHaveLowBits = (n i : ℕ) → n < 2 ^ i → IsTrue (has_bit n i) → ⊥

-- m is within n exactly where n has each bit of m
abbrev pub BitsDecideWithin : Type 0
BitsDecideWithin = (m n : ℕ) → (IsWithin m n ↔ ((i : ℕ) → IsTrue (has_bit m i) → IsTrue (has_bit n i)))
