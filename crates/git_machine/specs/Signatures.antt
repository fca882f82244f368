-- Signatures: sets of numbers below 64 times their width, as lists of words of 64 bits, and their order.
use Rattle.std.specs.Prelude.{ℕ, ◌*◌, ◌/◌, ◌%◌, ◌^◌, ◌<◌, Bool, IsTrue, List, length, slice_index}
use Rattle.std.specs.List.{All, filter, range_with_len}
use Rattle.std.specs.declared.cmp.Ordering.{Ordering}
use Rattle.std.specs.Ordering.{nat_cmp, on, then_cmp}
use Rattle.std.specs.Cmp.Lexicographic.{slice_cmp}
use Rattle.git_bits.specs.Bits.{has_bit}

-- The width is the number of words. Bit b of word i stands for the number 64 i + b
abbrev pub Signature : Type 0
Signature = List ℕ

-- each word has 64 bits
abbrev pub AreWords : Signature → Type 0
AreWords words = All (λ w. w < 2 ^ 64) words

-- whether the set has the number n
abbrev pub has_number : Signature → ℕ → Bool
has_number words n = has_bit (slice_index words (n / 64)) (n % 64)

abbrev pub Has : Signature → ℕ → Type 0
Has words n = IsTrue (has_number words n)

-- the numbers of the set, ascending
unfoldable pub numbers_of : Signature → List ℕ
numbers_of words = filter (has_number words) (range_with_len 0 (64 * length words))

-- By the ascending lists of numbers, a proper prefix first, then by the words. Of two widths of one set the smaller is first
abbrev pub signature_cmp : Signature → Signature → Ordering
signature_cmp = then_cmp (on numbers_of (slice_cmp nat_cmp)) (slice_cmp nat_cmp)
