-- The sign and the size of a number modulo 32003.
use Rattle.std.proofs.Common.{◌≡◌, ℕ, ◌-◌, ◌<◌, ◌⊎◌, inl, inr, Bool, true, false, refl, arith}
use Rattle.std.specs.Prelude.{ℤ, pos, ◌-ℤ◌, ◌<ℤ◌, ◌≤ℤ◌, int_lt, nat_le, unsigned_abs}
use Rattle.std.proofs.lemmas.Bool.Decides.{nat_tests}
use Rattle.std.proofs.lemmas.Int.{ints}
use Rattle.git_field.specs.Field.{signed_of}
use Rattle.git_polytext.specs.Printing.{is_negative}

-- the number is its size, or 32003 less its size where it counts as negative
abbrev pub IsSigned : ℕ → Type 0
IsSigned c = ((is_negative c ≡ false) × (unsigned_abs (signed_of c) ≡ c)) ⊎ ((is_negative c ≡ true) × (unsigned_abs (signed_of c) ≡ 32003 - c))

not_below : (z : ℤ) → pos 0 ≤ℤ z → int_lt z (pos 0) ≡ false
not_below z h = grind (arith, ints)

is_below : (z : ℤ) → z <ℤ pos 0 → int_lt z (pos 0) ≡ true
is_below z h = grind (arith, ints)

le_from : (a b : ℕ) → nat_le a b ≡ false → b < a
le_from a b h = grind (arith, nat_tests)

pub sized : (c : ℕ) → c < 32003 → IsSigned c
sized c h = by (nat_le c 16001) refl
  where
    by : (low : Bool) → nat_le c 16001 ≡ low → IsSigned c
    by true e = inl (rw e (not_below (pos c) (omega (arith, ints))), rw e refl)
    by false e = inr (rw e (is_below (pos c -ℤ pos 32003) (omega (arith, ints, h))), rw e (omega (arith, ints, h)))
