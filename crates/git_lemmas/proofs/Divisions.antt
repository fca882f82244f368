-- Integers over one of their divisors.
use Rattle.std.proofs.Common.{◌≡◌, ◌∙◌, ap, sym, ℕ}
use Rattle.std.proofs.Math.IntN.{◌*ℤ◌, ◌+ℤ◌, *ℤ_comm, +ℤ_idr, neg_ℤ, negsuc, pos, ℤ}
use Rattle.std.proofs.lemmas.Int.{quot-rem}
use Rattle.std.proofs.lemmas.Nat.Gcd.{mod-eq-zero_of_dvd}
use Rattle.std.specs.Int.{◌∣◌}
use Rattle.std.specs.Int.RustNames.{int_div, int_rem, unsigned_abs}

no_rest : (a : ℤ) (n : ℕ) → n ∣ unsigned_abs a → int_rem a (pos n) ≡ pos 0
no_rest (pos m) n h = ap pos (mod-eq-zero_of_dvd n h)
no_rest (negsuc m) n h = ap (λ (k : ℕ). neg_ℤ (pos k)) (mod-eq-zero_of_dvd n h)

-- a divisor times the quotient
pub divided : (a : ℤ) (n : ℕ) → n ∣ unsigned_abs a → a ≡ pos n *ℤ int_div a (pos n)
divided a n h = sym (quot-rem a (pos n)) ∙ ap (λ (z : ℤ). int_div a (pos n) *ℤ pos n +ℤ z) (no_rest a n h) ∙ +ℤ_idr (int_div a (pos n) *ℤ pos n)
    ∙ *ℤ_comm (int_div a (pos n)) (pos n)
