-- The ring of the integers: laws of products, of their signs and of their sizes, that the library lacks.
use Rattle.std.proofs.Common.{◌≡◌, ◌⊎◌, ℕ, zero, suc, ◌+◌, ◌*◌, ◌<◌, ◌≤◌, ap, arith, inl, inr, refl}
use Rattle.std.proofs.Math.Nat.{mul-le-mul}
use Rattle.std.specs.Int.RustNames.{unsigned_abs}
use Rattle.std.proofs.Math.IntN.{ℤ, pos, negsuc, ◌+ℤ◌, ◌-ℤ◌, ◌*ℤ◌, neg_ℤ}
use Rattle.std.specs.Prelude.{◌≤ℤ◌, ◌<ℤ◌}
use Rattle.std.proofs.lemmas.Int.{ints, unsigned_abs-mul}
use borrow.Author.Differences.{up, down, sum_is_lem, product_is, neg_is}

-- ---- sums and products
pub add_mul : (a b c : ℤ) → (a +ℤ b) *ℤ c ≡ a *ℤ c +ℤ b *ℤ c
add_mul a b c = let e = sum_is_lem a b in omega (arith, ints, ap (λ (k : ℕ). k * up c) e, ap (λ (k : ℕ). k * down c) e)

pub mul_assoc : (a b c : ℤ) → (a *ℤ b) *ℤ c ≡ a *ℤ (b *ℤ c)
mul_assoc a b c =
    let e = product_is a b in let f = product_is b c in
    omega (
      arith,
      ints,
      ap (λ (k : ℕ). k * up c) e.0,
      ap (λ (k : ℕ). k * down c) e.0,
      ap (λ (k : ℕ). k * up c) e.1,
      ap (λ (k : ℕ). k * down c) e.1,
      ap (λ (k : ℕ). k * up a) f.0,
      ap (λ (k : ℕ). k * down a) f.0,
      ap (λ (k : ℕ). k * up a) f.1,
      ap (λ (k : ℕ). k * down a) f.1,
    )

-- ---- identities: an equation of integers is one of natural numbers, by differences
-- z is p - n
pub record Diff (z : ℤ) (p n : ℕ) : Type 0 where
  pub is : up z + n ≡ down z + p

pub diff : (z : ℤ) → Diff z (up z) (down z)
diff z = record { is = omega arith }

pub diff_add : {z w : ℤ} {p n q m : ℕ} → Diff z p n → Diff w q m → Diff (z +ℤ w) (p + q) (n + m)
diff_add {z} {w} a b = record { is = omega (arith, sum_is_lem z w, a.is, b.is) }

pub diff_neg : {z : ℤ} {p n : ℕ} → Diff z p n → Diff (neg_ℤ z) n p
diff_neg {z} a = record { is = omega (arith, neg_is z, a.is) }

pub diff_sub : {z w : ℤ} {p n q m : ℕ} → Diff z p n → Diff w q m → Diff (z -ℤ w) (p + m) (n + q)
diff_sub a b = diff_add a (diff_neg b)

pub diff_mul : {z w : ℤ} {p n q m : ℕ} → Diff z p n → Diff w q m → Diff (z *ℤ w) (p * q + n * m) (p * m + n * q)
diff_mul {z} {w} {p} {n} {q} {m} a b = record {
  is = omega (
    arith,
    product_is z w,
    ap (λ (k : ℕ). k * up w) a.is,
    ap (λ (k : ℕ). k * down w) a.is,
    ap (λ (k : ℕ). k * p) b.is,
    ap (λ (k : ℕ). k * n) b.is,
  );
}

pub diff_same : {z w : ℤ} {p n q m : ℕ} → Diff z p n → Diff w q m → p + m ≡ q + n → z ≡ w
diff_same {z} {w} a b e = omega (arith, ints, a.is, b.is)

pub mul_comm : (a b : ℤ) → a *ℤ b ≡ b *ℤ a
mul_comm a b = diff_same (diff_mul (diff a) (diff b)) (diff_mul (diff b) (diff a)) (omega arith)

-- ---- signs
pub mul_nonneg : (a b : ℤ) → pos 0 ≤ℤ a → pos 0 ≤ℤ b → pos 0 ≤ℤ (a *ℤ b)
mul_nonneg (pos m) (pos n) p q = omega (arith, ints)
mul_nonneg (pos m) (negsuc n) p q = absurd (omega (arith, ints))
mul_nonneg (negsuc m) b p q = absurd (omega (arith, ints))

pub add_nonneg : (a b : ℤ) → pos 0 ≤ℤ a → pos 0 ≤ℤ b → pos 0 ≤ℤ (a +ℤ b)
add_nonneg a b p q = omega (arith, ints)

-- a positive factor keeps the sign
pub nonneg_of_mul : (m : ℕ) (b : ℤ) → 0 < m → pos 0 ≤ℤ (pos m *ℤ b) → pos 0 ≤ℤ b
nonneg_of_mul m (pos n) p q = omega (arith, ints)
nonneg_of_mul zero (negsuc n) p q = absurd (omega arith)
nonneg_of_mul (suc m) (negsuc n) p q = absurd (omega (arith, ints, product_is (pos (suc m)) (negsuc n)))

pub mul_pos : (a b : ℤ) → pos 0 <ℤ a → pos 0 <ℤ b → pos 0 <ℤ (a *ℤ b)
mul_pos (pos zero) b p q = absurd (omega (arith, ints))
mul_pos (negsuc m) b p q = absurd (omega (arith, ints))
mul_pos (pos (suc m)) (pos zero) p q = absurd (omega (arith, ints))
mul_pos (pos (suc m)) (negsuc n) p q = absurd (omega (arith, ints))
mul_pos (pos (suc m)) (pos (suc n)) p q = omega (arith, ints, product_is (pos (suc m)) (pos (suc n)))

pub pos_of_mul : (a b : ℤ) → pos 0 <ℤ a → pos 0 <ℤ (a *ℤ b) → pos 0 <ℤ b
pos_of_mul (pos zero) b p q = absurd (omega (arith, ints))
pos_of_mul (negsuc m) b p q = absurd (omega (arith, ints))
pos_of_mul (pos (suc m)) (pos zero) p q = absurd (omega (arith, ints, product_is (pos (suc m)) (pos zero)))
pos_of_mul (pos (suc m)) (pos (suc n)) p q = omega (arith, ints)
pos_of_mul (pos (suc m)) (negsuc n) p q = absurd (omega (arith, ints, product_is (pos (suc m)) (negsuc n)))

pub nonpos_mul : (a b : ℤ) → pos 0 ≤ℤ a → b ≤ℤ pos 0 → (a *ℤ b) ≤ℤ pos 0
nonpos_mul (pos m) (pos zero) p q = omega (arith, ints, product_is (pos m) (pos zero))
nonpos_mul (pos m) (pos (suc n)) p q = absurd (omega (arith, ints))
nonpos_mul (pos m) (negsuc n) p q = omega (arith, ints, product_is (pos m) (negsuc n))
nonpos_mul (negsuc m) b p q = absurd (omega (arith, ints))

pub zero_of_mul : (a b : ℤ) → pos 0 <ℤ a → a *ℤ b ≡ pos 0 → b ≡ pos 0
zero_of_mul (pos zero) b p q = absurd (omega (arith, ints))
zero_of_mul (negsuc m) b p q = absurd (omega (arith, ints))
zero_of_mul (pos (suc m)) (pos zero) p q = omega (arith, ints)
zero_of_mul (pos (suc m)) (pos (suc n)) p q = absurd (omega (arith, ints, product_is (pos (suc m)) (pos (suc n))))
zero_of_mul (pos (suc m)) (negsuc n) p q = absurd (omega (arith, ints, product_is (pos (suc m)) (negsuc n)))

pub negative_product : (a b : ℤ) → neg_ℤ a *ℤ b ≡ neg_ℤ (a *ℤ b)
negative_product a b = diff_same (diff_mul (diff_neg (diff a)) (diff b)) (diff_neg (diff_mul (diff a) (diff b))) (omega arith)

pub no_product : (a b : ℤ) → (a ≡ pos 0 → ⊥) → a *ℤ b ≡ pos 0 → b ≡ pos 0
no_product (pos zero) b some e = absurd (some refl)
no_product (pos (suc n)) b some e = zero_of_mul (pos (suc n)) b (omega (arith, ints)) e
no_product (negsuc n) b some e = zero_of_mul (neg_ℤ (negsuc n)) b (omega (arith, ints)) (let f = negative_product (negsuc n) b in omega
    (arith, ints, e, f))

pub square_zero : (a : ℤ) → (a ≡ pos 0) ⊎ (pos 0 <ℤ (a *ℤ a))
square_zero (pos zero) = inl refl
square_zero (pos (suc n)) = inr (omega (arith, ints, product_is (pos (suc n)) (pos (suc n))))
square_zero (negsuc n) = inr (omega (arith, ints, product_is (negsuc n) (negsuc n)))

-- ---- sizes
pub zero_of_size : (z : ℤ) → unsigned_abs z ≡ 0 → z ≡ pos 0
zero_of_size (pos n) e = ap pos e
zero_of_size (negsuc n) e = absurd (omega (arith, e))

pub abs_mul : (a b : ℤ) (m n : ℕ) → unsigned_abs a ≤ m → unsigned_abs b ≤ n → unsigned_abs (a *ℤ b) ≤ m * n
abs_mul a b m n p q = omega (arith, unsigned_abs-mul a b, mul-le-mul p q)

pub abs_add : (a b : ℤ) (m n : ℕ) → unsigned_abs a ≤ m → unsigned_abs b ≤ n → unsigned_abs (a +ℤ b) ≤ m + n
abs_add a b m n p q = omega (arith, ints)
