-- Signs of sums of products.
use Rattle.std.proofs.Common.{◌≡◌, ◌*◌, ◌<◌, ◌≤◌, arith, refl, suc, zero, ℕ}
use Rattle.std.proofs.Math.IntN.{◌+ℤ◌, ◌*ℤ◌, *ℤ-zero, neg_ℤ, negsuc, pos, pos-*ℤ-pos, zero-*ℤ, ℤ}
use Rattle.std.proofs.lemmas.Int.{ints}
use Rattle.std.specs.Int.RustNames.{unsigned_abs}
use Rattle.std.specs.Prelude.{◌<ℤ◌, ◌≤ℤ◌}
use borrow.Author.Differences.{product_is}
use Rattle.git_lemmas.proofs.Integers.{diff, diff_add, diff_mul, diff_neg, diff_same, mul_nonneg, nonneg_of_mul, nonpos_mul, pos_of_mul}

pub nonneg_of : (a b : ℤ) → pos 0 <ℤ a → pos 0 ≤ℤ (a *ℤ b) → pos 0 ≤ℤ b
nonneg_of (pos m) b p q = nonneg_of_mul m b (omega (arith, ints)) q
nonneg_of (negsuc m) b p q = absurd (omega (arith, ints))

pub mul_nonpos : (a b : ℤ) → a ≤ℤ pos 0 → b ≤ℤ pos 0 → pos 0 ≤ℤ (a *ℤ b)
mul_nonpos (pos zero) b p q = let e = zero-*ℤ b in omega (arith, ints, e)
mul_nonpos (pos (suc m)) b p q = absurd (omega (arith, ints))
mul_nonpos (negsuc m) (pos zero) p q = let e = *ℤ-zero (negsuc m) in omega (arith, ints, e)
mul_nonpos (negsuc m) (pos (suc n)) p q = absurd (omega (arith, ints))
mul_nonpos (negsuc m) (negsuc n) p q = omega (arith, ints, product_is (negsuc m) (negsuc n))

pub large : (n : ℕ) (a b : ℤ) → unsigned_abs b < n → (pos n *ℤ a) +ℤ b ≡ pos 0 → a ≡ pos 0
large n (pos zero) b p e = refl
large n (pos (suc a)) b p e = absurd (let f = pos-*ℤ-pos n (suc a) in let g : n ≤ n * suc a = omega arith in omega (arith, ints, e, f, g, p))
large n (negsuc a) b p e = absurd (let f = product_is (pos n) (negsuc a) in let g : n ≤ n * suc a = omega arith in omega (arith, ints, e, f, g, p))

-- what both terms of a sum with value 0 are, where neither is below 0
pub cancels : (v y : ℤ) → (neg_ℤ v *ℤ y) +ℤ (y *ℤ v) ≡ pos 0
cancels v y = diff_same (diff_add (diff_mul (diff_neg (diff v)) (diff y)) (diff_mul (diff y) (diff v))) (diff (pos 0)) (omega arith)

pub swap : (nw mx mw nx : ℤ) → (nw *ℤ mx) +ℤ (neg_ℤ mw *ℤ nx) ≡ (neg_ℤ mw *ℤ nx) +ℤ (mx *ℤ nw)
swap nw mx mw nx = diff_same (diff_add (diff_mul (diff nw) (diff mx)) (diff_mul (diff_neg (diff mw)) (diff nx)))
    (diff_add (diff_mul (diff_neg (diff mw)) (diff nx)) (diff_mul (diff mx) (diff nw))) (omega arith)

pub opposed : (nw mw : ℤ) → (nw *ℤ mw) +ℤ (neg_ℤ mw *ℤ nw) ≡ pos 0
opposed nw mw = diff_same (diff_add (diff_mul (diff nw) (diff mw)) (diff_mul (diff_neg (diff mw)) (diff nw))) (diff (pos 0)) (omega arith)

identity : (mw mx v b X V : ℤ) → neg_ℤ mw *ℤ ((neg_ℤ v *ℤ X) +ℤ (b *ℤ V))
    ≡ (neg_ℤ v *ℤ ((neg_ℤ mw *ℤ X) +ℤ (mx *ℤ V))) +ℤ (((neg_ℤ mw *ℤ b) +ℤ (mx *ℤ v)) *ℤ V)
identity mw mx v b X V = diff_same
    (diff_mul (diff_neg (diff mw)) (diff_add (diff_mul (diff_neg (diff v)) (diff X)) (diff_mul (diff b) (diff V))))
    (diff_add (diff_mul (diff_neg (diff v)) (diff_add (diff_mul (diff_neg (diff mw)) (diff X)) (diff_mul (diff mx) (diff V))))
    (diff_mul (diff_add (diff_mul (diff_neg (diff mw)) (diff b)) (diff_mul (diff mx) (diff v))) (diff V)))
    (omega arith)

-- what is crossed after m is crossed after what is crossed before m
pub transit : (mw mx v b X V : ℤ) → mw <ℤ pos 0 → v <ℤ pos 0 → V <ℤ pos 0 → pos 0 ≤ℤ ((neg_ℤ mw *ℤ X) +ℤ (mx *ℤ V))
    → ((neg_ℤ mw *ℤ b) +ℤ (mx *ℤ v)) <ℤ pos 0 → pos 0 ≤ℤ ((neg_ℤ v *ℤ X) +ℤ (b *ℤ V))
transit mw mx v b X V mn vn Vn later sooner =
    let one = mul_nonneg (neg_ℤ v) ((neg_ℤ mw *ℤ X) +ℤ (mx *ℤ V)) (omega (arith, ints)) later in
    let two = mul_nonpos ((neg_ℤ mw *ℤ b) +ℤ (mx *ℤ v)) V (omega (arith, ints)) (omega (arith, ints)) in
    let e = identity mw mx v b X V in
    nonneg_of (neg_ℤ mw) ((neg_ℤ v *ℤ X) +ℤ (b *ℤ V)) (omega (arith, ints)) (omega (arith, ints, e, one, two))

-- a sum that is positive, whose second term is not: the first factor of the first is positive
pub positive_first : (a u b v : ℤ) → pos 0 <ℤ a → pos 0 ≤ℤ b → v <ℤ pos 0 → pos 0 <ℤ ((a *ℤ u) +ℤ (b *ℤ v)) → pos 0 <ℤ u
positive_first a u b v p q low up =
    let second = nonpos_mul b v q (omega (arith, ints)) in
    pos_of_mul a u p (omega (arith, ints, up, second))
