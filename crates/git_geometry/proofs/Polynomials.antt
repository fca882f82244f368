-- The sign of a polynomial at large numbers.
use Rattle.std.proofs.Common.{◌≡◌, ◌+◌, ◌<◌, ◌≤◌, ◌≢◌, ◌⊎◌, ◌∷◌, ◌*◌, ◌^◌, [], List, ap, arith, inl, inr, length, mul-le-mul_right, refl, replicate, subst, suc, sym, zero, ℕ}
use Rattle.std.proofs.Math.IntN.{◌+ℤ◌, ◌*ℤ◌, *ℤ-zero, negsuc, pos, pos-*ℤ-pos, ℤ}
use Rattle.std.proofs.Math.Nat.{mul-le-mul, mul-le-mul_left, one-le-pow, pow-suc}
use Rattle.std.proofs.lemmas.Bool.{cases_lt}
use Rattle.std.proofs.lemmas.Int.{ints, unsigned_abs-mul}
use Rattle.std.specs.Int.RustNames.{unsigned_abs}
use Rattle.std.specs.Prelude.{◌<ℤ◌, ◌≤ℤ◌}
use borrow.Author.Differences.{product_is}
use Rattle.git_geometry.specs.Germs.{first_sign}

-- n^m c_0 + .. + c_m
abbrev pub poly : ℕ → List ℤ → ℤ
poly n [] = pos 0
poly n (c ∷ cs) = pos (n ^ length cs) *ℤ c +ℤ poly n cs

abbrev pub size : List ℤ → ℕ
size [] = 0
size (c ∷ cs) = unsigned_abs c + size cs

-- n times the value is at most the size times n^length
poly_le : (n : ℕ) (cs : List ℤ) → 0 < n → unsigned_abs (poly n cs) * n ≤ size cs * n ^ length cs
poly_le n [] some = omega arith
poly_le n (c ∷ cs) some =
    let p = n ^ length cs in
    let a = unsigned_abs c in
    let rest = poly_le n cs some in
    let e : n ^ suc (length cs) ≡ p * n = pow-suc n (length cs) in
    let up : p ≤ p * n = omega (arith, mul-le-mul_left p some) in
    let split : unsigned_abs (pos p *ℤ c +ℤ poly n cs) ≤ p * a + unsigned_abs (poly n cs) =
    let m = unsigned_abs-mul (pos p) c in omega (arith, ints, m) in
    let times = mul-le-mul split (let r : n ≤ n = omega arith in r) in
    let tail = mul-le-mul_left (size cs) up in
    let goal : unsigned_abs (pos p *ℤ c +ℤ poly n cs) * n ≤ (a + size cs) * (p * n) = omega (arith, times, rest, tail) in
    subst (λ q. unsigned_abs (pos p *ℤ c +ℤ poly n cs) * n ≤ (a + size cs) * q) (sym e) goal

below : (u p n : ℕ) → u * n < p * n → u < p
below u p n h = elim (cases_lt u p) [ inl q ↦ q | inr q ↦ absurd (omega (arith, mul-le-mul_right n q, h)) ]

-- the tail is less than the power before it
tail_small : (n : ℕ) (cs : List ℤ) → size cs < n → unsigned_abs (poly n cs) < n ^ length cs
tail_small n cs large =
    let some : 0 < n = omega arith in
    let p = n ^ length cs in
    let one : 1 ≤ p = one-le-pow (length cs) n some in
    let u = unsigned_abs (poly n cs) in
    let le = poly_le n cs some in
    let bound : size cs + 1 ≤ n = omega arith in
    let more : (size cs + 1) * p ≤ n * p = mul-le-mul_right p bound in
    below u p n (omega (arith, le, more, one))

pub pos_at : (n c : ℕ) (cs : List ℤ) → size cs < n → pos 0 <ℤ poly n (pos (suc c) ∷ cs)
pos_at n c cs large =
    let t = tail_small n cs large in
    let p = n ^ length cs in
    let e : pos p *ℤ pos (suc c) ≡ pos (p * suc c) = pos-*ℤ-pos p (suc c) in
    let g : p ≤ p * suc c = omega arith in
    omega (arith, ints, e, g, t)

product_down : (p c : ℕ) → (pos p *ℤ negsuc c) ≤ℤ pos 0
product_down p c = omega (arith, ints, product_is (pos p) (negsuc c))

pub neg_at : (n c : ℕ) (cs : List ℤ) → size cs < n → poly n (negsuc c ∷ cs) <ℤ pos 0
neg_at n c cs large =
    let t = tail_small n cs large in
    let p = n ^ length cs in
    let e : unsigned_abs (pos p *ℤ negsuc c) ≡ p * suc c = unsigned_abs-mul (pos p) (negsuc c) in
    let s : (pos p *ℤ negsuc c) ≤ℤ pos 0 = product_down p c in
    let g : p ≤ p * suc c = omega arith in
    omega (arith, ints, e, s, g, t)

-- ---- at all numbers above the size the sign is that of the first number that isn't 0
pub nonneg_large : (n : ℕ) (cs : List ℤ) → first_sign cs ≢ negsuc 0 → size cs < n → pos 0 ≤ℤ poly n cs
nonneg_large n [] s large = omega (arith, ints)
nonneg_large n (pos zero ∷ cs) s large =
    let r = nonneg_large n cs s (omega arith) in let e = *ℤ-zero (pos (n ^ length cs)) in omega (arith, ints, r, e)
nonneg_large n (pos (suc c) ∷ cs) s large = let r = pos_at n c cs (omega arith) in omega (arith, ints, r)
nonneg_large n (negsuc c ∷ cs) s large = absurd (s refl)

pub pos_large : (n : ℕ) (cs : List ℤ) → first_sign cs ≡ pos 1 → size cs < n → pos 0 <ℤ poly n cs
pos_large n [] s large = absurd (omega (arith, ints, s))
pos_large n (pos zero ∷ cs) s large =
    let r = pos_large n cs s (omega arith) in let e = *ℤ-zero (pos (n ^ length cs)) in omega (arith, ints, r, e)
pos_large n (pos (suc c) ∷ cs) s large = pos_at n c cs (omega arith)
pos_large n (negsuc c ∷ cs) s large = absurd (omega (arith, ints, s))

pub neg_large : (n : ℕ) (cs : List ℤ) → first_sign cs ≡ negsuc 0 → size cs < n → poly n cs <ℤ pos 0
neg_large n [] s large = absurd (omega (arith, ints, s))
neg_large n (pos zero ∷ cs) s large =
    let r = neg_large n cs s (omega arith) in let e = *ℤ-zero (pos (n ^ length cs)) in omega (arith, ints, r, e)
neg_large n (pos (suc c) ∷ cs) s large = absurd (omega (arith, ints, s))
neg_large n (negsuc c ∷ cs) s large = neg_at n c cs (omega arith)

-- a sign is one of three
pub sign_cases : (cs : List ℤ) → (first_sign cs ≡ negsuc 0) ⊎ (first_sign cs ≡ pos 0) ⊎ (first_sign cs ≡ pos 1)
sign_cases [] = inr (inl refl)
sign_cases (pos zero ∷ cs) = sign_cases cs
sign_cases (pos (suc c) ∷ cs) = inr (inr refl)
sign_cases (negsuc c ∷ cs) = inl refl

-- sign 0: all numbers are 0
pub all_zero : (cs : List ℤ) → first_sign cs ≡ pos 0 → cs ≡ replicate (length cs) (pos 0)
all_zero [] s = refl
all_zero (pos zero ∷ cs) s = ap (λ zs. pos 0 ∷ zs) (all_zero cs s)
all_zero (pos (suc c) ∷ cs) s = absurd (omega (arith, ints, s))
all_zero (negsuc c ∷ cs) s = absurd (omega (arith, ints, s))
