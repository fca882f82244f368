-- Sizes of products and sums, and numbers that fit 128 bits.
use Rattle.std.proofs.Common.{◌≡◌, ◌⊎◌, ℕ, ◌+◌, ◌*◌, ◌^◌, ◌<◌, ◌≤◌, List, length, get_or, sym, subst, arith, inl, inr, lit<, lit≤, SFits, to_z, of_z}
use Rattle.std.specs.Int.{w128}
use Rattle.std.proofs.Math.IntN.{ℤ, pos, ◌+ℤ◌, ◌*ℤ◌}
use Rattle.std.proofs.Math.Nat.{mul-le-mul}
use Rattle.std.specs.Int.RustNames.{unsigned_abs}
use Rattle.std.proofs.lemmas.Int.{to_z-of_z, fits_signed_from_abs}
use Rattle.git_ints.specs.Padded.{AreWithin}
use Rattle.git_lemmas.proofs.Integers.{abs_add, abs_mul}

-- a number of at most 2^126 is what the machine keeps of it
pub fits : (a : ℤ) → unsigned_abs a ≤ 2 ^ 126 → SFits w128 a
fits a h = fits_signed_from_abs w128 a (let big : 2 ^ 126 < 2 ^ 127 = lit< tt in omega (arith, h, big))

pub kept : (a : ℤ) → unsigned_abs a ≤ 2 ^ 126 → to_z w128 (of_z w128 a) ≡ a
kept a h = to_z-of_z w128 a (fits a h)

pub within_more : (n m : ℕ) (v : List ℤ) → n ≤ m → AreWithin n v → AreWithin m v
within_more n m v h a = λ i d g. omega (arith, a i d g, h)

-- the products of an inner product
pub term_within : (u v : List ℤ) (i : ℕ) → ((AreWithin (2 ^ 40) u × AreWithin (2 ^ 80) v) ⊎ (AreWithin (2 ^ 80) u × AreWithin (2 ^ 40) v)) → i < length u → i < length v
    → unsigned_abs (get_or u i (pos 0)) * unsigned_abs (get_or v i (pos 0)) ≤ 2 ^ 120
term_within u v i (inl h) p q = let e : 2 ^ 40 * 2 ^ 80 ≤ 2 ^ 120 = lit≤ tt in omega (arith, e, mul-le-mul (h.0 i (pos 0) p) (h.1 i (pos 0) q))
term_within u v i (inr h) p q = let e : 2 ^ 80 * 2 ^ 40 ≤ 2 ^ 120 = lit≤ tt in omega (arith, e, mul-le-mul (h.0 i (pos 0) p) (h.1 i (pos 0) q))

pub kept_within : (a : ℤ) (n : ℕ) → unsigned_abs a ≤ n → n ≤ 2 ^ 126 → unsigned_abs (to_z w128 (of_z w128 a)) ≤ n
kept_within a n h small = subst (λ (z : ℤ). unsigned_abs z ≤ n) (sym (kept a (omega (arith, h, small)))) h

-- what the machine takes as the two factors, and their product
pub record KeptTerm (u v : List ℤ) (i : ℕ) : Type 0 where
  pub within : unsigned_abs (to_z w128 (of_z w128 (get_or u i (pos 0)))) * unsigned_abs (to_z w128 (of_z w128 (get_or v i (pos 0)))) ≤ 2 ^ 120
  pub is : to_z w128 (of_z w128 (get_or u i (pos 0))) *ℤ to_z w128 (of_z w128 (get_or v i (pos 0))) ≡ get_or u i (pos 0) *ℤ get_or v i (pos 0)

pub kept_term : (u v : List ℤ) (i : ℕ) → ((AreWithin (2 ^ 40) u × AreWithin (2 ^ 80) v) ⊎ (AreWithin (2 ^ 80) u × AreWithin (2 ^ 40) v)) → i < length u → i < length v → KeptTerm u v i
kept_term u v i sizes p q = record {
  within = subst (λ (z : ℤ). unsigned_abs z * unsigned_abs (to_z w128 (of_z w128 (get_or v i (pos 0)))) ≤ 2 ^ 120) (sym left)
      (subst (λ (z : ℤ). unsigned_abs (get_or u i (pos 0)) * unsigned_abs z ≤ 2 ^ 120) (sym right) (term_within u v i sizes p q));
  is = λ j. left j *ℤ right j;
} where
  each : (w : List ℤ) → ((AreWithin (2 ^ 40) w) ⊎ (AreWithin (2 ^ 80) w)) → i < length w → to_z w128 (of_z w128 (get_or w i (pos 0))) ≡ get_or w i (pos 0)
  each w (inl h) r = kept (get_or w i (pos 0)) (let e : 2 ^ 40 ≤ 2 ^ 126 = lit≤ tt in let g = h i (pos 0) r in omega (arith, g, e))
  each w (inr h) r = kept (get_or w i (pos 0)) (let e : 2 ^ 80 ≤ 2 ^ 126 = lit≤ tt in let g = h i (pos 0) r in omega (arith, g, e))

  left : to_z w128 (of_z w128 (get_or u i (pos 0))) ≡ get_or u i (pos 0)
  left = each u (elim sizes [ inl h ↦ inl h.0 | inr h ↦ inr h.0 ]) p

  right : to_z w128 (of_z w128 (get_or v i (pos 0))) ≡ get_or v i (pos 0)
  right = each v (elim sizes [ inl h ↦ inr h.1 | inr h ↦ inl h.1 ]) q

pub blend_within : (a x b y : ℤ) → unsigned_abs a ≤ 2 ^ 83 → unsigned_abs x ≤ 2 ^ 40 → unsigned_abs b ≤ 2 ^ 83 → unsigned_abs y ≤ 2 ^ 40 → unsigned_abs (a *ℤ x +ℤ b *ℤ y) ≤ 2 ^ 126
blend_within a x b y p q r s =
    let h = abs_add (a *ℤ x) (b *ℤ y) (2 ^ 83 * 2 ^ 40) (2 ^ 83 * 2 ^ 40) (abs_mul a x (2 ^ 83) (2 ^ 40) p q) (abs_mul b y (2 ^ 83) (2 ^ 40) r s) in
    let e : 2 ^ 83 * 2 ^ 40 + 2 ^ 83 * 2 ^ 40 ≤ 2 ^ 126 = lit≤ tt in omega (arith, h, e)
