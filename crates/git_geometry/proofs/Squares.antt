-- A vector is 0, or has a positive square.
use Rattle.std.proofs.Common.{◌≡◌, ◌∙◌, ◌⊎◌, ◌∷◌, [], arith, inl, inr, length, refl, suc, zero, ℕ}
use Rattle.std.proofs.Math.IntN.{◌*ℤ◌, negsuc, pos, ℤ}
use Rattle.std.proofs.lemmas.Int.{ints}
use Rattle.std.specs.Prelude.{◌<ℤ◌, ◌≤ℤ◌}
use borrow.Author.Differences.{product_is}
use Rattle.git_lemmas.proofs.Integers.{add_nonneg, mul_nonneg, square_zero}
use Rattle.git_defs.proofs.Linear.{dot-zero}
use Rattle.git_defs.specs.Vectors.{Vector, dot, zero_vector}

square : (a : ℤ) → pos 0 ≤ℤ (a *ℤ a)
square (pos n) = mul_nonneg (pos n) (pos n) (omega (arith, ints)) (omega (arith, ints))
square (negsuc n) = omega (arith, ints, product_is (negsuc n) (negsuc n))

dot_square : (u : Vector) → pos 0 ≤ℤ dot u u
dot_square [] = omega (arith, ints)
dot_square (x ∷ u) = add_nonneg _ _ (square x) (dot_square u)

pub zero_or_positive : (k : ℕ) (u : Vector) → length u ≡ k → (u ≡ zero_vector k) ⊎ (pos 0 <ℤ dot u u)
zero_or_positive zero [] e = inl refl
zero_or_positive (suc k) [] e = absurd (omega arith)
zero_or_positive zero (x ∷ u) e = absurd (omega arith)
zero_or_positive (suc k) (x ∷ u) e = elim (square_zero x) [
  | inl none ↦ elim (zero_or_positive k u (omega arith)) [
    | inl rest ↦ inl (λ i. none i ∷ rest i)
    | inr more ↦ inr (let s = square x in omega (arith, ints))
  ]
  | inr more ↦ inr (let s = dot_square u in omega (arith, ints))
]

-- so equality with 0 can be decided
pub vector_zero_or_not : (k : ℕ) (u : Vector) → length u ≡ k → (u ≡ zero_vector k) ⊎ (u ≡ zero_vector k → ⊥)
vector_zero_or_not k u e = elim (zero_or_positive k u e) [
  | inl none ↦ inl none
  | inr more ↦ inr (λ z. let f : dot u u ≡ pos 0 = (λ i. dot (z i) (z i)) ∙ dot-zero (zero_vector k) k in omega (arith, ints, f, more))
]
