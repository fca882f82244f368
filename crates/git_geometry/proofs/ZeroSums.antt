-- Natural numbers with which vectors sum to 0: from those of fewer vectors, and from a negative in their cone.
use Rattle.std.proofs.Common.{◌≡◌, ℕ, zero, suc, List, [], ◌∷◌, length, refl, sym, ◌∙◌, ap, arith}
use Rattle.std.proofs.Math.IntN.{pos, negsuc, ◌+ℤ◌, ◌*ℤ◌}
use Rattle.git_defs.specs.Vectors.{Vector, zero_vector, scale, plus, HasZeroSum}
use Rattle.git_defs.specs.Cones.{InCone}
use Rattle.git_lemmas.proofs.Integers.{diff, diff_add, diff_mul, diff_same}
use Rattle.git_defs.proofs.Lengths.{OfLength, first_of_length}
use Rattle.git_defs.proofs.Linear.{length-zero}
use Rattle.git_defs.proofs.Sums.{scale-plus, scale-zero, scale_none, plus-zero}

-- one vector more, with the number 0
pub zero_sum_later : (k : ℕ) (v : Vector) (vs : List Vector) → OfLength k (v ∷ vs) → HasZeroSum k vs → HasZeroSum k (v ∷ vs)
zero_sum_later k v vs have h = record {
  numbers = 0 ∷ h.numbers;
  one_each = ap suc h.one_each;
  some = (suc h.some.0, (let p = h.some.1 in omega arith), h.some.2);
  zero_sum = (λ i. plus (scale_none v k (first_of_length k v vs have) i) (h.zero_sum i)) ∙ plus-zero (zero_vector k) k (length-zero k);
}

opposite : (k : ℕ) (v : Vector) → length v ≡ k → plus v (scale (negsuc 0) v) ≡ zero_vector k
opposite zero [] e = refl
opposite (suc k) [] e = absurd (omega arith)
opposite zero (x ∷ v) e = absurd (omega arith)
opposite (suc k) (x ∷ v) e =
    let f : x +ℤ negsuc 0 *ℤ x ≡ pos 0 = diff_same (diff_add (diff x) (diff_mul (diff (negsuc 0)) (diff x))) (diff (pos 0)) (omega arith) in
    λ i. f i ∷ opposite k v (omega arith) i

-- the negative of a vector in the cone of the others
pub zero_sum_of_negative : (k : ℕ) (v : Vector) (vs : List Vector) → length v ≡ k → InCone k vs (scale (negsuc 0) v) → HasZeroSum k (v ∷ vs)
zero_sum_of_negative k v vs e h = record {
  numbers = h.multiple ∷ h.weights;
  one_each = ap suc h.one_each;
  some = (0, omega arith, h.positive);
  zero_sum = ap (plus (scale (pos h.multiple) v)) (sym h.sum) ∙ sym (scale-plus (pos h.multiple) v (scale (negsuc 0) v)) ∙ ap (scale (pos h.multiple)) (opposite k v e) ∙ scale-zero (pos h.multiple) k;
}
