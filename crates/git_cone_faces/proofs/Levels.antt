-- Sums of vectors on one side of a normal, and where they are 0.
use Rattle.std.proofs.Common.{◌≡◌, ◌∙◌, ◌∷◌, [], List, ap, arith, inl, inr, length, map, refl, subst, suc, sym, zero, ℕ}
use Rattle.std.proofs.Math.IntN.{◌*ℤ◌, negsuc, pos, zero-*ℤ, ℤ}
use Rattle.std.proofs.lemmas.Int.{ints}
use Rattle.std.specs.Prelude.{◌≤ℤ◌}
use borrow.Author.Differences.{product_is}
use Rattle.git_defs.specs.Cones.{InCone, IsClosed}
use Rattle.git_defs.specs.Vectors.{Vector, combination, dot, scale, vector_sum}
use Rattle.git_defs.proofs.Lengths.{OfLength, first_of_length, rest_of_length}
use Rattle.git_defs.proofs.Linear.{combination_beside, dot-plus, dot-scale, dot-zero, length-combination, length-scale}
use Rattle.git_lemmas.specs.Members.{Member}
use Rattle.git_lemmas.proofs.Integers.{mul_nonneg, zero_of_mul}
use Rattle.git_geometry.proofs.Identities.{dot-scale_zero, product_zero}
use Rattle.git_geometry.proofs.Inside.{length-vector_sum}

-- a closed set that has the vectors has their sum
pub closed_sum : (k : ℕ) (D : Vector → Type 0) (vs : List Vector) → IsClosed k D → ((v : Vector) → Member v vs → D v) → D (vector_sum k vs)
closed_sum k D [] closed each = closed.none
closed_sum k D (v ∷ vs) closed each = closed.sums v (vector_sum k vs) (each v (inl refl)) (closed_sum k D vs closed (λ u m. each u (inr m)))

pub sum_beside : (k : ℕ) (n : Vector) (vs : List Vector) → OfLength k vs → ((v : Vector) → Member v vs → pos 0 ≤ℤ dot n v)
    → pos 0 ≤ℤ dot n (vector_sum k vs)
sum_beside k n [] have beside = let e = dot-zero n k in omega (arith, ints, e)
sum_beside k n (v ∷ vs) have beside =
    let rest = rest_of_length k v vs have in
    let e = dot-plus n v (vector_sum k vs) (first_of_length k v vs have ∙ sym (length-vector_sum k vs rest)) in
    let here = beside v (inl refl) in
    let more = sum_beside k n vs rest (λ u m. beside u (inr m)) in
    omega (arith, ints, e, here, more)

-- where the sum is 0 each is
pub sum_level : (k : ℕ) (n : Vector) (vs : List Vector) → OfLength k vs → ((v : Vector) → Member v vs → pos 0 ≤ℤ dot n v)
    → dot n (vector_sum k vs) ≡ pos 0 → (v : Vector) → Member v vs → dot n v ≡ pos 0
sum_level k n [] have beside none u m = absurd m
sum_level k n (v ∷ vs) have beside none u m =
    let rest = rest_of_length k v vs have in
    let e = dot-plus n v (vector_sum k vs) (first_of_length k v vs have ∙ sym (length-vector_sum k vs rest)) in
    let here = beside v (inl refl) in
    let more = sum_beside k n vs rest (λ w o. beside w (inr o)) in
    let first : dot n v ≡ pos 0 = omega (arith, ints, e, here, more, none) in
    let later : dot n (vector_sum k vs) ≡ pos 0 = omega (arith, ints, e, here, more, none) in
    elim m [
      | inl f ↦ subst (λ (w : Vector). dot n w ≡ pos 0) f first
      | inr o ↦ sum_level k n vs rest (λ w p. beside w (inr p)) later u o
    ]

term_level : (w : ℕ) (a b : ℤ) → pos w *ℤ a ≡ pos 0 → (a ≡ pos 0 → b ≡ pos 0) → pos w *ℤ b ≡ pos 0
term_level zero a b e imply = zero-*ℤ b
term_level (suc w) a b e imply = product_zero (pos (suc w)) b (imply (zero_of_mul (pos (suc w)) a (omega (arith, ints)) e))

-- y is 0 on a sum on which x is 0, where it is 0 on each of the vectors on which x is
combination_level : (k : ℕ) (x y : Vector) (ws : List ℕ) (vs : List Vector) → OfLength k vs → ((v : Vector) → Member v vs → pos 0 ≤ℤ dot x v)
    → ((v : Vector) → Member v vs → dot x v ≡ pos 0 → dot y v ≡ pos 0)
    → dot x (combination k (map pos ws) vs) ≡ pos 0 → dot y (combination k (map pos ws) vs) ≡ pos 0
combination_level k x y [] vs have beside imply none = dot-zero y k
combination_level k x y (w ∷ ws) [] have beside imply none = dot-zero y k
combination_level k x y (w ∷ ws) (v ∷ vs) have beside imply none =
    let rest = combination k (map pos ws) vs in
    let have_rest = rest_of_length k v vs have in
    let sizes : length (scale (pos w) v) ≡ length rest =
    length-scale (pos w) v ∙ first_of_length k v vs have ∙ sym (length-combination k (map pos ws) vs have_rest) in
    let e = dot-plus x (scale (pos w) v) rest sizes in
    let f = dot-scale x (pos w) v in
    let here = mul_nonneg (pos w) (dot x v) (omega (arith, ints)) (beside v (inl refl)) in
    let more = combination_beside k x ws vs have_rest (λ u m. beside u (inr m)) in
    let first : pos w *ℤ dot x v ≡ pos 0 = omega (arith, ints, e, f, here, more, none) in
    let later : dot x rest ≡ pos 0 = omega (arith, ints, e, f, here, more, none) in
    let g = dot-plus y (scale (pos w) v) rest sizes in
    let h = dot-scale y (pos w) v in
    let first_y = term_level w (dot x v) (dot y v) first (imply v (inl refl)) in
    let later_y = combination_level k x y ws vs have_rest (λ u m. beside u (inr m)) (λ u m. imply u (inr m)) later in
    omega (arith, ints, g, h, first_y, later_y)

pub cone_level : (k : ℕ) (x y : Vector) (vs : List Vector) (n : Vector) → OfLength k vs → ((v : Vector) → Member v vs → pos 0 ≤ℤ dot x v)
    → ((v : Vector) → Member v vs → dot x v ≡ pos 0 → dot y v ≡ pos 0) → InCone k vs n → dot x n ≡ pos 0 → dot y n ≡ pos 0
cone_level k x y vs n have beside imply c none =
    let some = c.positive in
    let at_x = sym (ap (dot x) c.sum) ∙ dot-scale_zero x (pos c.multiple) n none in
    let at_y = combination_level k x y c.weights vs have beside imply at_x in
    zero_of_mul (pos c.multiple) (dot y n) (omega (arith, ints, some)) (sym (dot-scale y (pos c.multiple) n) ∙ ap (dot y) c.sum ∙ at_y)

-- a number that is not below 0 and whose negative is not is 0
pub squeezed : (z : ℤ) → pos 0 ≤ℤ z → pos 0 ≤ℤ (negsuc 0 *ℤ z) → z ≡ pos 0
squeezed (pos zero) p q = refl
squeezed (pos (suc n)) p q = absurd (omega (arith, ints, q, product_is (negsuc 0) (pos (suc n))))
squeezed (negsuc n) p q = absurd (omega (arith, ints))
