-- Sums of vectors under an inner product.
use Rattle.std.proofs.Common.{◌≡◌, ℕ, zero, suc, List, [], ◌∷◌, length, map, refl, sym, ◌∙◌, ap, subst, arith, inl, inr}
use Rattle.std.proofs.Math.IntN.{ℤ, pos, ◌+ℤ◌, ◌*ℤ◌, *ℤ-zero}
use Rattle.std.specs.Prelude.{◌≤ℤ◌}
use Rattle.std.proofs.lemmas.Int.{ints}
use Rattle.git_defs.specs.Vectors.{Vector, zero_vector, scale, plus, dot, combination}
use Rattle.git_defs.specs.Cones.{InCone}
use Rattle.git_lemmas.specs.Members.{Member}
use Rattle.git_defs.proofs.Lengths.{OfLength, first_of_length, rest_of_length}
use Rattle.git_lemmas.proofs.Integers.{mul_comm, diff, diff_add, diff_mul, diff_same, add_nonneg, mul_nonneg, nonneg_of_mul}

step_plus : (n x y d e : ℤ) → n *ℤ (x +ℤ y) +ℤ (d +ℤ e) ≡ (n *ℤ x +ℤ d) +ℤ (n *ℤ y +ℤ e)
step_plus n x y d e = diff_same (diff_add (diff_mul (diff n) (diff_add (diff x) (diff y))) (diff_add (diff d) (diff e)))
    (diff_add (diff_add (diff_mul (diff n) (diff x)) (diff d)) (diff_add (diff_mul (diff n) (diff y)) (diff e))) (omega arith)

step_scale : (n c x d : ℤ) → n *ℤ (c *ℤ x) +ℤ c *ℤ d ≡ c *ℤ (n *ℤ x +ℤ d)
step_scale n c x d = diff_same (diff_add (diff_mul (diff n) (diff_mul (diff c) (diff x))) (diff_mul (diff c) (diff d)))
    (diff_mul (diff c) (diff_add (diff_mul (diff n) (diff x)) (diff d))) (omega arith)

pub dot-plus : (n u v : Vector) → length u ≡ length v → dot n (plus u v) ≡ dot n u +ℤ dot n v
dot-plus [] [] [] e = refl
dot-plus [] [] (y ∷ v) e = refl
dot-plus [] (x ∷ u) [] e = refl
dot-plus [] (x ∷ u) (y ∷ v) e = refl
dot-plus (m ∷ n) [] [] e = refl
dot-plus (m ∷ n) [] (y ∷ v) e = absurd (omega arith)
dot-plus (m ∷ n) (x ∷ u) [] e = absurd (omega arith)
dot-plus (m ∷ n) (x ∷ u) (y ∷ v) e =
    ap (λ (z : ℤ). m *ℤ (x +ℤ y) +ℤ z) (dot-plus n u v (omega arith)) ∙ step_plus m x y (dot n u) (dot n v)

pub dot-scale : (n : Vector) (c : ℤ) (v : Vector) → dot n (scale c v) ≡ c *ℤ dot n v
dot-scale [] c [] = sym (*ℤ-zero c)
dot-scale [] c (x ∷ v) = sym (*ℤ-zero c)
dot-scale (m ∷ n) c [] = sym (*ℤ-zero c)
dot-scale (m ∷ n) c (x ∷ v) = ap (λ (z : ℤ). m *ℤ (c *ℤ x) +ℤ z) (dot-scale n c v) ∙ step_scale m c x (dot n v)

pub dot-comm : (u v : Vector) → dot u v ≡ dot v u
dot-comm [] [] = refl
dot-comm [] (y ∷ v) = refl
dot-comm (x ∷ u) [] = refl
dot-comm (x ∷ u) (y ∷ v) = λ i. mul_comm x y i +ℤ dot-comm u v i

pub dot-zero : (n : Vector) (k : ℕ) → dot n (zero_vector k) ≡ pos 0
dot-zero [] zero = refl
dot-zero [] (suc k) = refl
dot-zero (m ∷ n) zero = refl
dot-zero (m ∷ n) (suc k) = ap (λ (z : ℤ). m *ℤ pos 0 +ℤ z) (dot-zero n k) ∙ ap (λ (z : ℤ). z +ℤ pos 0) (*ℤ-zero m)

pub length-plus : (u v : Vector) → length u ≡ length v → length (plus u v) ≡ length u
length-plus [] [] e = refl
length-plus [] (y ∷ v) e = refl
length-plus (x ∷ u) [] e = absurd (omega arith)
length-plus (x ∷ u) (y ∷ v) e = ap suc (length-plus u v (omega arith))

pub length-scale : (c : ℤ) (v : Vector) → length (scale c v) ≡ length v
length-scale c [] = refl
length-scale c (x ∷ v) = ap suc (length-scale c v)

pub length-zero : (k : ℕ) → length (zero_vector k) ≡ k
length-zero zero = refl
length-zero (suc k) = ap suc (length-zero k)

pub length-combination : (k : ℕ) (cs : List ℤ) (vs : List Vector) → OfLength k vs → length (combination k cs vs) ≡ k
length-combination k [] vs have = length-zero k
length-combination k (c ∷ cs) [] have = length-zero k
length-combination k (c ∷ cs) (v ∷ vs) have =
    length-plus (scale c v) (combination k cs vs) (length-scale c v ∙ first_of_length k v vs have ∙ sym (length-combination k cs vs (rest_of_length k v vs have))) ∙ length-scale c v ∙ first_of_length k v vs have

-- a sum of vectors on one side lies on that side
pub combination_beside : (k : ℕ) (n : Vector) (ws : List ℕ) (vs : List Vector) → OfLength k vs → ((v : Vector) → Member v vs → pos 0 ≤ℤ dot n v) → pos 0 ≤ℤ dot n (combination k (map pos ws) vs)
combination_beside k n [] vs have beside = let e = dot-zero n k in omega (arith, ints, e)
combination_beside k n (w ∷ ws) [] have beside = let e = dot-zero n k in omega (arith, ints, e)
combination_beside k n (w ∷ ws) (v ∷ vs) have beside =
    let rest = combination k (map pos ws) vs in
    let e = dot-plus n (scale (pos w) v) rest (length-scale (pos w) v ∙ first_of_length k v vs have ∙ sym (length-combination k (map pos ws) vs (rest_of_length k v vs have))) in
    let f = dot-scale n (pos w) v in
    let g = mul_nonneg (pos w) (dot n v) (omega (arith, ints)) (beside v (inl refl)) in
    let h = combination_beside k n ws vs (rest_of_length k v vs have) (λ x m. beside x (inr m)) in
    subst (λ (z : ℤ). pos 0 ≤ℤ z) (sym e) (add_nonneg _ _ (subst (λ (z : ℤ). pos 0 ≤ℤ z) (sym f) g) h)

-- and so does their cone
pub cone_beside : (k : ℕ) (n : Vector) (vs : List Vector) (x : Vector) → OfLength k vs → ((v : Vector) → Member v vs → pos 0 ≤ℤ dot n v) → InCone k vs x → pos 0 ≤ℤ dot n x
cone_beside k n vs x have beside c =
    nonneg_of_mul c.multiple (dot n x) c.positive
    (subst (λ (z : ℤ). pos 0 ≤ℤ z) (sym (ap (dot n) c.sum) ∙ dot-scale n (pos c.multiple) x) (combination_beside k n c.weights vs have beside))
