-- Vectors on which one functional is positive have no sum 0 with natural numbers.
use Rattle.std.proofs.Common.{◌≡◌, ℕ, zero, suc, ◌<◌, List, [], ◌∷◌, length, map, refl, sym, ◌∙◌, ap, subst, arith, inl, inr}
use Rattle.std.specs.Prelude.{◌<ℤ◌, slice_index}
use Rattle.std.proofs.Math.IntN.{ℤ, pos, ◌+ℤ◌, ◌*ℤ◌}
use Rattle.std.proofs.lemmas.Int.{ints}
use Rattle.git_defs.specs.Vectors.{Vector, scale, dot, combination, HasZeroSum}
use Rattle.git_lemmas.proofs.Integers.{mul_nonneg, mul_pos}
use Rattle.git_lemmas.specs.Members.{Member}
use Rattle.git_defs.proofs.Lengths.{OfLength, first_of_length, rest_of_length}
use Rattle.git_defs.proofs.Linear.{dot-plus, dot-scale, dot-zero, length-scale, length-combination, combination_beside}

split : (k : ℕ) (n : Vector) (w : ℕ) (v : Vector) (ws : List ℕ) (vs : List Vector) → OfLength k (v ∷ vs)
    → dot n (combination k (map pos (w ∷ ws)) (v ∷ vs)) ≡ pos w *ℤ dot n v +ℤ dot n (combination k (map pos ws) vs)
split k n w v ws vs have =
    let rest = combination k (map pos ws) vs in
    dot-plus n (scale (pos w) v) rest (length-scale (pos w) v ∙ first_of_length k v vs have ∙ sym (length-combination k (map pos ws) vs (rest_of_length k v vs have)))
    ∙ ap (λ (z : ℤ). z +ℤ dot n rest) (dot-scale n (pos w) v)

-- a sum with one positive number is positive where the functional is
weighted_positive : (k : ℕ) (n : Vector) (ws : List ℕ) (vs : List Vector) → OfLength k vs → ((v : Vector) → Member v vs → pos 0 <ℤ dot n v) → length ws ≡ length vs
    → (i : ℕ) → i < length ws → 0 < slice_index ws i → pos 0 <ℤ dot n (combination k (map pos ws) vs)
weighted_positive k n [] vs have each e i lt some = absurd (omega arith)
weighted_positive k n (w ∷ ws) [] have each e i lt some = absurd (omega arith)
weighted_positive k n (w ∷ ws) (v ∷ vs) have each e zero lt some =
    let rest = combination k (map pos ws) vs in
    let p = mul_pos (pos w) (dot n v) (omega (arith, ints)) (each v (inl refl)) in
    let q = combination_beside k n ws vs (rest_of_length k v vs have) (λ x m. (let r = each x (inr m) in omega (arith, ints))) in
    subst (λ (z : ℤ). pos 0 <ℤ z) (sym (split k n w v ws vs have)) (omega (arith, ints, p, q))
weighted_positive k n (w ∷ ws) (v ∷ vs) have each e (suc i) lt some =
    let p = mul_nonneg (pos w) (dot n v) (omega (arith, ints)) (let r = each v (inl refl) in omega (arith, ints)) in
    let q = weighted_positive k n ws vs (rest_of_length k v vs have) (λ x m. each x (inr m)) (omega arith) i (omega arith) some in
    subst (λ (z : ℤ). pos 0 <ℤ z) (sym (split k n w v ws vs have)) (omega (arith, ints, p, q))

pub positive_no_zero_sum : (k : ℕ) (n : Vector) (vs : List Vector) → OfLength k vs → ((v : Vector) → Member v vs → pos 0 <ℤ dot n v) → HasZeroSum k vs → ⊥
positive_no_zero_sum k n vs have each h =
    let p = weighted_positive k n h.numbers vs have each h.one_each h.some.0 h.some.1 h.some.2 in
    let e = ap (dot n) h.zero_sum ∙ dot-zero n k in
    let q : pos 0 <ℤ pos 0 = subst (λ (z : ℤ). pos 0 <ℤ z) e p in omega (arith, ints, q)
