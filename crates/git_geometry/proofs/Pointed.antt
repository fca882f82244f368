-- Cones without a line: by their generators, and by their inequalities.
use Rattle.std.proofs.Common.{◌≡◌, ◌+◌, ◌<◌, ◌∙◌, ◌⊎◌, ◌∷◌, ◌*◌, [], List, ap, arith, inl, inr, length, map, refl, slice_index, suc, sym, zero, ℕ}
use Rattle.std.proofs.Math.IntN.{◌*ℤ◌, pos, ℤ}
use Rattle.std.specs.Prelude.{SomeIndex}
use Rattle.git_lemmas.proofs.Integers.{mul_comm}
use Rattle.git_defs.proofs.Linear.{length-zero}
use Rattle.git_lemmas.specs.Members.{Member}
use Rattle.git_defs.proofs.Lengths.{OfLength, first_of_length, rest_of_length}
use Rattle.git_defs.proofs.Sums.{adds, combination-adds, combination-times, length-adds, length-times, plus-zero, scale-plus, scale-scale, scale-zero, scale_none, times}
use Rattle.git_defs.specs.Cones.{InCone, IsPointed}
use Rattle.git_defs.specs.Vectors.{HasZeroSum, Vector, combination, plus, scale, zero_vector}
use Rattle.git_geometry.proofs.Primitive.{vanish}

-- ---- generators
-- some number is not 0, or all are
some_or_none : (ns : List ℕ) → SomeIndex ns (λ i. 0 < slice_index ns i) ⊎ ((n : ℕ) → Member n ns → n ≡ 0)
some_or_none [] = inr (λ n m. absurd m)
some_or_none (suc n ∷ ns) = inl (0, omega arith, omega arith)
some_or_none (zero ∷ ns) = elim (some_or_none ns) [
  | inl s ↦ inl (suc s.0, (let h = s.1 in omega arith), s.2)
  | inr none ↦ inr (λ n m. elim m [ inl e ↦ sym e | inr o ↦ none n o ])
]

combination_none : (k : ℕ) (ns : List ℕ) (vs : List Vector) → OfLength k vs → ((n : ℕ) → Member n ns → n ≡ 0)
    → combination k (map pos ns) vs ≡ zero_vector k
combination_none k [] vs have none = refl
combination_none k (n ∷ ns) [] have none = refl
combination_none k (n ∷ ns) (v ∷ vs) have none =
    ap (λ (m : ℕ). plus (scale (pos m) v) (combination k (map pos ns) vs)) (none n (inl refl))
    ∙ (λ i. plus (scale_none v k (first_of_length k v vs have) i) (combination_none k ns vs (rest_of_length k v vs have) (λ m o. none m (inr o)) i))
    ∙ plus-zero (zero_vector k) k (length-zero k)

-- a term of a sum of natural numbers that is 0 is 0
left_none : (ns ms : List ℕ) → length ns ≡ length ms → ((n : ℕ) → Member n (adds ns ms) → n ≡ 0) → (n : ℕ) → Member n ns → n ≡ 0
left_none [] ms e none n m = absurd m
left_none (a ∷ ns) [] e none n m = absurd (omega arith)
left_none (a ∷ ns) (b ∷ ms) e none n (inl f) = let h = none (a + b) (inl refl) in omega (arith, f, h)
left_none (a ∷ ns) (b ∷ ms) e none n (inr m) = left_none ns ms (omega arith) (λ c o. none c (inr o)) n m

times_none : (c : ℕ) (ns : List ℕ) → 0 < c → ((n : ℕ) → Member n (times c ns) → n ≡ 0) → (n : ℕ) → Member n ns → n ≡ 0
times_none c [] some none n m = absurd m
times_none c (a ∷ ns) some none n (inl f) = let h = none (c * a) (inl refl) in absent c a n some h f where
  absent : (c a n : ℕ) → 0 < c → c * a ≡ 0 → a ≡ n → n ≡ 0
  absent c zero n some h f = sym f
  absent zero (suc a) n some h f = absurd (omega arith)
  absent (suc c) (suc a) n some h f = absurd (omega (arith, h))
times_none c (a ∷ ns) some none n (inr m) = times_none c ns some (λ b o. none b (inr o)) n m

-- where no sum of the generators is 0, their cone is pointed
pub no_zero_sum_pointed : (k : ℕ) (vs : List Vector) → OfLength k vs → (HasZeroSum k vs → ⊥) → IsPointed k (InCone k vs)
no_zero_sum_pointed k vs have no_sum x y h j e = elim (some_or_none both) [
  | inl some ↦ absurd (no_sum (record { numbers = both; one_each = sizes; some = some; zero_sum = sum }))
  | inr none ↦ vanish k h.multiple x h.positive (h.sum ∙ combination_none k h.weights vs have
      (times_none j.multiple h.weights j.positive (left_none ns ms lengths none)))
] where
  ns : List ℕ
  ns = times j.multiple h.weights

  ms : List ℕ
  ms = times h.multiple j.weights

  both : List ℕ
  both = adds ns ms

  lengths : length ns ≡ length ms
  lengths = length-times j.multiple h.weights ∙ h.one_each ∙ sym (length-times h.multiple j.weights ∙ j.one_each)

  sizes : length both ≡ length vs
  sizes = length-adds ns ms lengths ∙ length-times j.multiple h.weights ∙ h.one_each

  -- (n m) x + (m n) y
  sum : combination k (map pos both) vs ≡ zero_vector k
  sum =
      let m = h.multiple in let n = j.multiple in
      let turned : pos m *ℤ pos n ≡ pos n *ℤ pos m = mul_comm (pos m) (pos n) in
      combination-adds k ns ms vs have lengths
      ∙ (λ i. plus (combination-times k n h.weights vs i) (combination-times k m j.weights vs i))
      ∙ (λ i. plus (scale (pos n) (sym h.sum i)) (scale (pos m) (sym j.sum i)))
      ∙ (λ i. plus (scale-scale (pos n) (pos m) x i) (scale-scale (pos m) (pos n) y i))
      ∙ ap (λ (z : ℤ). plus (scale (pos n *ℤ pos m) x) (scale z y)) turned
      ∙ sym (scale-plus (pos n *ℤ pos m) x y) ∙ ap (scale (pos n *ℤ pos m)) e ∙ scale-zero (pos n *ℤ pos m) k

-- a set within a pointed one is pointed
pub pointed_within : (k : ℕ) (C D : Vector → Type 0) → ((x : Vector) → C x → D x) → IsPointed k D → IsPointed k C
pointed_within k C D within pointed x y cx cy e = pointed x y (within x cx) (within y cy) e
