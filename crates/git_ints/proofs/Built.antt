-- Vectors written entry by entry.
use Rattle.std.proofs.Common.{◌≡◌, ℕ, zero, suc, ◌+◌, ◌<◌, ◌≤◌, List, [], ◌∷◌, length, take, set, get_or, refl, ap, arith}
use Rattle.std.proofs.Math.IntN.{ℤ, pos, ◌+ℤ◌, ◌*ℤ◌}
use Rattle.git_defs.specs.Vectors.{Vector, plus, scale, zero_vector, units}
use Rattle.std.specs.Prelude.{slice_get, Some, map}

pub built_plus : (all a b : Vector) → length a ≡ length b → length a ≤ length all → ((j : ℕ) → j < length a → get_or all j (pos 0) ≡ get_or a j (pos 0) +ℤ get_or b j (pos 0)) → take (length a) all ≡ plus a b
built_plus [] [] [] e h each = refl
built_plus (x ∷ all) [] [] e h each = refl
built_plus all [] (z ∷ b) e h each = absurd (omega arith)
built_plus all (y ∷ a) [] e h each = absurd (omega arith)
built_plus [] (y ∷ a) (z ∷ b) e h each = absurd (omega arith)
built_plus (x ∷ all) (y ∷ a) (z ∷ b) e h each = λ i. each 0 (omega arith) i ∷ built_plus all a b (omega arith) (omega arith) (λ j g. each (suc j) (omega arith)) i

pub zeros_front : (k m : ℕ) → k ≤ m → take k (zero_vector m) ≡ zero_vector k
zeros_front zero zero h = refl
zeros_front zero (suc m) h = refl
zeros_front (suc k) zero h = absurd (omega arith)
zeros_front (suc k) (suc m) h = ap (λ v. pos 0 ∷ v) (zeros_front k m (omega arith))

pub unit_front : (k m i : ℕ) → i < k → k ≤ m → take k (set (zero_vector m) i (pos 1)) ≡ set (zero_vector k) i (pos 1)
unit_front zero m i h g = absurd (omega arith)
unit_front (suc k) zero i h g = absurd (omega arith)
unit_front (suc k) (suc m) zero h g = ap (λ v. pos 1 ∷ v) (zeros_front k m (omega arith))
unit_front (suc k) (suc m) (suc i) h g = ap (λ v. pos 0 ∷ v) (unit_front k m i (omega arith) (omega arith))

-- a multiple of a vector, from the entries
pub built_divided : (n : ℕ) (all a : Vector) → length a ≤ length all → ((j : ℕ) → j < length a → get_or a j (pos 0) ≡ pos n *ℤ get_or all j (pos 0)) → a ≡ scale (pos n) (take (length a) all)
built_divided n [] [] h each = refl
built_divided n (x ∷ all) [] h each = refl
built_divided n [] (y ∷ a) h each = absurd (omega arith)
built_divided n (x ∷ all) (y ∷ a) h each = λ i. each 0 (omega arith) i ∷ built_divided n all a (omega arith) (λ j g. each (suc j) (omega arith)) i

pub built_blend : (c d : ℤ) (all a b : Vector) → length a ≡ length b → length a ≤ length all
    → ((j : ℕ) → j < length a → get_or all j (pos 0) ≡ c *ℤ get_or a j (pos 0) +ℤ d *ℤ get_or b j (pos 0)) → take (length a) all ≡ plus (scale c a) (scale d b)
built_blend c d [] [] [] e h each = refl
built_blend c d (x ∷ all) [] [] e h each = refl
built_blend c d all [] (z ∷ b) e h each = absurd (omega arith)
built_blend c d all (y ∷ a) [] e h each = absurd (omega arith)
built_blend c d [] (y ∷ a) (z ∷ b) e h each = absurd (omega arith)
built_blend c d (x ∷ all) (y ∷ a) (z ∷ b) e h each = λ i. each 0 (omega arith) i ∷ built_blend c d all a b (omega arith) (omega arith) (λ j g. each (suc j) (omega arith)) i

-- ---- the unit vectors
get_map : (f : Vector → Vector) (vs : List Vector) (i : ℕ) (w : Vector) → slice_get vs i ≡ Some w → slice_get (map f vs) i ≡ Some (f w)
get_map f [] i w e = cc e
get_map f (v ∷ vs) zero w e = let g : v ≡ w = cc e in ap (λ u. Some (f u)) g
get_map f (v ∷ vs) (suc i) w e = get_map f vs i w e

pub unit_at : (k i : ℕ) → i < k → slice_get (units k) i ≡ Some (set (zero_vector k) i (pos 1))
unit_at zero i h = absurd (omega arith)
unit_at (suc k) zero h = refl
unit_at (suc k) (suc i) h = get_map (λ v. pos 0 ∷ v) (units k) i _ (unit_at k i (omega arith))

-- one entry more is written
pub set_each : (all : Vector) (i : ℕ) (z : ℤ) (value : ℕ → ℤ) → i < length all → ((j : ℕ) → j < i → get_or all j (pos 0) ≡ value j) → z ≡ value i
    → (j : ℕ) → j < i + 1 → get_or (set all i z) j (pos 0) ≡ value j
set_each [] i z value h before now j lt = absurd (omega arith)
set_each (x ∷ all) zero z value h before now zero lt = now
set_each (x ∷ all) zero z value h before now (suc j) lt = absurd (omega arith)
set_each (x ∷ all) (suc i) z value h before now zero lt = before zero (omega arith)
set_each (x ∷ all) (suc i) z value h before now (suc j) lt = set_each all i z (λ n. value (suc n)) (omega arith) (λ n g. before (suc n) (omega arith)) now j (omega arith)
