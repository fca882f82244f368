-- Sums of multiples of columns, one column after the other.
use Rattle.std.proofs.Common.{zero, suc, ℕ, ◌+◌, ◌<◌, ◌≤◌, ◌≡◌, refl, List, [], ◌∷◌, length, get_or, take, sym, ap, ◌∙◌, add-one, arith, Some}
use Rattle.std.specs.Prelude.{map, slice_get}
use Rattle.std.proofs.Math.IntN.{pos, ◌+ℤ◌, ◌*ℤ◌}
use Rattle.std.proofs.lemmas.Int.{ints}
use Rattle.git_defs.specs.Vectors.{Vector, scale, plus, combination}
use Rattle.git_defs.proofs.Lengths.{OfLength, first_of_length, rest_of_length}
use Rattle.git_defs.proofs.Linear.{length-scale}
use Rattle.git_defs.proofs.Sums.{plus-zero, zero-plus}
use Rattle.git_ints.specs.Padded.{AreWithin}
use Rattle.git_lemmas.proofs.Integers.{abs_mul, abs_add}

plus-assoc : (u v w : Vector) → plus u (plus v w) ≡ plus (plus u v) w
plus-assoc [] [] [] = refl
plus-assoc [] [] (z ∷ w) = refl
plus-assoc [] (y ∷ v) [] = refl
plus-assoc [] (y ∷ v) (z ∷ w) = refl
plus-assoc (x ∷ u) [] [] = refl
plus-assoc (x ∷ u) [] (z ∷ w) = refl
plus-assoc (x ∷ u) (y ∷ v) [] = refl
plus-assoc (x ∷ u) (y ∷ v) (z ∷ w) = let e : x +ℤ (y +ℤ z) ≡ (x +ℤ y) +ℤ z = omega (arith, ints) in λ i. e i ∷ plus-assoc u v w i

one_more : (k : ℕ) (xs : List ℕ) (vs : List Vector) (i : ℕ) → OfLength k vs → i < length xs → i < length vs
    → combination k (map pos (take (suc i) xs)) vs ≡ plus (combination k (map pos (take i xs)) vs) (scale (pos (get_or xs i 0)) (get_or vs i []))
one_more k [] vs i have h g = absurd (omega arith)
one_more k (x ∷ xs) [] i have h g = absurd (omega arith)
one_more k (x ∷ xs) (v ∷ vs) zero have h g =
    let long : length (scale (pos x) v) ≡ k = length-scale (pos x) v ∙ first_of_length k v vs have in
    plus-zero (scale (pos x) v) k long ∙ sym (zero-plus (scale (pos x) v) k long)
one_more k (x ∷ xs) (v ∷ vs) (suc i) have h g =
    ap (plus (scale (pos x) v)) (one_more k xs vs i (rest_of_length k v vs have) (omega arith) (omega arith))
    ∙ plus-assoc (scale (pos x) v) (combination k (map pos (take i xs)) vs) (scale (pos (get_or xs i 0)) (get_or vs i []))

pub one_more_column : (k : ℕ) (xs : List ℕ) (vs : List Vector) (i : ℕ) → OfLength k vs → i < length xs → i < length vs
    → combination k (map pos (take (i + 1) xs)) vs ≡ plus (combination k (map pos (take i xs)) vs) (scale (pos (get_or xs i 0)) (get_or vs i []))
one_more_column k xs vs i have h g = ap (λ (n : ℕ). combination k (map pos (take n xs)) vs) (add-one i) ∙ one_more k xs vs i have h g

pub all_columns : (k : ℕ) (xs : List ℕ) (vs : List Vector) (i : ℕ) → length vs ≤ i → combination k (map pos (take i xs)) vs ≡ combination k (map pos xs) vs
all_columns k [] vs zero h = refl
all_columns k [] vs (suc i) h = refl
all_columns k (x ∷ xs) [] zero h = refl
all_columns k (x ∷ xs) [] (suc i) h = refl
all_columns k (x ∷ xs) (v ∷ vs) zero h = absurd (omega arith)
all_columns k (x ∷ xs) (v ∷ vs) (suc i) h = ap (plus (scale (pos x) v)) (all_columns k xs vs i (omega arith))

pub sum_within : (u v : Vector) (c n : ℕ) → AreWithin n u → AreWithin 1000 v → c ≤ 64 → AreWithin (n + 64000) (plus u (scale (pos c) v))
sum_within [] [] c n a b h i d g = absurd (omega arith)
sum_within [] (y ∷ v) c n a b h i d g = absurd (omega arith)
sum_within (x ∷ u) [] c n a b h i d g = absurd (omega arith)
sum_within (x ∷ u) (y ∷ v) c n a b h zero d g =
    abs_add x (pos c *ℤ y) n 64000 (a 0 d (omega arith)) (abs_mul (pos c) y 64 1000 (omega (arith, ints, h)) (b 0 d (omega arith)))
sum_within (x ∷ u) (y ∷ v) c n a b h (suc i) d g =
    sum_within u v c n (λ j e l. a (suc j) e (omega arith)) (λ j e l. b (suc j) e (omega arith)) h i d (omega arith)

pub column_at : (vs : List Vector) (i : ℕ) (v : Vector) → slice_get vs i ≡ Some v → get_or vs i [] ≡ v
column_at [] i v e = cc e
column_at (w ∷ vs) zero v e = cc e
column_at (w ∷ vs) (suc i) v e = column_at vs i v e
