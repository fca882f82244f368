-- Cones are closed under sums and multiples.
use Rattle.std.proofs.Common.{◌≡◌, ℕ, zero, suc, ◌+◌, ◌*◌, ◌<◌, List, [], ◌∷◌, length, map, refl, sym, ◌∙◌, ap, arith}
use Rattle.std.proofs.Math.IntN.{ℤ, pos, ◌+ℤ◌, ◌*ℤ◌, *ℤ-zero, zero-*ℤ, +ℤ_idr, +ℤ_idl, pos-*ℤ-pos}
use Rattle.std.proofs.Math.Nat.{mul-le-mul}
use Rattle.git_defs.specs.Vectors.{Vector, zero_vector, scale, plus, combination}
use Rattle.git_defs.specs.Cones.{InCone}
use Rattle.git_lemmas.proofs.Integers.{diff, diff_add, diff_mul, diff_same, mul_assoc}
use Rattle.git_defs.proofs.Linear.{length-plus, length-scale, length-zero, length-combination}
use Rattle.git_defs.proofs.Lengths.{OfLength, first_of_length, rest_of_length}

-- ---- vectors
pub scale-plus : (c : ℤ) (u v : Vector) → scale c (plus u v) ≡ plus (scale c u) (scale c v)
scale-plus c [] [] = refl
scale-plus c [] (y ∷ v) = refl
scale-plus c (x ∷ u) [] = refl
scale-plus c (x ∷ u) (y ∷ v) =
    let e : c *ℤ (x +ℤ y) ≡ c *ℤ x +ℤ c *ℤ y = diff_same (diff_mul (diff c) (diff_add (diff x) (diff y))) (diff_add (diff_mul (diff c) (diff x)) (diff_mul (diff c) (diff y))) (omega arith) in
    λ i. e i ∷ scale-plus c u v i

pub scale-scale : (c d : ℤ) (v : Vector) → scale c (scale d v) ≡ scale (c *ℤ d) v
scale-scale c d [] = refl
scale-scale c d (x ∷ v) = λ i. sym (mul_assoc c d x) i ∷ scale-scale c d v i

pub plus-scales : (c d : ℤ) (v : Vector) → plus (scale c v) (scale d v) ≡ scale (c +ℤ d) v
plus-scales c d [] = refl
plus-scales c d (x ∷ v) =
    let e : c *ℤ x +ℤ d *ℤ x ≡ (c +ℤ d) *ℤ x = diff_same (diff_add (diff_mul (diff c) (diff x)) (diff_mul (diff d) (diff x))) (diff_mul (diff_add (diff c) (diff d)) (diff x)) (omega arith) in
    λ i. e i ∷ plus-scales c d v i

pub scale-zero : (c : ℤ) (k : ℕ) → scale c (zero_vector k) ≡ zero_vector k
scale-zero c zero = refl
scale-zero c (suc k) = λ i. *ℤ-zero c i ∷ scale-zero c k i

pub scale_none : (v : Vector) (k : ℕ) → length v ≡ k → scale (pos 0) v ≡ zero_vector k
scale_none [] zero e = refl
scale_none [] (suc k) e = absurd (omega arith)
scale_none (x ∷ v) zero e = absurd (omega arith)
scale_none (x ∷ v) (suc k) e = λ i. zero-*ℤ x i ∷ scale_none v k (omega arith) i

pub scale-one : (v : Vector) → scale (pos 1) v ≡ v
scale-one [] = refl
scale-one (x ∷ v) = let e : pos 1 *ℤ x ≡ x = diff_same (diff_mul (diff (pos 1)) (diff x)) (diff x) (omega arith) in λ i. e i ∷ scale-one v i

pub plus-zero : (v : Vector) (k : ℕ) → length v ≡ k → plus v (zero_vector k) ≡ v
plus-zero [] zero e = refl
plus-zero [] (suc k) e = refl
plus-zero (x ∷ v) zero e = absurd (omega arith)
plus-zero (x ∷ v) (suc k) e = λ i. +ℤ_idr x i ∷ plus-zero v k (omega arith) i

pub zero-plus : (v : Vector) (k : ℕ) → length v ≡ k → plus (zero_vector k) v ≡ v
zero-plus [] zero e = refl
zero-plus [] (suc k) e = absurd (omega arith)
zero-plus (x ∷ v) zero e = absurd (omega arith)
zero-plus (x ∷ v) (suc k) e = λ i. +ℤ_idl x i ∷ zero-plus v k (omega arith) i

-- the middle two change places
pub exchange : (a b c d : Vector) → length a ≡ length b → length c ≡ length d → length a ≡ length c → plus (plus a b) (plus c d) ≡ plus (plus a c) (plus b d)
exchange [] [] [] [] e f g = refl
exchange (w ∷ a) (x ∷ b) (y ∷ c) (z ∷ d) e f g =
    let h : (w +ℤ x) +ℤ (y +ℤ z) ≡ (w +ℤ y) +ℤ (x +ℤ z) = diff_same (diff_add (diff_add (diff w) (diff x)) (diff_add (diff y) (diff z))) (diff_add (diff_add (diff w) (diff y)) (diff_add (diff x) (diff z))) (omega arith) in
    λ i. h i ∷ exchange a b c d (omega arith) (omega arith) (omega arith) i
exchange a b c d e f g = absurd (omega arith)

-- ---- numbers of a sum
abbrev pub adds : List ℕ → List ℕ → List ℕ
adds (a ∷ ns) (b ∷ ms) = (a + b) ∷ adds ns ms
adds ns ms = []

abbrev pub times : ℕ → List ℕ → List ℕ
times n ns = map (λ a. n * a) ns

pub length-adds : (ns ms : List ℕ) → length ns ≡ length ms → length (adds ns ms) ≡ length ns
length-adds [] ms e = refl
length-adds (a ∷ ns) [] e = absurd (omega arith)
length-adds (a ∷ ns) (b ∷ ms) e = ap suc (length-adds ns ms (omega arith))

pub length-times : (n : ℕ) (ns : List ℕ) → length (times n ns) ≡ length ns
length-times n [] = refl
length-times n (a ∷ ns) = ap suc (length-times n ns)

pub combination-times : (k n : ℕ) (ns : List ℕ) (vs : List Vector) → combination k (map pos (times n ns)) vs ≡ scale (pos n) (combination k (map pos ns) vs)
combination-times k n [] vs = sym (scale-zero (pos n) k)
combination-times k n (a ∷ ns) [] = sym (scale-zero (pos n) k)
combination-times k n (a ∷ ns) (v ∷ vs) =
    (λ i. plus (scale (sym (pos-*ℤ-pos n a) i) v) (combination-times k n ns vs i))
    ∙ ap (λ (u : Vector). plus u (scale (pos n) (combination k (map pos ns) vs))) (sym (scale-scale (pos n) (pos a) v))
    ∙ sym (scale-plus (pos n) (scale (pos a) v) (combination k (map pos ns) vs))

pub combination-adds : (k : ℕ) (ns ms : List ℕ) (vs : List Vector) → OfLength k vs → length ns ≡ length ms
    → combination k (map pos (adds ns ms)) vs ≡ plus (combination k (map pos ns) vs) (combination k (map pos ms) vs)
combination-adds k [] [] vs have e = sym (plus-zero (zero_vector k) k (length-zero k))
combination-adds k [] (b ∷ ms) vs have e = absurd (omega arith)
combination-adds k (a ∷ ns) [] vs have e = absurd (omega arith)
combination-adds k (a ∷ ns) (b ∷ ms) [] have e = sym (plus-zero (zero_vector k) k (length-zero k))
combination-adds k (a ∷ ns) (b ∷ ms) (v ∷ vs) have e =
    let A = combination k (map pos ns) vs in let B = combination k (map pos ms) vs in
    let la = length-combination k (map pos ns) vs (rest_of_length k v vs have) in let lb = length-combination k (map pos ms) vs (rest_of_length k v vs have) in
    let sa = length-scale (pos a) v in let sb = length-scale (pos b) v in
    (λ i. plus (sym (plus-scales (pos a) (pos b) v) i) (combination-adds k ns ms vs (rest_of_length k v vs have) (omega arith) i))
    ∙ exchange (scale (pos a) v) (scale (pos b) v) A B (sa ∙ sym sb) (la ∙ sym lb) (sa ∙ first_of_length k v vs have ∙ sym la)

-- ---- cones
pub cone_plus : (k : ℕ) (vs : List Vector) (x y : Vector) → OfLength k vs → InCone k vs x → InCone k vs y → InCone k vs (plus x y)
cone_plus k vs x y have p q =
    let ns = times q.multiple p.weights in let ms = times p.multiple q.weights in
    let lengths : length ns ≡ length ms = length-times q.multiple p.weights ∙ p.one_each ∙ sym (length-times p.multiple q.weights ∙ q.one_each) in
    let m = p.multiple * q.multiple in
    let left : scale (pos m) x ≡ combination k (map pos ns) vs =
    let e : pos m ≡ pos q.multiple *ℤ pos p.multiple = ap pos (omega arith) in
    ap (λ (z : ℤ). scale z x) e ∙ sym (scale-scale (pos q.multiple) (pos p.multiple) x) ∙ ap (scale (pos q.multiple)) p.sum ∙ sym (combination-times k q.multiple p.weights vs) in
    let right : scale (pos m) y ≡ combination k (map pos ms) vs =
    sym (scale-scale (pos p.multiple) (pos q.multiple) y) ∙ ap (scale (pos p.multiple)) q.sum ∙ sym (combination-times k p.multiple q.weights vs) in
    record {
      multiple = m;
      positive = omega (arith, mul-le-mul p.positive q.positive);
      weights = adds ns ms;
      one_each = length-adds ns ms lengths ∙ length-times q.multiple p.weights ∙ p.one_each;
      sum = scale-plus (pos m) x y ∙ (λ i. plus (left i) (right i)) ∙ sym (combination-adds k ns ms vs have lengths);
      entries = length-plus x y (p.entries ∙ sym q.entries) ∙ p.entries;
    }

pub cone_scale : (k n : ℕ) (vs : List Vector) (x : Vector) → InCone k vs x → InCone k vs (scale (pos n) x)
cone_scale k n vs x p = record {
  multiple = p.multiple;
  positive = p.positive;
  weights = times n p.weights;
  one_each = length-times n p.weights ∙ p.one_each;
  sum = (let e : pos p.multiple *ℤ pos n ≡ pos n *ℤ pos p.multiple = ap pos (omega arith) in
      scale-scale (pos p.multiple) (pos n) x ∙ ap (λ (z : ℤ). scale z x) e ∙ sym (scale-scale (pos n) (pos p.multiple) x) ∙ ap (scale (pos n)) p.sum ∙ sym (combination-times k n p.weights vs));
  entries = length-scale (pos n) x ∙ p.entries;
}

-- a vector lies in a cone where a positive multiple does
pub cone_divide : (k m : ℕ) (vs : List Vector) (x : Vector) → 0 < m → InCone k vs (scale (pos m) x) → InCone k vs x
cone_divide k m vs x some p = record {
  multiple = p.multiple * m;
  positive = omega (arith, mul-le-mul p.positive some);
  weights = p.weights;
  one_each = p.one_each;
  sum = sym (scale-scale (pos p.multiple) (pos m) x) ∙ p.sum;
  entries = sym (length-scale (pos m) x) ∙ p.entries;
}

abbrev zeros : List Vector → List ℕ
zeros [] = []
zeros (v ∷ vs) = 0 ∷ zeros vs

length-zeros : (vs : List Vector) → length (zeros vs) ≡ length vs
length-zeros [] = refl
length-zeros (v ∷ vs) = ap suc (length-zeros vs)

combination-zeros : (k : ℕ) (vs : List Vector) → OfLength k vs → combination k (map pos (zeros vs)) vs ≡ zero_vector k
combination-zeros k [] have = refl
combination-zeros k (v ∷ vs) have = (λ i. plus (scale_none v k (first_of_length k v vs have) i) (combination-zeros k vs (rest_of_length k v vs have) i)) ∙ plus-zero (zero_vector k) k (length-zero k)

pub cone_zero : (k : ℕ) (vs : List Vector) → OfLength k vs → InCone k vs (zero_vector k)
cone_zero k vs have = record { multiple = 1; positive = omega arith; weights = zeros vs; one_each = length-zeros vs; sum = scale-one (zero_vector k) ∙ sym (combination-zeros k vs have); entries = length-zero k }

pub cone_first : (k : ℕ) (v : Vector) (vs : List Vector) → OfLength k (v ∷ vs) → InCone k (v ∷ vs) v
cone_first k v vs have = record {
  multiple = 1;
  positive = omega arith;
  weights = 1 ∷ zeros vs;
  one_each = ap suc (length-zeros vs);
  sum = sym (plus-zero (scale (pos 1) v) k (length-scale (pos 1) v ∙ first_of_length k v vs have)) ∙ ap (plus (scale (pos 1) v)) (sym (combination-zeros k vs (rest_of_length k v vs have)));
  entries = first_of_length k v vs have;
}

pub cone_later : (k : ℕ) (v : Vector) (vs : List Vector) (x : Vector) → OfLength k (v ∷ vs) → InCone k vs x → InCone k (v ∷ vs) x
cone_later k v vs x have p = record {
  multiple = p.multiple;
  positive = p.positive;
  weights = 0 ∷ p.weights;
  one_each = ap suc p.one_each;
  sum = p.sum ∙ sym (zero-plus (combination k (map pos p.weights) vs) k (length-combination k (map pos p.weights) vs (rest_of_length k v vs have))) ∙ ap (λ (u : Vector). plus u (combination k (map pos p.weights) vs)) (sym (scale_none v k (first_of_length k v vs have)));
  entries = p.entries;
}
