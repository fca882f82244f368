-- Identities of sums of multiples of vectors. A sum is as long as its shortest part, so most have no premise on lengths.
use Rattle.std.proofs.Common.{◌≡◌, ◌∙◌, ◌∷◌, [], List, ap, arith, length, map, refl, sym, ℕ}
use Rattle.std.proofs.Math.IntN.{◌+ℤ◌, ◌*ℤ◌, *ℤ-zero, neg_ℤ, negsuc, pos, ℤ}
use Rattle.std.proofs.lemmas.Int.{ints}
use Rattle.git_lemmas.proofs.Integers.{diff, diff_add, diff_mul, diff_neg, diff_same, mul_comm}
use Rattle.git_defs.proofs.Linear.{dot-scale}
use Rattle.git_defs.proofs.Sums.{scale-one, scale-scale}
use Rattle.git_defs.specs.Vectors.{Vector, combination, dot, plus, scale, zero_vector}

pub plus-assoc : (u v t : Vector) → plus u (plus v t) ≡ plus (plus u v) t
plus-assoc (x ∷ u) (y ∷ v) (z ∷ t) =
    let h : x +ℤ (y +ℤ z) ≡ (x +ℤ y) +ℤ z = diff_same (diff_add (diff x) (diff_add (diff y) (diff z))) (diff_add (diff_add (diff x) (diff y))
    (diff z)) (omega arith) in
    λ i. h i ∷ plus-assoc u v t i
plus-assoc [] [] [] = refl
plus-assoc [] [] (z ∷ t) = refl
plus-assoc [] (y ∷ v) [] = refl
plus-assoc [] (y ∷ v) (z ∷ t) = refl
plus-assoc (x ∷ u) [] [] = refl
plus-assoc (x ∷ u) [] (z ∷ t) = refl
plus-assoc (x ∷ u) (y ∷ v) [] = refl

pub plus-comm : (u v : Vector) → plus u v ≡ plus v u
plus-comm (x ∷ u) (y ∷ v) =
    let h : x +ℤ y ≡ y +ℤ x = diff_same (diff_add (diff x) (diff y)) (diff_add (diff y) (diff x)) (omega arith) in
    λ i. h i ∷ plus-comm u v i
plus-comm [] [] = refl
plus-comm [] (y ∷ v) = refl
plus-comm (x ∷ u) [] = refl

pub blend_left : (c d e : ℤ) (p q s : Vector) → plus (scale (c +ℤ d) s) (scale e (plus p q)) ≡ plus (plus (scale c s) (scale e p)) (plus (scale d s)
    (scale e q))
blend_left c d e (x ∷ p) (y ∷ q) (z ∷ s) =
    let h : ((c +ℤ d) *ℤ z) +ℤ (e *ℤ (x +ℤ y)) ≡ ((c *ℤ z) +ℤ (e *ℤ x)) +ℤ ((d *ℤ z) +ℤ (e *ℤ y)) =
    diff_same (diff_add (diff_mul (diff_add (diff c) (diff d)) (diff z)) (diff_mul (diff e) (diff_add (diff x) (diff y))))
    (diff_add (diff_add (diff_mul (diff c) (diff z)) (diff_mul (diff e) (diff x)))
    (diff_add (diff_mul (diff d) (diff z)) (diff_mul (diff e) (diff y)))) (omega arith) in
    λ i. h i ∷ blend_left c d e p q s i
blend_left c d e [] [] [] = refl
blend_left c d e [] [] (z ∷ s) = refl
blend_left c d e [] (y ∷ q) [] = refl
blend_left c d e [] (y ∷ q) (z ∷ s) = refl
blend_left c d e (x ∷ p) [] [] = refl
blend_left c d e (x ∷ p) [] (z ∷ s) = refl
blend_left c d e (x ∷ p) (y ∷ q) [] = refl

pub blend_right : (c e f : ℤ) (p s t : Vector) → plus (scale c (plus s t)) (scale (neg_ℤ (e +ℤ f)) p) ≡ plus (plus (scale c s) (scale (neg_ℤ e) p))
    (plus (scale c t) (scale (neg_ℤ f) p))
blend_right c e f (x ∷ p) (y ∷ s) (z ∷ t) =
    let h : (c *ℤ (y +ℤ z)) +ℤ ((neg_ℤ (e +ℤ f)) *ℤ x) ≡ ((c *ℤ y) +ℤ ((neg_ℤ e) *ℤ x)) +ℤ ((c *ℤ z) +ℤ ((neg_ℤ f) *ℤ x)) =
    diff_same (diff_add (diff_mul (diff c) (diff_add (diff y) (diff z))) (diff_mul (diff_neg (diff_add (diff e) (diff f))) (diff x)))
    (diff_add (diff_add (diff_mul (diff c) (diff y)) (diff_mul (diff_neg (diff e)) (diff x)))
    (diff_add (diff_mul (diff c) (diff z)) (diff_mul (diff_neg (diff f)) (diff x)))) (omega arith) in
    λ i. h i ∷ blend_right c e f p s t i
blend_right c e f [] [] [] = refl
blend_right c e f [] [] (z ∷ t) = refl
blend_right c e f [] (y ∷ s) [] = refl
blend_right c e f [] (y ∷ s) (z ∷ t) = refl
blend_right c e f (x ∷ p) [] [] = refl
blend_right c e f (x ∷ p) [] (z ∷ t) = refl
blend_right c e f (x ∷ p) (y ∷ s) [] = refl

pub blend_scaled : (w c e : ℤ) (p s : Vector) → plus (scale (w *ℤ c) s) (scale e (scale w p)) ≡ scale w (plus (scale c s) (scale e p))
blend_scaled w c e (x ∷ p) (y ∷ s) =
    let h : ((w *ℤ c) *ℤ y) +ℤ (e *ℤ (w *ℤ x)) ≡ w *ℤ ((c *ℤ y) +ℤ (e *ℤ x)) =
    diff_same (diff_add (diff_mul (diff_mul (diff w) (diff c)) (diff y)) (diff_mul (diff e) (diff_mul (diff w) (diff x))))
    (diff_mul (diff w) (diff_add (diff_mul (diff c) (diff y)) (diff_mul (diff e) (diff x)))) (omega arith) in
    λ i. h i ∷ blend_scaled w c e p s i
blend_scaled w c e [] [] = refl
blend_scaled w c e [] (y ∷ s) = refl
blend_scaled w c e (x ∷ p) [] = refl

pub blend_scaled_right : (w c e : ℤ) (p s : Vector) → plus (scale c (scale w s)) (scale (neg_ℤ (w *ℤ e)) p) ≡ scale w (plus (scale c s)
    (scale (neg_ℤ e) p))
blend_scaled_right w c e (x ∷ p) (y ∷ s) =
    let h : (c *ℤ (w *ℤ y)) +ℤ ((neg_ℤ (w *ℤ e)) *ℤ x) ≡ w *ℤ ((c *ℤ y) +ℤ ((neg_ℤ e) *ℤ x)) =
    diff_same (diff_add (diff_mul (diff c) (diff_mul (diff w) (diff y))) (diff_mul (diff_neg (diff_mul (diff w) (diff e))) (diff x)))
    (diff_mul (diff w) (diff_add (diff_mul (diff c) (diff y)) (diff_mul (diff_neg (diff e)) (diff x)))) (omega arith) in
    λ i. h i ∷ blend_scaled_right w c e p s i
blend_scaled_right w c e [] [] = refl
blend_scaled_right w c e [] (y ∷ s) = refl
blend_scaled_right w c e (x ∷ p) [] = refl

pub mix : (B N : ℤ) (p n : Vector) → scale B (plus p n) ≡ plus (plus (scale B n) (scale (neg_ℤ N) p)) (scale (B +ℤ N) p)
mix B N (x ∷ p) (y ∷ n) =
    let h : B *ℤ (x +ℤ y) ≡ ((B *ℤ y) +ℤ ((neg_ℤ N) *ℤ x)) +ℤ ((B +ℤ N) *ℤ x) =
    diff_same (diff_mul (diff B) (diff_add (diff x) (diff y)))
    (diff_add (diff_add (diff_mul (diff B) (diff y)) (diff_mul (diff_neg (diff N)) (diff x))) (diff_mul (diff_add (diff B) (diff N)) (diff x)))
    (omega arith) in
    λ i. h i ∷ mix B N p n i
mix B N [] [] = refl
mix B N [] (y ∷ n) = refl
mix B N (x ∷ p) [] = refl

pub rays_meet : (c d e f : ℤ) (r s : Vector) → scale c (plus (scale e r) (scale f s)) ≡ plus (scale f (plus (scale c s) (scale (neg_ℤ d) r))) (scale
    ((e *ℤ c) +ℤ (f *ℤ d)) r)
rays_meet c d e f (x ∷ r) (y ∷ s) =
    let h : c *ℤ ((e *ℤ x) +ℤ (f *ℤ y)) ≡ (f *ℤ ((c *ℤ y) +ℤ ((neg_ℤ d) *ℤ x))) +ℤ (((e *ℤ c) +ℤ (f *ℤ d)) *ℤ x) =
    diff_same (diff_mul (diff c) (diff_add (diff_mul (diff e) (diff x)) (diff_mul (diff f) (diff y))))
    (diff_add (diff_mul (diff f) (diff_add (diff_mul (diff c) (diff y)) (diff_mul (diff_neg (diff d)) (diff x))))
    (diff_mul (diff_add (diff_mul (diff e) (diff c)) (diff_mul (diff f) (diff d))) (diff x))) (omega arith) in
    λ i. h i ∷ rays_meet c d e f r s i
rays_meet c d e f [] [] = refl
rays_meet c d e f [] (y ∷ s) = refl
rays_meet c d e f (x ∷ r) [] = refl

pub expand : (m c d : ℤ) (t s : Vector) → scale m (plus (scale c s) (scale (neg_ℤ d) t)) ≡ plus (scale (m *ℤ (neg_ℤ d)) t) (scale (m *ℤ c) s)
expand m c d (x ∷ t) (y ∷ s) =
    let h : m *ℤ ((c *ℤ y) +ℤ ((neg_ℤ d) *ℤ x)) ≡ ((m *ℤ (neg_ℤ d)) *ℤ x) +ℤ ((m *ℤ c) *ℤ y) =
    diff_same (diff_mul (diff m) (diff_add (diff_mul (diff c) (diff y)) (diff_mul (diff_neg (diff d)) (diff x))))
    (diff_add (diff_mul (diff_mul (diff m) (diff_neg (diff d))) (diff x)) (diff_mul (diff_mul (diff m) (diff c)) (diff y))) (omega arith) in
    λ i. h i ∷ expand m c d t s i
expand m c d [] [] = refl
expand m c d [] (y ∷ s) = refl
expand m c d (x ∷ t) [] = refl

pub scale-comm : (c d : ℤ) (v : Vector) → scale c (scale d v) ≡ scale d (scale c v)
scale-comm c d v = scale-scale c d v ∙ ap (λ (z : ℤ). scale z v) (mul_comm c d) ∙ sym (scale-scale d c v)

pub negative_twice : (v : Vector) → scale (negsuc 0) (scale (negsuc 0) v) ≡ v
negative_twice v = scale-scale (negsuc 0) (negsuc 0) v ∙ scale-one v

pub project_back : (c d : ℤ) (x g : Vector) → length x ≡ length g → plus (plus (scale c x) (scale d g)) (scale (neg_ℤ d) g) ≡ scale c x
project_back c d [] [] e = refl
project_back c d [] (y ∷ g) e = absurd (omega arith)
project_back c d (x ∷ u) [] e = absurd (omega arith)
project_back c d (x ∷ u) (y ∷ g) e =
    let h : (c *ℤ x +ℤ d *ℤ y) +ℤ neg_ℤ d *ℤ y ≡ c *ℤ x = diff_same (diff_add (diff_add (diff_mul (diff c) (diff x)) (diff_mul (diff d) (diff y)))
    (diff_mul (diff_neg (diff d)) (diff y))) (diff_mul (diff c) (diff x)) (omega arith) in
    λ i. h i ∷ project_back c d u g (omega arith) i

pub head_same : (x y : ℤ) (u v : Vector) → x ∷ u ≡ y ∷ v → x ≡ y
head_same x y u v e = cc e

pub tail_same : (x y : ℤ) (u v : Vector) → x ∷ u ≡ y ∷ v → u ≡ v
tail_same x y u v e = cc e

pub trade : (x y w : Vector) (p q d : ℤ) → length x ≡ length w → length y ≡ length w → q +ℤ d ≡ p → plus x (scale p w) ≡ plus y (scale q w)
    → plus x (scale d w) ≡ y
trade [] [] [] p q d f g h e = refl
trade [] y (z ∷ w) p q d f g h e = absurd (omega arith)
trade (a ∷ x) y [] p q d f g h e = absurd (omega arith)
trade x [] (z ∷ w) p q d f g h e = absurd (omega arith)
trade x (c ∷ y) [] p q d f g h e = absurd (omega arith)
trade (a ∷ x) (c ∷ y) (z ∷ w) p q d f g h e =
    let i1 = head_same _ _ _ _ e in
    let i2 : q *ℤ z +ℤ d *ℤ z ≡ p *ℤ z = diff_same (diff_add (diff_mul (diff q) (diff z)) (diff_mul (diff d) (diff z))) (diff_mul
    (diff_add (diff q) (diff d)) (diff z)) (omega arith) ∙ ap (λ (n : ℤ). n *ℤ z) h in
    let here : a +ℤ d *ℤ z ≡ c = omega (arith, ints, i1, i2) in
    λ i. here i ∷ trade x y w p q d (omega arith) (omega arith) h (tail_same _ _ _ _ e) i

pub plus_rest : (n : ℕ) (s r : Vector) → length s ≡ length r → plus s (plus (scale (pos n) r) (scale (negsuc 0) s)) ≡ scale (pos n) r
plus_rest n [] [] e = refl
plus_rest n [] (y ∷ r) e = absurd (omega arith)
plus_rest n (x ∷ s) [] e = absurd (omega arith)
plus_rest n (x ∷ s) (y ∷ r) e =
    let h : x +ℤ (pos n *ℤ y +ℤ negsuc 0 *ℤ x) ≡ pos n *ℤ y =
    diff_same (diff_add (diff x) (diff_add (diff_mul (diff (pos n)) (diff y)) (diff_mul (diff (negsuc 0)) (diff x))))
    (diff_mul (diff (pos n)) (diff y)) (omega arith) in
    λ i. h i ∷ plus_rest n s r (omega arith) i

-- ---- products that are 0
pub product_zero : (c z : ℤ) → z ≡ pos 0 → c *ℤ z ≡ pos 0
product_zero c z e = ap (λ (y : ℤ). c *ℤ y) e ∙ *ℤ-zero c

pub dot-scale_zero : (n : Vector) (c : ℤ) (v : Vector) → dot n v ≡ pos 0 → dot n (scale c v) ≡ pos 0
dot-scale_zero n c v e = dot-scale n c v ∙ product_zero c (dot n v) e

-- a sum of no vectors
pub no_weights : (k : ℕ) (ws : List ℕ) → combination k (map pos ws) [] ≡ zero_vector k
no_weights k [] = refl
no_weights k (w ∷ ws) = refl
