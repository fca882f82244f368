-- Contents of vectors, and primitive vectors: each vector but 0 is a multiple of one, and there is one on a ray.
use Rattle.std.proofs.Common.{◌≡◌, ◌+◌, ◌<◌, ◌≤◌, ◌∙◌, ◌⊎◌, ◌∷◌, ◌*◌, ◌/◌, ◌%◌, [], ap, arith, inl, inr, length, map, refl, subst, suc, sym, zero, ℕ}
use Rattle.std.proofs.Math.IntN.{◌*ℤ◌, pos, pos-*ℤ-pos, ℤ}
use Rattle.std.proofs.Math.Nat.{div-add-mod, dvd-mul_right, eq_of_mul-eq-mul_left, mod-lt, mod-zero}
use Rattle.std.proofs.lemmas.Int.{ints, unsigned_abs-mul}
use Rattle.std.proofs.lemmas.Nat.Gcd.{IsGcd-from_mod, IsGcd-from_zero, dvd-zero, dvd_trans, le_of_dvd, mod-eq-zero_of_dvd}
use Rattle.std.specs.Int.{◌∣◌, IsGcd}
use Rattle.std.specs.Int.RustNames.{int_div, unsigned_abs}
use borrow.Author.Differences.{down, product_is, up}
use Rattle.git_lemmas.specs.Members.{Member}
use Rattle.git_defs.proofs.Sums.{scale-scale, scale-zero, scale_none}
use Rattle.git_defs.specs.Vectors.{IsPrimitive, Vector, scale, zero_vector}
use Rattle.git_geometry.proofs.Identities.{head_same, tail_same}
use Rattle.git_geometry.specs.Generators.{PrimitivePart}
use Rattle.git_lemmas.proofs.Divisions.{divided}

-- ---- a positive factor may be left out
no_cons : {X : Type 0} (x : ℤ) (u : Vector) → [] ≡ x ∷ u → X
no_cons x u e = absurd (cc e)

-- a positive factor may be left out
cancel_one : (d : ℕ) (x y : ℤ) → pos (suc d) *ℤ x ≡ pos (suc d) *ℤ y → x ≡ y
cancel_one d x y e =
    let p = product_is (pos (suc d)) x in let q = product_is (pos (suc d)) y in
    let ups : suc d * up x ≡ suc d * up y = omega (arith, p, q, ap up e) in
    let downs : suc d * down x ≡ suc d * down y = omega (arith, p, q, ap down e) in
    let us = eq_of_mul-eq-mul_left (suc d) (omega arith) (up x) (up y) ups in
    let ds = eq_of_mul-eq-mul_left (suc d) (omega arith) (down x) (down y) downs in
    omega (arith, ints, us, ds)

pub cancel : (d : ℕ) (u v : Vector) → scale (pos (suc d)) u ≡ scale (pos (suc d)) v → u ≡ v
cancel d [] [] e = refl
cancel d [] (y ∷ v) e = no_cons (pos (suc d) *ℤ y) (scale (pos (suc d)) v) e
cancel d (x ∷ u) [] e = no_cons (pos (suc d) *ℤ x) (scale (pos (suc d)) u) (sym e)
cancel d (x ∷ u) (y ∷ v) e = λ i. cancel_one d x y (head_same _ _ _ _ e) i ∷ cancel d u v (tail_same _ _ _ _ e) i

pub vanish : (k n : ℕ) (y : Vector) → 0 < n → scale (pos n) y ≡ zero_vector k → y ≡ zero_vector k
vanish k zero y p e = absurd (omega arith)
vanish k (suc n) y p e = cancel n y (zero_vector k) (e ∙ sym (scale-zero (pos (suc n)) k))

-- ---- the greatest common divisor of the entries
record Gcd (a b : ℕ) : Type 0 where
  value : ℕ
  is : IsGcd a b value

gcd_by : (fuel a b : ℕ) → b ≤ fuel → Gcd a b
gcd_by zero a b small = record { value = a; is = IsGcd-from_zero a b (omega arith) }
gcd_by (suc fuel) a zero small = record { value = a; is = IsGcd-from_zero a zero refl }
gcd_by (suc fuel) a (suc b) small =
    let g = gcd_by fuel (suc b) (a % suc b) (omega (arith, mod-lt a {m = suc b} (omega arith))) in
    record { value = g.value; is = IsGcd-from_mod a (suc b) g.value g.is }

record Content (v : Vector) : Type 0 where
  value : ℕ
  divides : (z : ℤ) → Member z v → value ∣ unsigned_abs z
  greatest : (d : ℕ) → ((z : ℤ) → Member z v → d ∣ unsigned_abs z) → d ∣ value

content : (v : Vector) → Content v
content [] = record { value = 0; divides = λ z m. absurd m; greatest = λ d each. dvd-zero d }
content (x ∷ v) =
    let rest = content v in
    let g = gcd_by rest.value (unsigned_abs x) rest.value (omega arith) in
    record {
      value = g.value;
      divides = λ z m. elim m [
        | inl e ↦ subst (λ (y : ℤ). g.value ∣ unsigned_abs y) e g.is.0
        | inr n ↦ dvd_trans g.value g.is.1 (rest.divides z n)
      ];
      greatest = λ d each. g.is.2 d (each x (inl refl)) (rest.greatest d (λ z m. each z (inr m)));
    }

divided_each : (n : ℕ) (v : Vector) → ((z : ℤ) → Member z v → n ∣ unsigned_abs z) → v ≡ scale (pos n) (map (λ (z : ℤ). int_div z (pos n)) v)
divided_each n [] each = refl
divided_each n (x ∷ v) each = λ i. divided x n (each x (inl refl)) i ∷ divided_each n v (λ z m. each z (inr m)) i

pub scale_divides : (n : ℕ) (u : Vector) (z : ℤ) → Member z (scale (pos n) u) → n ∣ unsigned_abs z
scale_divides n [] z m = absurd m
scale_divides n (x ∷ u) z (inl e) = subst (λ (y : ℤ). n ∣ unsigned_abs y) e (subst (λ (k : ℕ). n ∣ k) (sym (unsigned_abs-mul (pos n) x))
    (dvd-mul_right n (unsigned_abs x)))
scale_divides n (x ∷ u) z (inr m) = scale_divides n u z m

none_divides : (n : ℕ) → 0 ∣ n → n ≡ 0
none_divides n h = sym (mod-zero n) ∙ mod-eq-zero_of_dvd 0 h

all_none : (k : ℕ) (v : Vector) → length v ≡ k → ((z : ℤ) → Member z v → 0 ∣ unsigned_abs z) → v ≡ zero_vector k
all_none zero [] e each = refl
all_none (suc k) [] e each = absurd (omega arith)
all_none zero (x ∷ v) e each = absurd (omega arith)
all_none (suc k) (x ∷ v) e each =
    let h : x ≡ pos 0 = (let f = none_divides (unsigned_abs x) (each x (inl refl)) in omega (arith, ints, f)) in
    λ i. h i ∷ all_none k v (omega arith) (λ z m. each z (inr m)) i

pub primitive_part : (k : ℕ) (v : Vector) → length v ≡ k → (v ≡ zero_vector k → ⊥) → PrimitivePart v
primitive_part k v e some = by (content v) where
  none_or_some : (g : ℕ) → (g ≡ 0) ⊎ (0 < g)
  none_or_some zero = inl refl
  none_or_some (suc g) = inr (omega arith)

  by : Content v → PrimitivePart v
  by c = elim (none_or_some c.value) [
    | inl none ↦ absurd (some (all_none k v e (λ z m. subst (λ (g : ℕ). g ∣ unsigned_abs z) none (c.divides z m))))
    | inr more ↦ record {
      times = c.value;
      positive = more;
      vector = map (λ (z : ℤ). int_div z (pos c.value)) v;
      is = divided_each c.value v c.divides;
      primitive = λ d u h.
          let whole : v ≡ scale (pos (c.value * d)) u = divided_each c.value v c.divides ∙ ap (scale (pos c.value)) h
          ∙ scale-scale (pos c.value) (pos d) u ∙ ap (λ (z : ℤ). scale z u) (pos-*ℤ-pos c.value d) in
          once c.value d more (c.greatest (c.value * d) (λ z m. scale_divides (c.value * d) u z (subst (λ (w : Vector). Member z w) whole m)));
    }
  ] where
    once : (g d : ℕ) → 0 < g → g * d ∣ g → d ≡ 1
    once g zero more h = let z : g * 0 ≡ 0 = omega arith in let f = none_divides g (subst (λ (n : ℕ). n ∣ g) z h) in absurd (omega (arith, f, more))
    once g (suc zero) more h = refl
    once g (suc (suc d)) more h = let f = le_of_dvd more h in absurd (omega (arith, f, more, twice g d)) where
      twice : (g d : ℕ) → g + g ≤ g * suc (suc d)
      twice g d = omega arith

-- ---- primitive vectors
-- the vector 0 is not primitive
pub primitive_nonzero : (k : ℕ) (v : Vector) → length v ≡ k → IsPrimitive v → v ≡ zero_vector k → ⊥
primitive_nonzero k v e p z = let f : 0 ≡ 1 = p 0 v (z ∙ sym (scale_none v k e)) in omega (arith, f)

-- a multiple of a primitive vector has the number as its content
content_of_multiple : (n : ℕ) (u x : Vector) → IsPrimitive u → x ≡ scale (pos (suc n)) u → (c : Content x) → c.value ≡ suc n
content_of_multiple n u x primitive e c =
    let q = c.value / suc n in
    let divides = c.greatest (suc n) (λ z m. scale_divides (suc n) u z (subst (λ (w : Vector). Member z w) e m)) in
    let whole : c.value ≡ suc n * q = (let f = div-add-mod c.value (suc n) in let g = mod-eq-zero_of_dvd (suc n) divides in omega (arith, f, g)) in
    let w = map (λ (z : ℤ). int_div z (pos c.value)) x in
    let same : scale (pos (suc n)) u ≡ scale (pos (suc n)) (scale (pos q) w) = sym e ∙ divided_each c.value x c.divides
    ∙ ap (λ (m : ℕ). scale (pos m) w) whole ∙ ap (λ (z : ℤ). scale z w) (sym (pos-*ℤ-pos (suc n) q)) ∙ sym (scale-scale (pos (suc n)) (pos q) w) in
    let one : q ≡ 1 = primitive q w (cancel n u (scale (pos q) w) same) in
    omega (arith, whole, ap (λ (m : ℕ). suc n * m) one)

-- two primitive vectors on one ray are equal
pub primitive_once : (d b : ℕ) (u v : Vector) → IsPrimitive u → IsPrimitive v → scale (pos (suc d)) u ≡ scale (pos (suc b)) v → u ≡ v
primitive_once d b u v p q h =
    let c = content (scale (pos (suc d)) u) in
    let same : suc d ≡ suc b = sym (content_of_multiple d u (scale (pos (suc d)) u) p refl c)
    ∙ content_of_multiple b v (scale (pos (suc d)) u) q h c in
    cancel d u v (h ∙ ap (λ (n : ℕ). scale (pos n) v) (sym same))
