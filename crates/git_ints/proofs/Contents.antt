-- Divisors of all entries, one entry more; an entry over a divisor.
use Rattle.std.proofs.Common.{◌≡◌, ◌⊎◌, ℕ, zero, suc, ◌+◌, ◌*◌, ◌<◌, ◌≤◌, ◌^◌, List, [], ◌∷◌, length, refl, inl, inr, take, get_or, sym, ◌∙◌, ap, subst, arith, SFits, to_z, of_z, lit<, length-take}
use Rattle.std.proofs.lemmas.List.Elements.{All-take, All-more, All-nil, All-cons}
use Rattle.std.proofs.lemmas.List.{get_or-take}
use Rattle.std.proofs.Math.IntN.{ℤ, pos, negsuc, ◌*ℤ◌, pos-*ℤ-pos}
use Rattle.std.specs.Prelude.{All, ◌<ℤ◌, replicate}
use Rattle.std.specs.Int.{◌∣◌, IsGcd, w128}
use Rattle.std.specs.Int.RustNames.{unsigned_abs, int_div}
use Rattle.std.proofs.lemmas.Nat.Gcd.{dvd_trans, dvd-zero, le_of_dvd}
use Rattle.std.proofs.Math.Nat.{one-dvd, eq-zero_of_zero-dvd, eq-one_of_dvd-one, dvd-mul_right, dvd_of_mul-dvd-mul_left}
use Rattle.std.proofs.lemmas.Int.{ints, quot_is, quot_fits, to_z_pos, fits_signed_from_abs, unsigned_abs-mul}
use Rattle.git_lemmas.proofs.Integers.{zero_of_size}
use Rattle.git_defs.specs.Vectors.{Vector, scale, IsPrimitive}
use Rattle.git_defs.proofs.Sums.{scale-scale, scale-one}
use Rattle.git_ints.specs.Padded.{AreWithin}
use Rattle.git_ints.specs.Content.{IsContent, IsPrimitivePart}
use Rattle.git_lemmas.proofs.Divisions.{divided}

pub content_more : (v : List ℤ) (i g h : ℕ) → i < length v → IsContent (take i v) g → IsGcd g (unsigned_abs (get_or v i (pos 0))) h → IsContent (take (i + 1) v) h
content_more v i g h fits before both =
    let size : length (take (i + 1) v) ≡ i + 1 = omega (arith, length-take (i + 1) v) in
    let short : length (take i v) ≡ i = omega (arith, length-take i v) in
    let kept : All (λ z. h ∣ unsigned_abs z) (take i v) = λ k d lt. dvd_trans h both.0 (before.divides k d lt) in
    record {
      divides = All-more (λ z. h ∣ unsigned_abs z) v i (pos 0) fits kept both.1;
      greatest = λ d each. both.2 d
          (before.greatest d (λ k z lt. subst (λ (x : ℤ). d ∣ unsigned_abs x) (get_or-take (i + 1) v k z (omega arith) ∙ sym (get_or-take i v k z (omega arith))) (each k z (omega arith))))
          (subst (λ (x : ℤ). d ∣ unsigned_abs x) (get_or-take (i + 1) v i (pos 0) (omega arith)) (each i (pos 0) (omega arith)));
    }

-- what the machine's quotient gives
pub machine_quotient : (a : ℤ) (n : ℕ) → SFits w128 a → 0 < n → n ≤ 2 ^ 126 → n ∣ unsigned_abs a
    → a ≡ pos n *ℤ to_z w128 (of_z w128 (int_div (to_z w128 (of_z w128 a)) (to_z w128 n)))
machine_quotient a n fits some small divides =
    let big : 2 ^ 126 < 2 ^ 127 = lit< tt in
    let n_small : n < 2 ^ 127 = omega (arith, small, big) in
    let n_fits : SFits w128 (pos n) = fits_signed_from_abs w128 (pos n) n_small in
    let n_is : to_z w128 n ≡ pos n = to_z_pos w128 n n_small in
    let some_z : pos 0 <ℤ pos n = omega (arith, ints) in
    divided a n divides ∙ ap (λ (z : ℤ). pos n *ℤ z) (sym (quot_is w128 a (pos n) fits n_fits (quot_fits w128 a (pos n) fits some_z)))

-- ---- a content that is 0, and the size of one that isn't
all_zero : (v : List ℤ) → All (λ z. 0 ∣ unsigned_abs z) v → v ≡ replicate (length v) (pos 0)
all_zero [] h = refl
all_zero (z ∷ v) h = λ i. zero_of_size z (eq-zero_of_zero-dvd (h 0 (pos 0) (omega arith))) i ∷ all_zero v (λ k d lt. h (suc k) d (omega arith)) i

pub zero_content : (v : List ℤ) (g : ℕ) → IsContent v g → g ≡ 0 → v ≡ replicate (length v) (pos 0)
zero_content v g c e = all_zero v (subst (λ (n : ℕ). All (λ z. n ∣ unsigned_abs z) v) e c.divides)

-- some entry isn't 0, or 0 divides all
abbrev SomeEntry : List ℤ → Type 0
SomeEntry v = (k : ℕ) × (k < length v) × (0 < unsigned_abs (get_or v k (pos 0)))

some_or_none : (v : List ℤ) → SomeEntry v ⊎ All (λ z. 0 ∣ unsigned_abs z) v
some_or_none [] = inr (All-nil (λ z. 0 ∣ unsigned_abs z))
some_or_none (pos zero ∷ v) = elim (some_or_none v) [
  | inl s ↦ inl (suc s.0, (let h = s.1 in omega arith), s.2)
  | inr n ↦ inr (All-cons (λ z. 0 ∣ unsigned_abs z) (pos zero) v (dvd-zero 0) n)
]
some_or_none (pos (suc n) ∷ v) = inl (0, omega arith, omega arith)
some_or_none (negsuc n ∷ v) = inl (0, omega arith, omega arith)

pub content_small : (v : List ℤ) (g m : ℕ) → IsContent v g → 0 < g → AreWithin m v → g ≤ m
content_small v g m c some within = elim (some_or_none v) [
  | inl s ↦ (let low = le_of_dvd s.2 (c.divides s.0 (pos 0) s.1) in let high = within s.0 (pos 0) s.1 in omega (arith, low, high))
  | inr n ↦ absurd (let e = eq-zero_of_zero-dvd (c.greatest 0 n) in omega (arith, e, some))
]

-- ---- a vector over its content is primitive
multiples_divide : (n : ℕ) (w : Vector) → All (λ z. n ∣ unsigned_abs z) (scale (pos n) w)
multiples_divide n [] = All-nil (λ z. n ∣ unsigned_abs z)
multiples_divide n (x ∷ w) = All-cons (λ z. n ∣ unsigned_abs z) (pos n *ℤ x) (scale (pos n) w) (subst (λ (m : ℕ). n ∣ m) (sym (unsigned_abs-mul (pos n) x)) (dvd-mul_right n (unsigned_abs x))) (multiples_divide n w)

pub quotient_primitive : (v w : Vector) (g : ℕ) → IsContent v g → 0 < g → v ≡ scale (pos g) w → IsPrimitive w
quotient_primitive v w g c some e d u f =
    let whole : v ≡ scale (pos (g * d)) u = e ∙ ap (scale (pos g)) f ∙ scale-scale (pos g) (pos d) u ∙ ap (λ (z : ℤ). scale z u) (pos-*ℤ-pos g d) in
    let divides : g * d ∣ g = c.greatest (g * d) (subst (All (λ z. g * d ∣ unsigned_abs z)) (sym whole) (multiples_divide (g * d) u)) in
    let back : g * d ∣ g * 1 = subst (λ (n : ℕ). g * d ∣ n) (omega arith) divides in
    eq-one_of_dvd-one (dvd_of_mul-dvd-mul_left d some back)

-- the primitive vector on the ray of v, from its content
pub primitive_part : (v w : Vector) (g : ℕ) → IsContent v g → 0 < g → v ≡ scale (pos g) w → IsPrimitivePart v w
primitive_part v w g c some e = record { divisor = g; positive = some; is = e; primitive = λ nonzero. quotient_primitive v w g c some e }

pub primitive_zero : (v : Vector) (g : ℕ) → IsContent v g → g ≡ 0 → IsPrimitivePart v v
primitive_zero v g c e = record { divisor = 1; positive = omega arith; is = sym (scale-one v); primitive = λ nonzero. absurd (nonzero (zero_content v g c e)) }

pub primitive_one : (v : Vector) (g : ℕ) → IsContent v g → g ≡ 1 → IsPrimitivePart v v
primitive_one v g c e = primitive_part v v g c (omega (arith, e)) (sym (scale-one v) ∙ ap (λ (n : ℕ). scale (pos n) v) (sym e))

-- a front with content 1
pub content_one : (v : List ℤ) (i g : ℕ) → IsContent (take i v) g → g ≡ 1 → IsContent v 1
content_one v i g c e = record {
  divides = λ k d h. one-dvd (unsigned_abs (get_or v k d));
  greatest = λ d each. subst (λ (n : ℕ). d ∣ n) e (c.greatest d (All-take (λ z. d ∣ unsigned_abs z) i v each));
}
