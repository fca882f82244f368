-- What the fields of a monomial say of its exponents.
use Rattle.std.proofs.Common.{zero, suc, ℕ, ◌+◌, ◌-◌, ◌<◌, ◌≤◌, ◌≡◌, List, [], ◌∷◌, length, get_or, max, sym, ap, ◌∙◌, arith, refl, inl, inr, eq-eqb, get_or-set_same, get_or-set_other, replicate, below_more}
use Rattle.std.specs.Prelude.{◌==◌, if◌then◌else◌}
use Rattle.std.proofs.Math.ListN.{set, length-set}
use Rattle.std.proofs.lemmas.Bool.{cases_eq, ne_eqb}
use Rattle.std.proofs.lemmas.List.{get_or-replicate}
use Rattle.std.specs.List.{sum}
use Rattle.std.proofs.lemmas.List.Sums.{sum_by-cons, sum_by-set}
use Rattle.git_algebra.specs.Exponents.{Exponents, exponent, exponents_by, exponents_of, variable_power, times, quotient, lcm, degree, Divides}
use Rattle.git_algebra.proofs.Monomials.{same_exponents, exponent-by, exponent-of, list-of, exponent-times, exponent-quotient, exponent-lcm, divides_at_places, places_of_divides, times-quotient, degree-times, degree-lcm_le}

pub list_is : (xs : List ℕ) (m : Exponents) → exponents_of xs ≡ m → length xs ≡ 17 → m.list ≡ xs
list_is xs m e long = ap (λ (a : Exponents). a.list) (sym e) ∙ list-of xs long

pub exponent_is : (xs : List ℕ) (m : Exponents) → exponents_of xs ≡ m → length xs ≡ 17 → (i : ℕ) → exponent m i ≡ get_or xs i 0
exponent_is xs m e long i = ap (λ (ys : List ℕ). get_or ys i 0) (list_is xs m e long)

pub degree_is : (xs : List ℕ) (m : Exponents) → exponents_of xs ≡ m → length xs ≡ 17 → degree m ≡ sum xs
unfolding degree
degree_is xs m e long = ap sum (list_is xs m e long)

-- the monomial with these exponents
pub monomial_is : (xs : List ℕ) (m : Exponents) → ((i : ℕ) → i < 17 → get_or xs i 0 ≡ exponent m i) → exponents_of xs ≡ m
monomial_is xs m each = same_exponents _ _ (λ i h. exponent-of xs i h ∙ each i h)

-- an exponent is at most the total
pub get_or-le-sum : (xs : List ℕ) (i : ℕ) → get_or xs i 0 ≤ sum xs
get_or-le-sum [] i = omega arith
get_or-le-sum (x ∷ xs) zero = omega (arith, sum_by-cons (λ n. n) x xs)
get_or-le-sum (x ∷ xs) (suc i) = omega (arith, sum_by-cons (λ n. n) x xs, get_or-le-sum xs i)

-- one place more of a list that is filled from a function of the place
pub filled_more : (f : ℕ → ℕ) (xs : List ℕ) (i v : ℕ) → length xs ≡ 17 → i < 17 → ((k : ℕ) → k < i → get_or xs k 0 ≡ f k) → v ≡ f i → (length (set xs i v) ≡ 17) × ((k : ℕ) → k < i + 1 → get_or (set xs i v) k 0 ≡ f k)
filled_more f xs i v long within before here = (
  length-set xs i v ∙ long,
  below_more _ _
      (λ k h. get_or-set_other xs i k v 0 (omega arith) ∙ before k h)
      (get_or-set_same xs i v 0 (omega arith) ∙ here),
)

-- two monomials and the fields that hold them
pub record Held (xs ys : List ℕ) (a b : Exponents) : Type 0 where
  pub first : exponents_of xs ≡ a
  pub second : exponents_of ys ≡ b
  pub first_long : length xs ≡ 17
  pub second_long : length ys ≡ 17

pub exponent_first : {xs ys : List ℕ} {a b : Exponents} → Held xs ys a b → (i : ℕ) → exponent a i ≡ get_or xs i 0
exponent_first {xs} {ys} {a} {b} h i = exponent_is xs a h.first h.first_long i

pub exponent_second : {xs ys : List ℕ} {a b : Exponents} → Held xs ys a b → (i : ℕ) → exponent b i ≡ get_or ys i 0
exponent_second {xs} {ys} {a} {b} h i = exponent_is ys b h.second h.second_long i

pub times_is : {xs ys : List ℕ} {a b : Exponents} → Held xs ys a b → (zs : List ℕ) → ((i : ℕ) → i < 17 → get_or zs i 0 ≡ get_or xs i 0 + get_or ys i 0) → exponents_of zs ≡ times a b
times_is {a = a} {b = b} h zs each = monomial_is zs (times a b) (λ i lt. omega (arith, each i lt, exponent-times a b i, exponent_first h i, exponent_second h i))

pub quotient_is : {xs ys : List ℕ} {a b : Exponents} → Held xs ys a b → (zs : List ℕ) → ((i : ℕ) → i < 17 → get_or zs i 0 ≡ get_or xs i 0 - get_or ys i 0) → exponents_of zs ≡ quotient a b
quotient_is {a = a} {b = b} h zs each = monomial_is zs (quotient a b) (λ i lt. omega (arith, each i lt, exponent-quotient a b i, exponent_first h i, exponent_second h i))

pub lcm_is : {xs ys : List ℕ} {a b : Exponents} → Held xs ys a b → (zs : List ℕ) → ((i : ℕ) → i < 17 → get_or zs i 0 ≡ max (get_or xs i 0) (get_or ys i 0)) → exponents_of zs ≡ lcm a b
lcm_is {a = a} {b = b} h zs each = monomial_is zs (lcm a b) (λ i lt. omega (arith, each i lt, exponent-lcm a b i, exponent_first h i, exponent_second h i))

pub divides_is : {xs ys : List ℕ} {a b : Exponents} → Held xs ys a b → ((i : ℕ) → i < 17 → get_or xs i 0 ≤ get_or ys i 0) → Divides a b
divides_is {a = a} {b = b} h each = record {
  cofactor = quotient b a;
  product = divides_at_places a b (λ i lt. omega (arith, each i lt, exponent_first h i, exponent_second h i));
}

pub places_of : {xs ys : List ℕ} {a b : Exponents} → Held xs ys a b → Divides a b → (i : ℕ) → get_or xs i 0 ≤ get_or ys i 0
places_of {a = a} {b = b} h d i = omega (arith, places_of_divides a b d i, exponent_first h i, exponent_second h i)

-- the total of a least common multiple
pub sum-lcm : {xs ys : List ℕ} {a b : Exponents} → Held xs ys a b → (zs : List ℕ) → length zs ≡ 17 → exponents_of zs ≡ lcm a b → sum zs ≤ sum xs + sum ys
sum-lcm {xs} {ys} {a} {b} h zs long e = omega (arith, degree_is zs (lcm a b) e long, degree-lcm_le a b, degree_is xs a h.first h.first_long, degree_is ys b h.second h.second_long)

-- the total of a quotient
pub sum-quotient : {xs ys : List ℕ} {a b : Exponents} → Held xs ys a b → Divides b a → sum ys + degree (quotient a b) ≡ sum xs
sum-quotient {xs} {ys} {a} {b} h d = omega (arith, degree-times b (quotient a b), ap degree (times-quotient b a d), degree_is xs a h.first h.first_long, degree_is ys b h.second h.second_long)

-- one exponent set among zeros
pub sum-set_zero : (i e : ℕ) → i < 17 → sum (set (replicate 17 0) i e) ≡ e
sum-set_zero i e h = omega (arith, sum_by-set (λ n. n) (replicate 17 0) i e 0 h, get_or-replicate {A = ℕ} 17 i 0 0 h, sum_zeros)
  where
    sum_zeros : sum (replicate 17 0) ≡ 0
    sum_zeros = refl

pub variable_power_is : (i e : ℕ) → i < 17 → exponents_of (set (replicate 17 0) i e) ≡ variable_power i e
unfolding variable_power
variable_power_is i e h = monomial_is (set (replicate 17 0) i e) (exponents_by (λ k. if i == k then e else 0)) (λ k lt. at k lt ∙ sym (exponent-by (λ k. if i == k then e else 0) k lt))
  where
    at : (k : ℕ) → k < 17 → get_or (set (replicate 17 0) i e) k 0 ≡ (if i == k then e else 0)
    at k lt = elim (cases_eq i k) [
      | inl here ↦ ap (λ n. get_or (set (replicate 17 0) i e) n 0) (sym here) ∙ get_or-set_same (replicate 17 0) i e 0 h ∙ (λ j. if sym (eq-eqb i k here) j then e else 0)
      | inr there ↦ get_or-set_other (replicate 17 0) i k e 0 (λ q. there (sym q)) ∙ get_or-replicate {A = ℕ} 17 k 0 0 lt ∙ (λ j. if sym (ne_eqb i k there) j then e else 0)
    ]
