-- Monomials, each as its list of seventeen exponents: of T(1) to T(16) at places 0 to 15, and of the extra variable y at place 16.
use Rattle.std.specs.Prelude.{ℕ, ◌+◌, ◌-◌, ◌*◌, ◌≡◌, ◌==◌, max, List, length, map, sum, slice_index, if◌then◌else◌, Bool, ◌||◌, ◌/◌, ◌%◌, ◌^◌}
use Rattle.std.specs.List.{range_with_len, list_all}
use Rattle.std.proofs.lemmas.List.FromFn.{length-map-range_with_len}
use Rattle.std.specs.Coded.{Coded, coded_list, coded_ℕ}
use mathlib.Core.HLevel.{Σ_prop_path}
use native.Mathlib.Nat.{ℕ_set}
use base.Stored.{coded_via}
use Rattle.git_bits.specs.Bits.{has_bit}

pub record Exponents : Type 0 where
  pub list : List ℕ
  pub long : length list ≡ 17

-- monomials with one list are one
pub same_list : (a b : Exponents) → a.list ≡ b.list → a ≡ b
same_list a b e =
    let pairs : ◌≡◌ {A = (xs : List ℕ) × (length xs ≡ 17)} (a.list, a.long) (b.list, b.long) = Σ_prop_path (λ xs. ℕ_set _ _) e in
    λ i. record { list = (pairs i).0; long = (pairs i).1 }

abbrev pub exponents_code : Coded Exponents
exponents_code = coded_via (coded_list coded_ℕ) (λ a. a.list) same_list

-- the exponent of the variable at a place
abbrev pub exponent : Exponents → ℕ → ℕ
exponent a i = slice_index a.list i

-- the monomial whose exponent at each place is that of a function
unfoldable pub exponents_by : (ℕ → ℕ) → Exponents
exponents_by f = record { list = map f (range_with_len 0 17); long = length-map-range_with_len f 0 17 }

-- the monomial of a list of seventeen exponents
unfoldable pub exponents_of : List ℕ → Exponents
exponents_of xs = exponents_by (λ i. slice_index xs i)

-- the monomial 1
unfoldable pub one : Exponents
one = exponents_by (λ _. 0)

-- the power e of the variable at place i
unfoldable pub variable_power : ℕ → ℕ → Exponents
variable_power i e = exponents_by (λ k. if i == k then e else 0)

-- the product
unfoldable pub times : Exponents → Exponents → Exponents
times a b = exponents_by (λ i. exponent a i + exponent b i)

-- the power n of a monomial
unfoldable pub power : Exponents → ℕ → Exponents
power a n = exponents_by (λ i. n * exponent a i)

-- b divided by a, where a divides it
unfoldable pub quotient : Exponents → Exponents → Exponents
quotient b a = exponents_by (λ i. exponent b i - exponent a i)

-- the least common multiple
unfoldable pub lcm : Exponents → Exponents → Exponents
lcm a b = exponents_by (λ i. max (exponent a i) (exponent b i))

-- the total degree
unfoldable pub degree : Exponents → ℕ
degree a = sum a.list

-- a divides b: b is the product of a and a cofactor
pub record Divides (a b : Exponents) : Type 0 where
  pub cofactor : Exponents
  pub product : times a cofactor ≡ b

-- whether each variable of the monomial is in a face, a set of variables whose mask has bit i for place i
unfoldable pub in_face : ℕ → Exponents → Bool
in_face mask a = list_all (λ i. exponent a i == 0 || has_bit mask i) (range_with_len 0 17)
