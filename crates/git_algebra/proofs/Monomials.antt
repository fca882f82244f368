-- Laws of monomials, each by places.
use Rattle.std.proofs.Common.{suc, ◌≡◌, ◌≢◌, ℕ, ◌+◌, ◌-◌, ◌*◌, ◌<◌, ◌≤◌, List, [], ◌∷◌, length, get_or, max, refl, sym, ap, ◌∙◌, arith, inl, inr, eq-eqb}
use Rattle.std.specs.Prelude.{◌↔◌, ◌==◌, if◌then◌else◌}
use Rattle.std.specs.List.{range_with_len, sum, sum_by}
use Rattle.std.proofs.lemmas.List.{ext_get_or, get_or_past}
use Rattle.std.proofs.lemmas.List.FromFn.{get_or-map-range_with_len}
use Rattle.std.proofs.lemmas.List.Sums.{sum-map, sum_by-cons, sum_by-le-sum_by}
use Rattle.std.proofs.lemmas.Bool.{cases_lt, ne_eqb}
use Rattle.git_algebra.specs.Exponents.{Exponents, same_list, exponent, exponents_by, exponents_of, one, times, power, variable_power, quotient, lcm, degree, Divides}

pub exponent_past : (a : Exponents) (i : ℕ) → 17 ≤ i → exponent a i ≡ 0
exponent_past a i past = get_or_past a.list i 0 (omega (arith, a.long))

-- monomials with one exponent at each place are one
pub same_exponents : (a b : Exponents) → ((i : ℕ) → i < 17 → exponent a i ≡ exponent b i) → a ≡ b
same_exponents a b each = same_list a b (ext_get_or 0 a.list b.list (a.long ∙ sym b.long) (λ i h. each i (omega (arith, a.long))))

pub exponent-by : (f : ℕ → ℕ) (i : ℕ) → i < 17 → exponent (exponents_by f) i ≡ f i
unfolding exponents_by
exponent-by f i h = get_or-map-range_with_len f 0 17 i i 0 h (omega arith)

-- the monomial of a list of seventeen exponents
pub exponent-of : (xs : List ℕ) (i : ℕ) → i < 17 → exponent (exponents_of xs) i ≡ get_or xs i 0
unfolding exponents_of
exponent-of xs i h = exponent-by (λ k. get_or xs k 0) i h

-- seventeen exponents are kept as they are
pub list-of : (xs : List ℕ) → length xs ≡ 17 → (exponents_of xs).list ≡ xs
list-of xs long = ext_get_or 0 (exponents_of xs).list xs ((exponents_of xs).long ∙ sym long) (λ i h. exponent-of xs i (omega (arith, (exponents_of xs).long)))

-- exponents and their sum come back from their monomial
pub fields_from_value : {F : Type 0} (made : List ℕ → ℕ → F) (xs : List ℕ) (d : ℕ) → length xs ≡ 17 → d ≡ sum xs → made (exponents_of xs).list (sum (exponents_of xs).list) ≡ made xs d
fields_from_value made xs d long e = λ i. made (list-of xs long i) ((ap sum (list-of xs long) ∙ sym e) i)

-- the same at each place, where the function is 0 past the last one
exponent-by_all : (f : ℕ → ℕ) (i : ℕ) → (17 ≤ i → f i ≡ 0) → exponent (exponents_by f) i ≡ f i
exponent-by_all f i none = elim (cases_lt i 17) [
  | inl within ↦ exponent-by f i within
  | inr past ↦ exponent_past (exponents_by f) i past ∙ sym (none past)
]

pub exponent-one : (i : ℕ) → exponent one i ≡ 0
unfolding one
exponent-one i = exponent-by_all (λ _. 0) i (λ _. refl)

pub exponent-times : (a b : Exponents) (i : ℕ) → exponent (times a b) i ≡ exponent a i + exponent b i
unfolding times
exponent-times a b i = exponent-by_all (λ k. exponent a k + exponent b k) i (λ past. omega (arith, exponent_past a i past, exponent_past b i past))

pub exponent-power : (a : Exponents) (n i : ℕ) → exponent (power a n) i ≡ n * exponent a i
unfolding power
exponent-power a n i = exponent-by_all (λ k. n * exponent a k) i (λ past. ap (λ x. n * x) (exponent_past a i past) ∙ omega arith)

pub exponent-quotient : (b a : Exponents) (i : ℕ) → exponent (quotient b a) i ≡ exponent b i - exponent a i
unfolding quotient
exponent-quotient b a i = exponent-by_all (λ k. exponent b k - exponent a k) i (λ past. omega (arith, exponent_past b i past))

pub exponent-lcm : (a b : Exponents) (i : ℕ) → exponent (lcm a b) i ≡ max (exponent a i) (exponent b i)
unfolding lcm
exponent-lcm a b i = exponent-by_all (λ k. max (exponent a k) (exponent b k)) i (λ past. omega (arith, exponent_past a i past, exponent_past b i past))

-- ---- a power of a variable
pub exponent_same : (i e : ℕ) → i < 17 → exponent (variable_power i e) i ≡ e
unfolding variable_power
exponent_same i e h = exponent-by (λ k. if i == k then e else 0) i h ∙ (λ j. if eq-eqb i i refl j then e else 0)

pub exponent_other : (i e k : ℕ) → i ≢ k → exponent (variable_power i e) k ≡ 0
unfolding variable_power
exponent_other i e k other = elim (cases_lt k 17) [
  | inl within ↦ exponent-by (λ k. if i == k then e else 0) k within ∙ (λ j. if ne_eqb i k other j then e else 0)
  | inr past ↦ exponent_past (exponents_by (λ k. if i == k then e else 0)) k past
]

pub times_comm : (a b : Exponents) → times a b ≡ times b a
times_comm a b = same_exponents _ _ (λ i _. omega (arith, exponent-times a b i, exponent-times b a i))

pub times_assoc : (a b c : Exponents) → times (times a b) c ≡ times a (times b c)
times_assoc a b c = same_exponents _ _ (λ i _. omega (arith, exponent-times (times a b) c i, exponent-times a b i, exponent-times a (times b c) i, exponent-times b c i))

pub one-times : (a : Exponents) → times one a ≡ a
one-times a = same_exponents _ _ (λ i _. omega (arith, exponent-times one a i, exponent-one i))

pub times-one : (a : Exponents) → times a one ≡ a
times-one a = times_comm a one ∙ one-times a

pub quotient-times : (a b : Exponents) → quotient (times a b) a ≡ b
quotient-times a b = same_exponents _ _ (λ i _. omega (arith, exponent-quotient (times a b) a i, exponent-times a b i))

pub times_cancel : (a b c : Exponents) → times a b ≡ times a c → b ≡ c
times_cancel a b c e = sym (quotient-times a b) ∙ ap (λ m. quotient m a) e ∙ quotient-times a c

-- a monomial divides another where it does at each place
pub divides_at_places : (a b : Exponents) → ((i : ℕ) → i < 17 → exponent a i ≤ exponent b i) → times a (quotient b a) ≡ b
divides_at_places a b each = same_exponents _ _ (λ i h. omega (arith, exponent-times a (quotient b a) i, exponent-quotient b a i, each i h))

pub places_of_divides : (a b : Exponents) → Divides a b → (i : ℕ) → exponent a i ≤ exponent b i
places_of_divides a b d i = omega (arith, exponent-times a d.cofactor i, ap (λ m. exponent m i) d.product)

pub times-quotient : (a b : Exponents) → Divides a b → times a (quotient b a) ≡ b
times-quotient a b d = divides_at_places a b (λ i _. places_of_divides a b d i)

pub lcm_comm : (a b : Exponents) → lcm a b ≡ lcm b a
lcm_comm a b = same_exponents _ _ (λ i _. omega (arith, exponent-lcm a b i, exponent-lcm b a i))

-- the least common multiple is a multiple of the first
pub quotient-lcm : (a b : Exponents) → times (quotient (lcm a b) a) a ≡ lcm a b
quotient-lcm a b = same_exponents _ _ (λ i _. omega (arith, exponent-times (quotient (lcm a b) a) a i, exponent-quotient (lcm a b) a i, exponent-lcm a b i))

-- a common multiple is a multiple of the least one
pub common_multiple : (a x b y : Exponents) → times a x ≡ times b y → times (quotient (times a x) (lcm x y)) (quotient (lcm x y) x) ≡ a
common_multiple a x b y e = same_exponents _ _ (λ i _. omega (
  arith,
  exponent-times (quotient (times a x) (lcm x y)) (quotient (lcm x y) x) i,
  exponent-quotient (times a x) (lcm x y) i,
  exponent-quotient (lcm x y) x i,
  exponent-lcm x y i,
  exponent-times a x i,
  exponent-times b y i,
  ap (λ m. exponent m i) e,
))

pub divides_exactly : (a b : Exponents) → Divides a b ↔ ((i : ℕ) → i < 17 → exponent a i ≤ exponent b i)
divides_exactly a b = (λ d i _. places_of_divides a b d i, λ each. record { cofactor = quotient b a; product = divides_at_places a b each })

pub lcm_multiple : (a b : Exponents) → Divides a (lcm a b) × Divides b (lcm a b)
lcm_multiple a b = (
  record { cofactor = quotient (lcm a b) a; product = divides_at_places a (lcm a b) (λ i _. omega (arith, exponent-lcm a b i)) },
  record { cofactor = quotient (lcm a b) b; product = divides_at_places b (lcm a b) (λ i _. omega (arith, exponent-lcm a b i)) },
)

pub lcm_least : (a b c : Exponents) → Divides a c → Divides b c → Divides (lcm a b) c
lcm_least a b c d e = record {
  cofactor = quotient c (lcm a b);
  product = divides_at_places (lcm a b) c (λ i _. omega (arith, exponent-lcm a b i, places_of_divides a c d i, places_of_divides b c e i));
}

pub power-zero : (a : Exponents) → power a 0 ≡ one
power-zero a = same_exponents _ _ (λ i _. omega (arith, exponent-power a 0 i, exponent-one i))

pub power-suc : (a : Exponents) (n : ℕ) → power a (suc n) ≡ times a (power a n)
power-suc a n = same_exponents _ _ (λ i _. omega (arith, exponent-power a (suc n) i, exponent-times a (power a n) i, exponent-power a n i))

pub power-times : (a b : Exponents) (n : ℕ) → power (times a b) n ≡ times (power a n) (power b n)
power-times a b n = same_exponents _ _ (λ i _. omega (arith, exponent-power (times a b) n i, ap (λ x. n * x) (exponent-times a b i), exponent-times (power a n) (power b n) i, exponent-power a n i, exponent-power b n i))

sum_by-add : (f g : ℕ → ℕ) (xs : List ℕ) → sum_by (λ i. f i + g i) xs ≡ sum_by f xs + sum_by g xs
sum_by-add f g [] = refl
sum_by-add f g (x ∷ xs) = omega (arith, sum_by-cons (λ i. f i + g i) x xs, sum_by-cons f x xs, sum_by-cons g x xs, sum_by-add f g xs)

pub degree-by : (f : ℕ → ℕ) → degree (exponents_by f) ≡ sum_by f (range_with_len 0 17)
unfolding degree exponents_by
degree-by f = sum-map f (range_with_len 0 17)

-- the exponents of a monomial give it back
pub by-exponent : (a : Exponents) → exponents_by (exponent a) ≡ a
by-exponent a = same_exponents _ _ (exponent-by (exponent a))

pub degree_sum : (a : Exponents) → degree a ≡ sum_by (exponent a) (range_with_len 0 17)
degree_sum a = sym (ap degree (by-exponent a)) ∙ degree-by (exponent a)

pub degree-times : (a b : Exponents) → degree (times a b) ≡ degree a + degree b
unfolding times
degree-times a b =
    degree-by (λ i. exponent a i + exponent b i)
    ∙ sum_by-add (exponent a) (exponent b) (range_with_len 0 17)
    ∙ (λ i. sym (degree_sum a) i + sym (degree_sum b) i)

-- the least common multiple has at most the degree of the product
pub degree-lcm_le : (a b : Exponents) → degree (lcm a b) ≤ degree a + degree b
unfolding lcm
degree-lcm_le a b = omega (
  arith,
  degree-by (λ i. max (exponent a i) (exponent b i)),
  sum_by-le-sum_by (λ i. max (exponent a i) (exponent b i)) (λ i. exponent a i + exponent b i) (range_with_len 0 17) (λ i. omega arith),
  sum_by-add (exponent a) (exponent b) (range_with_len 0 17),
  degree_sum a,
  degree_sum b,
)

pub degree-one : degree one ≡ 0
unfolding degree one exponents_by
degree-one = refl
