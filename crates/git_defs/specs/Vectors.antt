-- Vectors of integers, as lists of entries: sums, multiples, inner products, independence.
use Rattle.std.specs.Prelude.{◌≡◌, ℕ, zero, suc, ◌<◌, List, [], ◌∷◌, ℤ, pos, ◌+ℤ◌, ◌*ℤ◌, map, replicate, length, slice_index, All, Contains, SomeIndex}
use Rattle.std.specs.Ordering.{int_cmp}
use Rattle.std.specs.declared.cmp.Ordering.TheVariants.{Less}
use Rattle.std.specs.Cmp.Lexicographic.{slice_cmp}

abbrev pub Vector : Type 0
Vector = List ℤ

-- each of the vectors has k entries
abbrev pub AllOfLength : ℕ → List Vector → Type 0
AllOfLength k vs = All (λ v. length v ≡ k) vs

abbrev pub zero_vector : ℕ → Vector
zero_vector k = replicate k (pos 0)

abbrev pub scale : ℤ → Vector → Vector
scale c v = map (λ x. c *ℤ x) v

-- the sum of two vectors of one length
abbrev pub plus : Vector → Vector → Vector
plus (x ∷ xs) (y ∷ ys) = (x +ℤ y) ∷ plus xs ys
plus xs ys = []

-- the inner product of two vectors of one length
abbrev pub dot : Vector → Vector → ℤ
dot (x ∷ xs) (y ∷ ys) = x *ℤ y +ℤ dot xs ys
dot xs ys = pos 0

-- e_1 to e_k
abbrev pub units : ℕ → List Vector
units zero = []
units (suc k) = (pos 1 ∷ zero_vector k) ∷ map (λ (v : Vector). pos 0 ∷ v) (units k)

-- the sum of the vectors, each times its number
abbrev pub combination : ℕ → List ℤ → List Vector → Vector
combination k (c ∷ cs) (v ∷ vs) = plus (scale c v) (combination k cs vs)
combination k cs vs = zero_vector k

abbrev pub vector_sum : ℕ → List Vector → Vector
vector_sum k [] = zero_vector k
vector_sum k (v ∷ vs) = plus v (vector_sum k vs)

-- no number but 1 divides all entries
abbrev pub IsPrimitive : Vector → Type 0
IsPrimitive v = (d : ℕ) (w : Vector) → v ≡ scale (pos d) w → d ≡ 1

-- v comes before w in the order of their first difference
abbrev pub Precedes : Vector → Vector → Type 0
Precedes v w = slice_cmp int_cmp v w ≡ Less

-- only with all numbers 0 do they sum to 0
abbrev pub AreIndependent : ℕ → List Vector → Type 0
AreIndependent k vs = (cs : List ℤ) → length cs ≡ length vs → combination k cs vs ≡ zero_vector k → All (λ c. c ≡ pos 0) cs

-- some k of the vectors, each of k entries, are independent
pub record HasRank (k : ℕ) (vs : List Vector) : Type 0 where
  pub chosen : List Vector
  pub from : All (Contains vs) chosen
  pub entries : AllOfLength k chosen
  pub count : length chosen ≡ k
  pub independent : AreIndependent k chosen

-- natural numbers, not all 0, with which they sum to 0
pub record HasZeroSum (k : ℕ) (vs : List Vector) : Type 0 where
  pub numbers : List ℕ
  pub one_each : length numbers ≡ length vs
  pub some : SomeIndex numbers (λ i. 0 < slice_index numbers i)
  pub zero_sum : combination k (map pos numbers) vs ≡ zero_vector k
