-- Inputs that are made from numbers.
use Rattle.std.specs.Prelude.{◌≡◌, ℕ, zero, suc, ◌+◌, ◌-◌, ◌*◌, ◌/◌, ◌%◌, ◌==◌, if◌then◌else◌, List, [], ◌∷◌, ◌++◌, map, pos}
use Rattle.std.specs.List.{range_with_len}
use Rattle.std.proofs.Common.{get_or}
use Rattle.git_words.specs.declared.commands.Sample.{Sample}
use Rattle.git_words.specs.declared.commands.Sample.TheVariants.{Points, Plucker}
use Rattle.git_defs.specs.Vectors.{Vector, plus, units}
use Rattle.git_algebra.specs.Exponents.{Exponents, times, variable_power}
use Rattle.git_algebra.specs.Polynomials.{Polynomial}
use Rattle.git_algebra.specs.Operations as algebra
use Rattle.git_input.specs.Inputs.{InputValue}

-- ---- points of a plane

-- the state of the draws after x
abbrev pub next_state : ℕ → ℕ
next_state x = (1103515245 * x + 12345) % 2147483648

-- the state after n draws
abbrev pub state : ℕ → ℕ → ℕ
state seed zero = seed
state seed (suc n) = next_state (state seed n)

-- what is drawn with a state, below 64
abbrev pub drawn : ℕ → ℕ
drawn x = x / 65536 % 64

-- draw number n, from 1
abbrev pub draw : ℕ → ℕ → ℕ
draw seed n = drawn (state seed n)

-- column number i of those that are drawn, from 0: the point (a, b) at height 1, a drawn before b
abbrev pub drawn_column : ℕ → ℕ → Vector
drawn_column seed i = pos 1 ∷ pos (draw seed (i * 2 + 1)) ∷ pos (draw seed (i * 2 + 2)) ∷ []

-- three corners of a square, at height 1
abbrev pub corners : List Vector
corners = (pos 1 ∷ pos 0 ∷ pos 0 ∷ []) ∷ (pos 1 ∷ pos 63 ∷ pos 0 ∷ []) ∷ (pos 1 ∷ pos 0 ∷ pos 63 ∷ []) ∷ []

abbrev pub points_columns : ℕ → ℕ → List Vector
points_columns n seed = corners ++ map (drawn_column seed) (range_with_len 0 (n - 3))

-- n points: the corners, and points that are drawn; no generators
abbrev pub points_of : ℕ → ℕ → InputValue
points_of n seed = record { degrees = record { k = 3; columns = points_columns n seed }; generators = [] }

-- ---- Pluecker relations

-- the choices of so many members of a list, in order
abbrev pub choices : ℕ → List ℕ → List (List ℕ)
choices zero xs = [] ∷ []
choices (suc m) [] = []
choices (suc m) (x ∷ xs) = map (λ (c : List ℕ). x ∷ c) (choices m xs) ++ choices (suc m) xs

-- the pairs i < j of 1 to n, in lexicographic order
abbrev pub pairs : ℕ → List (List ℕ)
pairs n = choices 2 (range_with_len 1 n)

-- e_i of n entries
abbrev pub unit_of : ℕ → ℕ → Vector
unit_of n i = get_or (units n) (i - 1) []

-- e_i + e_j
abbrev pub pair_column : ℕ → List ℕ → Vector
pair_column n (i ∷ j ∷ []) = plus (unit_of n i) (unit_of n j)
pair_column n others = []

-- the place of a pair among the pairs
abbrev pub place_in : List (List ℕ) → ℕ → ℕ → ℕ
place_in [] i j = 0
place_in ((a ∷ b ∷ []) ∷ others) i j = if a == i then (if b == j then 0 else place_in others i j + 1) else place_in others i j + 1
place_in (c ∷ others) i j = place_in others i j + 1

-- T_ij T_kl, the variable T_ij standing at the place of its pair
abbrev pub pair_product : ℕ → ℕ → ℕ → ℕ → ℕ → Exponents
pair_product n i j k l = times (variable_power (place_in (pairs n) i j) 1) (variable_power (place_in (pairs n) k l) 1)

-- a - b + c, each of them a monomial
abbrev pub three_terms : Exponents → Exponents → Exponents → Polynomial
three_terms a b c = algebra.plus (algebra.minus (algebra.term_of a 1) (algebra.term_of b 1)) (algebra.term_of c 1)

-- T_ab T_cd - T_ac T_bd + T_ad T_bc
abbrev pub relation : ℕ → List ℕ → Polynomial
relation n (a ∷ b ∷ c ∷ d ∷ []) = three_terms (pair_product n a b c d) (pair_product n a c b d) (pair_product n a d b c)
relation n others = algebra.zero_polynomial

abbrev pub plucker_columns : ℕ → List Vector
plucker_columns n = map (pair_column n) (pairs n)

-- for each a < b < c < d of 1 to n, in lexicographic order
abbrev pub plucker_relations : ℕ → List Polynomial
plucker_relations n = map (relation n) (choices 4 (range_with_len 1 n))

abbrev pub plucker_of : ℕ → InputValue
plucker_of n = record { degrees = record { k = n; columns = plucker_columns n }; generators = plucker_relations n }

-- ---- samples

-- the sample is this input
abbrev pub IsSample : Sample → InputValue → Type 0
IsSample (Points n seed) v = v ≡ points_of n seed
IsSample (Plucker n) v = v ≡ plucker_of n
